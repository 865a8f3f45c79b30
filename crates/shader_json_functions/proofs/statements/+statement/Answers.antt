use Rattle.std.proofs.Common.{◌≡◌, ◌<◌, ◌≤◌, arith, length, refl, rules}
use Rattle.json.specs.Json.{array}
use Rattle.json.specs.Tree.{json_tokens, members_tokens}
use Rattle.json.specs.Value.{items_view, members_view, value_view}
use Rattle.shader_json_reader.proofs.AnswerLemmas.{in_arm, of_items, of_members, passed_on}
use Rattle.shader_json_declarations.proofs.ListLemmas.{array_view}
use Rattle.shader_json_functions.specs.Statements.{AreCases, AreStatements, IsStepOf}
use Rattle.shader_json_functions.proofs.AcceptLemmas.{no_members_in, nth_case, nth_statement, of_if, of_loop, of_nested, of_simple, of_switch}
use Rattle.shader_json_functions.proofs.ShorterLemmas.{found_shorter, item_shorter, value_shorter}
use Rattle.shader_json_functions.proofs.StatementLemmas.{all_cases, all_statements, cases_more, statements_more}
use Rattle.shader_json_functions.proofs.statements.+statement.Goals as goal

pub block-statement_at-requires : goal.block-statement_at-requires
block-statement_at-requires t c =
    let items = c.deref-item-items.result.now in
    let is : value_view c.args.value.now ≡ array (items_view items) =
    array_view c.args.value.now c.in-Array.items items c.in-Array.is c.deref-item-items.ensures.value in
    let shorter : length (json_tokens (value_view c.item-item.result)) < length (json_tokens (value_view c.args.value.now)) =
    item_shorter (value_view c.args.value.now) items c.loop-index.index c.item-item.result is c.loop-index-test.true c.item-item.is in
    search rules

pub block-loop-index-preserved : goal.block-loop-index-preserved
block-loop-index-preserved t c =
    statements_more c.deref-item-items.result.now c.loop-index.index c.item-item.result c.loop-index.statements.items c.in_ok-read.read
    c.push.new.self.items c.in_ok-push.ensures.items c.loop-index-test.true c.item-item.is c.loop-index.invariant c.in_ok-read.ensures.reads

pub block-returns-in_err-read-clause-accepts : goal.block-returns-in_err-read-clause-accepts
block-returns-in_err-read-clause-accepts t c = λ x h.
    let items = c.deref-item-items.result.now in
    let is : value_view c.args.value.now ≡ array (items_view items) =
    array_view c.args.value.now c.in-Array.items items c.in-Array.is c.deref-item-items.ensures.value in
    let each = of_items (λ js. AreStatements x js) (value_view c.args.value.now) (items_view items) is h in
    nth_statement items c.loop-index.index c.item-item.result x c.loop-index-test.true c.item-item.is each
    (λ step u. passed_on _ _ c.from_residual-in_err-read.ensures.1 (c.in_err-read.ensures.accepts step u))

pub block-returns-clause-reads : goal.block-returns-clause-reads
block-returns-clause-reads t c =
    let items = c.deref-item-items.result.now in
    let is : value_view c.args.value.now ≡ array (items_view items) =
    array_view c.args.value.now c.in-Array.items items c.in-Array.is c.deref-item-items.ensures.value in
    let end : length items ≤ c.loop-index.index = omega arith in
    all_statements (value_view c.args.value.now) items c.loop-index.index c.loop-index.statements.items is end c.loop-index.invariant

pub case_list-case_at-requires : goal.case_list-case_at-requires
case_list-case_at-requires t c =
    let items = c.deref-item-items.result.now in
    let is : value_view c.args.value.now ≡ array (items_view items) =
    array_view c.args.value.now c.in-Array.items items c.in-Array.is c.deref-item-items.ensures.value in
    let shorter : length (json_tokens (value_view c.item-item.result)) < length (json_tokens (value_view c.args.value.now)) =
    item_shorter (value_view c.args.value.now) items c.loop-index.index c.item-item.result is c.loop-index-test.true c.item-item.is in
    search rules

pub case_list-loop-index-preserved : goal.case_list-loop-index-preserved
case_list-loop-index-preserved t c =
    cases_more c.deref-item-items.result.now c.loop-index.index c.item-item.result c.loop-index.cases.items c.in_ok-read.read
    c.push.new.self.items c.in_ok-push.ensures.items c.loop-index-test.true c.item-item.is c.loop-index.invariant c.in_ok-read.ensures.reads

pub case_list-returns-in_err-read-clause-accepts : goal.case_list-returns-in_err-read-clause-accepts
case_list-returns-in_err-read-clause-accepts t c = λ x h.
    let items = c.deref-item-items.result.now in
    let is : value_view c.args.value.now ≡ array (items_view items) =
    array_view c.args.value.now c.in-Array.items items c.in-Array.is c.deref-item-items.ensures.value in
    let each = of_items (λ js. AreCases x js) (value_view c.args.value.now) (items_view items) is h in
    nth_case items c.loop-index.index c.item-item.result x c.loop-index-test.true c.item-item.is each
    (λ case u. passed_on _ _ c.from_residual-in_err-read.ensures.1 (c.in_err-read.ensures.accepts case u))

pub case_list-returns-clause-reads : goal.case_list-returns-clause-reads
case_list-returns-clause-reads t c =
    let items = c.deref-item-items.result.now in
    let is : value_view c.args.value.now ≡ array (items_view items) =
    array_view c.args.value.now c.in-Array.items items c.in-Array.is c.deref-item-items.ensures.value in
    let end : length items ≤ c.loop-index.index = omega arith in
    all_cases (value_view c.args.value.now) items c.loop-index.index c.loop-index.cases.items is end c.loop-index.invariant

pub inner-block-requires : goal.inner-block-requires
inner-block-requires t c =
    let shorter : length (json_tokens (value_view c.in-Ok.value.now)) < length (members_tokens (members_view c.args.fields.members.now)) =
    value_shorter _ _ _ c.in-Ok.ensures.reads in
    search rules

pub cases-case_list-requires : goal.cases-case_list-requires
cases-case_list-requires t c =
    let shorter : length (json_tokens (value_view c.in-Ok.value.now)) < length (members_tokens (members_view c.args.fields.members.now)) =
    value_shorter _ _ _ c.in-Ok.ensures.reads in
    search rules

pub nested-returns-in_err-within-clause-accepts : goal.nested-returns-in_err-within-clause-accepts
nested-returns-in_err-within-clause-accepts t c x h = of_nested _ (λ body u.
    passed_on _ _ c.from_residual.ensures.1 (c.in_err-within.ensures.accepts (c.block.ensures.accepts body u))) x h

pub if_else-returns-in_err-fields-clause-accepts : goal.if_else-returns-in_err-fields-clause-accepts
if_else-returns-in_err-fields-clause-accepts t c x h = of_if _ (λ condition accept reject u.
    no_members_in _ _ _ _ c.from_residual.ensures.1 c.in_err-fields.ensures.accepts u) x h

pub if_else-returns-in_err-needed-clause-accepts : goal.if_else-returns-in_err-needed-clause-accepts
if_else-returns-in_err-needed-clause-accepts t c x h = of_if _ (λ condition accept reject u.
    let f = of_members _ _ _ c.in_ok-fields.ensures.reads u in
    passed_on _ _ c.from_residual-in_err-needed.ensures.1 (c.in_err-needed.ensures.accepts condition f.0)) x h

pub if_else-returns-in_err-inner-clause-accepts : goal.if_else-returns-in_err-inner-clause-accepts
if_else-returns-in_err-inner-clause-accepts t c x h = of_if _ (λ condition accept reject u.
    let f = of_members _ _ _ c.in_ok-fields.ensures.reads u in
    passed_on _ _ c.from_residual-in_err-inner.ensures.1 (c.in_err-inner.ensures.accepts accept f.1)) x h

pub if_else-returns-in_err-inner-2-clause-accepts : goal.if_else-returns-in_err-inner-2-clause-accepts
if_else-returns-in_err-inner-2-clause-accepts t c x h = of_if _ (λ condition accept reject u.
    let f = of_members _ _ _ c.in_ok-fields.ensures.reads u in
    passed_on _ _ c.from_residual-in_err-inner-2.ensures.1 (c.in_err-inner-2.ensures.accepts reject f.2)) x h

pub switch-returns-in_err-fields-clause-accepts : goal.switch-returns-in_err-fields-clause-accepts
switch-returns-in_err-fields-clause-accepts t c x h = of_switch _ (λ selector cases u.
    no_members_in _ _ _ _ c.from_residual.ensures.1 c.in_err-fields.ensures.accepts u) x h

pub switch-returns-in_err-needed-clause-accepts : goal.switch-returns-in_err-needed-clause-accepts
switch-returns-in_err-needed-clause-accepts t c x h = of_switch _ (λ selector cases u.
    let f = of_members _ _ _ c.in_ok-fields.ensures.reads u in
    passed_on _ _ c.from_residual-in_err-needed.ensures.1 (c.in_err-needed.ensures.accepts selector f.0)) x h

pub switch-returns-in_err-cases-clause-accepts : goal.switch-returns-in_err-cases-clause-accepts
switch-returns-in_err-cases-clause-accepts t c x h = of_switch _ (λ selector cases u.
    let f = of_members _ _ _ c.in_ok-fields.ensures.reads u in
    passed_on _ _ c.from_residual-in_err-cases.ensures.1 (c.in_err-cases.ensures.accepts cases f.1)) x h

pub repeat-returns-in_err-fields-clause-accepts : goal.repeat-returns-in_err-fields-clause-accepts
repeat-returns-in_err-fields-clause-accepts t c x h = of_loop _ (λ body continuing break_if u.
    no_members_in _ _ _ _ c.from_residual.ensures.1 c.in_err-fields.ensures.accepts u) x h

pub repeat-returns-in_err-inner-clause-accepts : goal.repeat-returns-in_err-inner-clause-accepts
repeat-returns-in_err-inner-clause-accepts t c x h = of_loop _ (λ body continuing break_if u.
    let f = of_members _ _ _ c.in_ok-fields.ensures.reads u in
    passed_on _ _ c.from_residual-in_err-inner.ensures.1 (c.in_err-inner.ensures.accepts body f.0)) x h

pub repeat-returns-in_err-inner-2-clause-accepts : goal.repeat-returns-in_err-inner-2-clause-accepts
repeat-returns-in_err-inner-2-clause-accepts t c x h = of_loop _ (λ body continuing break_if u.
    let f = of_members _ _ _ c.in_ok-fields.ensures.reads u in
    passed_on _ _ c.from_residual-in_err-inner-2.ensures.1 (c.in_err-inner-2.ensures.accepts continuing f.1)) x h

pub repeat-returns-in_err-optional-clause-accepts : goal.repeat-returns-in_err-optional-clause-accepts
repeat-returns-in_err-optional-clause-accepts t c x h = of_loop _ (λ body continuing break_if u.
    let f = of_members _ _ _ c.in_ok-fields.ensures.reads u in
    passed_on _ _ c.from_residual-in_err-optional.ensures.1 (c.in_err-optional.ensures.accepts break_if f.2)) x h

pub case-returns-in_err-selected-clause-accepts : goal.case-returns-in_err-selected-clause-accepts
case-returns-in_err-selected-clause-accepts t c = λ x h.
    let f = of_members _ _ _ c.in_ok-fields.ensures.reads h in
    passed_on _ _ c.from_residual-in_err-selected.ensures.1 (c.in_err-selected.ensures.accepts (record { 0 = x.0 }) f.0)

pub case-returns-in_err-inner-clause-accepts : goal.case-returns-in_err-inner-clause-accepts
case-returns-in_err-inner-clause-accepts t c = λ x h.
    let f = of_members _ _ _ c.in_ok-fields.ensures.reads h in
    passed_on _ _ c.from_residual-in_err-inner.ensures.1 (c.in_err-inner.ensures.accepts x.1 f.1)

pub case-returns-in_err-needed-clause-accepts : goal.case-returns-in_err-needed-clause-accepts
case-returns-in_err-needed-clause-accepts t c = λ x h.
    let f = of_members _ _ _ c.in_ok-fields.ensures.reads h in
    passed_on _ _ c.from_residual-in_err-needed.ensures.1 (c.in_err-needed.ensures.accepts x.2 f.2)

pub statement-nested-requires : goal.statement-nested-requires
statement-nested-requires t c =
    let shorter : length (json_tokens (value_view c.in-Some.payload.value.now)) < length (json_tokens (value_view c.args.value.now)) =
    found_shorter _ (λ d. value_view d.value.now) c.in_ok-name.field-0.name.now c.in_ok-name.field-0.payload c.in-Some.payload
    c.in_ok-name.ensures.reads (search rules) in
    search rules

pub statement-if_else-requires : goal.statement-if_else-requires
statement-if_else-requires t c =
    let shorter : length (json_tokens (value_view c.in-Some.payload.value.now)) < length (json_tokens (value_view c.args.value.now)) =
    found_shorter _ (λ d. value_view d.value.now) c.in_ok-name.field-0.name.now c.in_ok-name.field-0.payload c.in-Some.payload
    c.in_ok-name.ensures.reads (search rules) in
    search rules

pub statement-switch-requires : goal.statement-switch-requires
statement-switch-requires t c =
    let shorter : length (json_tokens (value_view c.in-Some.payload.value.now)) < length (json_tokens (value_view c.args.value.now)) =
    found_shorter _ (λ d. value_view d.value.now) c.in_ok-name.field-0.name.now c.in_ok-name.field-0.payload c.in-Some.payload
    c.in_ok-name.ensures.reads (search rules) in
    search rules

pub statement-repeat-requires : goal.statement-repeat-requires
statement-repeat-requires t c =
    let shorter : length (json_tokens (value_view c.in-Some.payload.value.now)) < length (json_tokens (value_view c.args.value.now)) =
    found_shorter _ (λ d. value_view d.value.now) c.in_ok-name.field-0.name.now c.in_ok-name.field-0.payload c.in-Some.payload
    c.in_ok-name.ensures.reads (search rules) in
    search rules

pub statement-returns-in_default-name-clause-accepts : goal.statement-returns-in_default-name-clause-accepts
statement-returns-in_default-name-clause-accepts t c = λ x h.
    let other = c.in_default-name in
    of_simple c.in_ok-name.field-0.name.now _ other.not-Block other.not-If other.not-Switch other.not-Loop c.simple.ensures.accepts x
    (in_arm (λ name payload. IsStepOf x name payload) (value_view c.args.value.now) c.in_ok-name.field-0.name.now c.in_ok-name.field-0.name.now (λ d. value_view d.value.now) c.in_ok-name.field-0.payload c.in-Some.payload c.in_ok-name.ensures.reads
    refl (search rules) h)

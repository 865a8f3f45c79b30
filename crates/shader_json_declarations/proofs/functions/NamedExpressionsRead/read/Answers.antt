use Rattle.std.proofs.Common.{rules, ◌≡◌, ◌≤◌, ◌++◌, ◌∷◌, [], ℕ, List, length, subst, arith}
use Rattle.std.specs.Map.{keys_of}
use Rattle.json.specs.Json.{number}
use Rattle.shader_json_reader.specs.Shapes.{IsAbsent}
use Rattle.shader_json_reader.proofs.AnswerLemmas.{passed_on}
use Rattle.shader_json_reader.proofs.NumberLemmas.{handle_same}
use Rattle.shader_json_declarations.proofs.DistinctLemmas.{keys_more}
use Rattle.shader_json_declarations.proofs.EntryLemmas.{all_names, name_at, names_more, was_within}
use Rattle.shader_json_declarations.proofs.functions.NamedExpressionsRead.read.Goals as goal

pub loop-index-preserved : goal.loop-index-preserved
loop-index-preserved c =
    let names = c.loop-index.names in
    let name : ℕ × List ℕ = (c.in-Some.handle, c.in_ok-name.name) in
    let added : c.add_entry.new.entries ≡ names ++ name ∷ [] =
    was_within c.add_entry.result c.add_entry.ensures.added c.in_ok-within.ensures.err in
    let absent : IsAbsent c.in-Some.handle (keys_of names) =
    was_within c.add_entry.result c.add_entry.ensures.absent c.in_ok-within.ensures.err in
    record {
      names = names_more c.deref-member-items.result.now c.loop-index.index c.member-item.result names name c.add_entry.new.entries added
          c.loop-index-test.true c.member-item.is c.loop-index.invariant.names c.in-Some.ensures.some c.in_ok-name.ensures.reads;
      keys = keys_more names name c.add_entry.new.entries added absent c.loop-index.invariant.keys;
    }

pub returns-in_default-handle_of-clause-accepts : goal.returns-in_default-handle_of-clause-accepts
returns-in_default-handle_of-clause-accepts c = λ names h.
    name_at c.args.value.now c.in-Object.members c.deref-member-items.result.now c.loop-index.index c.member-item.result
    c.loop-index.names names c.in-Object.is c.deref-member-items.ensures.value c.loop-index-test.true c.member-item.is
    c.loop-index.invariant.names h (λ x key text absent. absurd (c.in_default-handle_of.ensures.none x.0 key))

pub returns-in_err-name-clause-accepts : goal.returns-in_err-name-clause-accepts
returns-in_err-name-clause-accepts c = λ names h.
    passed_on _ _ c.from_residual.ensures.1
    (name_at c.args.value.now c.in-Object.members c.deref-member-items.result.now c.loop-index.index c.member-item.result
    c.loop-index.names names c.in-Object.is c.deref-member-items.ensures.value c.loop-index-test.true c.member-item.is
    c.loop-index.invariant.names h (λ x key text absent. c.in_err-name.ensures.accepts x.1 text))

pub returns-in_err-within-clause-accepts : goal.returns-in_err-within-clause-accepts
returns-in_err-within-clause-accepts c = λ names h.
    passed_on _ _ c.from_residual-in_err-within.ensures.1
    (name_at c.args.value.now c.in-Object.members c.deref-member-items.result.now c.loop-index.index c.member-item.result
    c.loop-index.names names c.in-Object.is c.deref-member-items.ensures.value c.loop-index-test.true c.member-item.is
    c.loop-index.invariant.names h (λ x key text absent.
    let same : x.0 ≡ c.in-Some.handle = handle_same (number c.member-item.result.0.now) x.0 c.in-Some.handle key.1 c.in-Some.ensures.some.1 in
    c.in_err-within.ensures.accepts
    (c.add_entry.ensures.accepts (λ a b. (λ equal. search rules, λ equal. search rules)) (subst (λ k. IsAbsent k (keys_of c.loop-index.names)) same absent))))

pub returns : goal.returns
returns c =
    let members = c.deref-member-items.result.now in
    let end : length members ≤ c.loop-index.index = omega arith in
    record {
      reads = all_names c.args.value.now c.in-Object.members members c.loop-index.index c.loop-index.names c.in-Object.is
          c.deref-member-items.ensures.value end c.loop-index.invariant.names c.loop-index.invariant.keys;
      accepts = λ names h. tt;
    }

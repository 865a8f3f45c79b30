use Rattle.std.proofs.Common.{◌≤◌, ◌||◌, IsTrue, length, subst, arith}
use Rattle.std.specs.Str.{bytes_eq}
use Rattle.json.specs.Value.{members_view}
use Rattle.shader_json_reader.specs.Shapes.{HasOnly}
use Rattle.shader_json_declarations.proofs.FieldLemmas.{is_first, is_second, neither, only_at, only_more}
use Rattle.shader_json_declarations.proofs.ListLemmas.{take_over}
use Rattle.shader_json_declarations.proofs.fields.Fields.only.Goals as goal
use Rattle.shader_json_declarations.proofs.fields.Fields.only.Goals.{else-ne-via-then-ne+else-ne-2, else-ne-via-else-ne}

pub loop-index-preserved : goal.loop-index-preserved
loop-index-preserved c =
    let name = c.member-item.result.0.now in
    let first = bytes_eq name c.args.first.now in
    let second = bytes_eq name c.args.second.now in
    let here : IsTrue (first || second) = elim c.else-ne.branch [
      | else-ne-via-then-ne+else-ne-2 w ↦ is_second first second w.if-ne-2.ensures
      | else-ne-via-else-ne w ↦ is_first first second w.if-ne.ensures
    ] in
    only_more c.args.first.now c.args.second.now c.args.self.members.now c.loop-index.index c.member-item.result c.loop-index-test.true
    c.member-item.is c.loop-index.invariant here

pub returns-clause-reads : goal.returns-clause-reads
returns-clause-reads c =
    let ms = c.args.self.members.now in
    let end : length ms ≤ c.loop-index.index = omega arith in
    subst (λ ns. HasOnly c.args.first.now c.args.second.now (members_view ns)) (take_over ms c.loop-index.index end)
    c.loop-index.invariant

pub returns-then-ne-2-clause-accepts : goal.returns-then-ne-2-clause-accepts
returns-then-ne-2-clause-accepts c = λ h.
    let name = c.member-item.result.0.now in
    neither (bytes_eq name c.args.first.now) (bytes_eq name c.args.second.now) c.if-ne.ensures c.if-ne-2.ensures
    (only_at c.args.first.now c.args.second.now c.args.self.members.now c.loop-index.index c.member-item.result c.loop-index-test.true
    c.member-item.is h)

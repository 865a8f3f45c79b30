use Rattle.std.proofs.Common.{◌≡◌, ◌+◌, ◌∙◌, ap, sym, take, option_map, length, arith}
use Rattle.std.proofs.Math.Seq.{take-length}
use Rattle.std.specs.Str.{bytes_eq}
use Rattle.json.specs.Value.{value_view, members_view}
use Rattle.shader_json_reader.specs.Shapes.{values_of, kept}
use Rattle.shader_json_declarations.proofs.FieldLemmas.{first_value, no_second, other_value, values_of-more}
use Rattle.shader_json_declarations.proofs.fields.Fields.find.Goals as goal
use Rattle.shader_json_declarations.proofs.fields.Fields.find.Goals.{then-eq+else-is_some, else-eq}

pub loop-index-preserved : goal.loop-index-preserved
loop-index-preserved c =
    let m = c.member-item.result in
    let i = c.loop-index.index in
    let ms = c.args.self.members.now in
    let name = c.args.name.now in
    let more = values_of-more name ms i m c.loop-index-test.true c.member-item.is in
    let before = values_of name (members_view (take i ms)) in
    elim c.if-eq.branch as (λ b. values_of name (members_view (take (i + 1) ms)) ≡ kept (option_map
    (λ f. value_view f.1.now) c.if-eq.found)) [
      | then-eq+else-is_some w ↦ more
          ∙ first_value (λ f. value_view f.1.now) c.loop-index.found before (bytes_eq m.0.now name)
          (value_view m.1) c.loop-index.invariant (w.if-is_some.ensures) (w.if-eq.ensures)
          ∙ sym (ap (λ found. kept (option_map (λ f. value_view f.1.now) found)) w.found-is)
      | else-eq w ↦ more ∙ other_value before (bytes_eq m.0.now name) (value_view m.1) (w.if-eq.ensures) ∙ c.loop-index.invariant
          ∙ sym (ap (λ found. kept (option_map (λ f. value_view f.1.now) found)) w.found-is)
    ]

pub returns-clause-reads : goal.returns-clause-reads
returns-clause-reads c =
    let ms = c.args.self.members.now in
    let end : length ms ≡ c.loop-index.index = omega arith in
    ap (λ xs. values_of c.args.name.now (members_view xs)) (sym (take-length ms) ∙ ap (λ n. take n ms) end) ∙ c.loop-index.invariant

pub returns-then-is_some-clause-accepts : goal.returns-then-is_some-clause-accepts
returns-then-is_some-clause-accepts c = λ one is.
    no_second c.args.name.now c.args.self.members.now c.loop-index.index c.member-item.result c.loop-index.found one c.loop-index-test.true
    c.member-item.is c.loop-index.invariant c.if-is_some.ensures c.if-eq.ensures is

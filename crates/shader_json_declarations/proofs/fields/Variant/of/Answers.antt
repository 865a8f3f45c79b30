use Rattle.std.proofs.Common.{arith}
use Rattle.shader_json_declarations.proofs.FieldLemmas.{not_one, object_view}
use Rattle.shader_json_declarations.proofs.fields.Variant.of.Goals as goal
use Rattle.shader_json_declarations.proofs.fields.Variant.of.Goals.{in_default-as_slice-via-then-as_slice-lt1, in_default-as_slice-via-else-as_slice-lt1+else-this-lt2}

pub returns-in_default-as_slice-clause-accepts : goal.returns-in_default-as_slice-clause-accepts
returns-in_default-as_slice-clause-accepts c = λ x h.
    let is = object_view c.args.value.now c.in-Object.members c.as_slice.result.now c.in-Object.is c.as_slice.ensures.value in
    elim c.in_default-as_slice.branch [
      | in_default-as_slice-via-then-as_slice-lt1 w ↦ not_one _ _ x is (λ one. grind arith) h
      | in_default-as_slice-via-else-as_slice-lt1+else-this-lt2 w ↦ not_one _ _ x is (λ one. grind arith) h
    ]

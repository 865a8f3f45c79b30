use Rattle.std.proofs.Common.{arith}
use Rattle.shader_json_declarations.proofs.ListLemmas.{array_view, not_two}
use Rattle.shader_json_declarations.proofs.special_types.read_pair.Goals.{in_default-as_slice-via-then-as_slice-lt2, in_default-as_slice-via-else-as_slice-lt2+else-this-lt3}
use Rattle.shader_json_declarations.proofs.special_types.read_pair.Goals as goal

pub returns-in_default-as_slice-clause-accepts : goal.returns-in_default-as_slice-clause-accepts
returns-in_default-as_slice-clause-accepts c = λ x h.
    let items = c.as_slice.result.now in
    let is = array_view c.args.pair.now c.in-Array.items items c.in-Array.is c.as_slice.ensures.value in
    elim c.in_default-as_slice.branch [
      | in_default-as_slice-via-then-as_slice-lt2 w ↦ not_two _ _ items is (λ two. grind arith) h
      | in_default-as_slice-via-else-as_slice-lt2+else-this-lt3 w ↦ not_two _ _ items is (λ two. grind arith) h
    ]

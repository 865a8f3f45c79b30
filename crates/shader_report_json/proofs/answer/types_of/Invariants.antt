use Rattle.std.proofs.Common.{◌≡◌, map, take}
use Rattle.shader_report_json.proofs.answer.types_of.Given as goal

abbrev pub invariant-loop-index : goal.invariant-loop-index
invariant-loop-index l = map (λ ty. ty.now) l.types.items ≡ take l.index l.infos.global_expressions

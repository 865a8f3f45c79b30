use Rattle.std.proofs.Common.{◌≡◌, take}
use Rattle.shader_report_json.proofs.answer.layouts_in.Given as goal

abbrev pub invariant-loop-index : goal.invariant-loop-index
invariant-loop-index l = l.layouts.items ≡ take l.index l.layouter

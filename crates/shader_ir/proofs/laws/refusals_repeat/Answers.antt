use Rattle.shader_ir.proofs.LayoutLawLemmas.{refusals_repeat}
use Rattle.shader_ir.proofs.laws.refusals_repeat.Goals as goal

pub returns : goal.returns
returns c = refusals_repeat

use Rattle.shader_ir.proofs.LayoutLawLemmas.{updates_compose}
use Rattle.shader_ir.proofs.laws.updates_compose.Goals as goal

pub returns : goal.returns
returns c = updates_compose

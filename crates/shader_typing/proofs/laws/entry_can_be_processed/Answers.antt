use Rattle.shader_typing.proofs.Growing.{entry_can_be_processed}
use Rattle.shader_typing.proofs.laws.entry_can_be_processed.Goals as goal

pub returns : goal.returns
returns c = entry_can_be_processed

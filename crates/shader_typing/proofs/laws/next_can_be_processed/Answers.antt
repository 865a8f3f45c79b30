use Rattle.shader_typing.proofs.Growing.{next_can_be_processed}
use Rattle.shader_typing.proofs.laws.next_can_be_processed.Goals as goal

pub returns : goal.returns
returns c = next_can_be_processed

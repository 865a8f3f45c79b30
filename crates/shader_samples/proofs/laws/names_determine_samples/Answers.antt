use Rattle.shader_samples.proofs.NameFacts.{named_back}
use Rattle.shader_samples.proofs.laws.names_determine_samples.Goals as goal

pub returns : goal.returns
returns c = named_back

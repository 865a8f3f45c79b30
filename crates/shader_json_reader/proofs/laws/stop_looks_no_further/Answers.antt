use Rattle.shader_json_reader.proofs.GrammarLemmas.{looks_no_further}
use Rattle.shader_json_reader.proofs.laws.stop_looks_no_further.Goals as goal

pub returns : goal.returns
returns c = looks_no_further

use Rattle.shader_json_module.proofs.Modules as modules
use Rattle.shader_json_module.proofs.laws.text_determines_module.Goals as goal

pub returns : goal.returns
returns c = modules.text_determines

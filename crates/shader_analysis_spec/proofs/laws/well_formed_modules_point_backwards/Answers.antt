use Rattle.shader_analysis_spec.proofs.EarlierLemmas.{point_backwards}
use Rattle.shader_analysis_spec.proofs.laws.well_formed_modules_point_backwards.Goals as goal

pub returns : goal.returns
returns c = point_backwards

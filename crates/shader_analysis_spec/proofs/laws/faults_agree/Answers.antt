use Rattle.shader_analysis_spec.proofs.FaultLemmas.{faults_agree}
use Rattle.shader_analysis_spec.proofs.laws.faults_agree.Goals as goal

pub returns : goal.returns
returns c = faults_agree

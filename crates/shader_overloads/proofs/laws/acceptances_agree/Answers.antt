use Rattle.shader_overloads.proofs.AgreementLemmas.{acceptances_agree}
use Rattle.shader_overloads.proofs.laws.acceptances_agree.Goals as goal

pub returns : goal.returns
returns c = acceptances_agree

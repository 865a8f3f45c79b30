use Rattle.report_answers.proofs.TextLemmas.{accepted_texts_agree}
use Rattle.report_answers.proofs.laws.accepted_texts_agree.Goals as goal

pub returns : goal.returns
returns c = accepted_texts_agree

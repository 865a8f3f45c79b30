use Rattle.shader_typing.proofs.Answering.{exact_records_answer}
use Rattle.shader_typing.proofs.laws.exact_records_answer.Goals as goal

pub returns : goal.returns
returns c = exact_records_answer

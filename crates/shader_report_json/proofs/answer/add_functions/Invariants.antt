use Rattle.std.proofs.Common.{take}
use Rattle.shader_report_json.specs.Answers.{AreAnswersOf}
use Rattle.shader_report_json.proofs.answer.add_functions.Given as goal

abbrev pub invariant-loop-index : goal.invariant-loop-index
invariant-loop-index l = AreAnswersOf (take l.index l.infos.functions) l.answers.items

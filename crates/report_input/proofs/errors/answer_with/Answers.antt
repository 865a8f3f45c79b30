use Rattle.std.proofs.Common.{IfOk, subst, sym}
use Rattle.report_input.specs.Errors.{IsAnswerWith}
use Rattle.report_input.proofs.errors.answer_with.Goals as goal

pub returns-in-NotJson : goal.returns-in-NotJson
returns-in-NotJson c =
    subst (λ error. IfOk c.at_byte-in-NotJson.result (λ text. IsAnswerWith c.args.diagnostic error text.items)) (sym c.in-NotJson.is)
    c.at_byte-in-NotJson.ensures

pub returns-in-TooDeep : goal.returns-in-TooDeep
returns-in-TooDeep c =
    subst (λ error. IfOk c.at_byte-in-TooDeep.result (λ text. IsAnswerWith c.args.diagnostic error text.items)) (sym c.in-TooDeep.is)
    c.at_byte-in-TooDeep.ensures

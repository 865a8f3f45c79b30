use Rattle.std.proofs.lemmas.Result.{IfOk-weaker}
use Rattle.report_input.proofs.errors.error_object.Goals as goal

pub returns : goal.returns
returns c =
    IfOk-weaker c.answer_with.result _ _
    (λ text printed. record { diagnostic = c.in_ok-diagnostic.diagnostic; of = c.in_ok-diagnostic.ensures; printed = printed })
    c.answer_with.ensures

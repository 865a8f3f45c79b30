use Rattle.std.proofs.lemmas.Result.{IfOk-weaker}
use Rattle.report_input.proofs.errors.nesting_object.Goals as goal

pub returns : goal.returns
returns c =
    IfOk-weaker c.at_path.result _ _
    (λ text printed. record { diagnostic = c.in_ok-diagnostic.diagnostic; of = c.in_ok-diagnostic.ensures; printed = printed })
    c.at_path.ensures

use Rattle.std.proofs.Common.{arith}
use Rattle.report_input.proofs.CodeLemmas.{elsewhere, whole}
use Rattle.report_input.proofs.codes.is_utf8_at.Goals as goal

pub returns-in-Ok : goal.returns-in-Ok
returns-in-Ok c = whole c.args.input.now c.args.byte c.in-Ok.ensures.cases.1

pub returns-else-valid_up_to-byte : goal.returns-else-valid_up_to-byte
returns-else-valid_up_to-byte c =
    elsewhere c.args.input.now c.in-Err.error.valid_up_to c.args.byte c.in-Err.ensures.cases.1
    (λ e. omega (arith, e, c.valid_up_to.ensures, c.if-valid_up_to-byte.false))

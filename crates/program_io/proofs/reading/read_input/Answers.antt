use Rattle.std.proofs.Common.{◌++◌, take, arith}
use Rattle.std.proofs.lemmas.Result.{err_from_is_err_and}
use Rattle.std.proofs.KnownBytes.{Consumes-trans}
use Rattle.program_io.proofs.Appending.{length-read}
use Rattle.program_io.proofs.reading.read_input.Goals as goal

pub returns-then-count-limit-clause-read : goal.returns-then-count-limit-clause-read
returns-then-count-limit-clause-read g c =
    let now = length-read c.loop-input.input.items c.read.new.piece c.in_ok-count.count c.in_ok-count.ensures.count in (
      c.loop-input.input.items ++ take c.in_ok-count.count c.read.new.piece,
      Consumes-trans _ _ _ _ _ c.loop-input.invariant.bytes c.in_ok-count.ensures.bytes.0,
      ((λ _. omega (arith, now)), λ _. cc),
    )

pub returns-in_err-extend_from_slice-clause-read : goal.returns-in_err-extend_from_slice-clause-read
returns-in_err-extend_from_slice-clause-read g c =
    let p = err_from_is_err_and c.from_residual-in_err-extend_from_slice.result c.from_residual-in_err-extend_from_slice.ensures.1 in
    let now = length-read c.loop-input.input.items c.read.new.piece c.in_ok-count.count c.in_ok-count.ensures.count in (
      c.loop-input.input.items ++ take c.in_ok-count.count c.read.new.piece,
      Consumes-trans _ _ _ _ _ c.loop-input.invariant.bytes c.in_ok-count.ensures.bytes.0,
      ((λ e. cc), λ over. absurd (omega (arith, now))),
    )

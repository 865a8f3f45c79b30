-- Failures of a copy, and their exit statuses.
use Rattle.std.specs.Prelude.{ℕ}
use Rattle.program_io.specs.declared.reading.InputError.{InputError}
use Rattle.program_io.specs.declared.reading.InputError.TheVariants as inputs
use Rattle.test_copy.specs.declared.copying.Failure.{Failure}
use Rattle.test_copy.specs.declared.copying.Failure.TheVariants.{Read, Write, OutOfMemory, TooLong}

abbrev pub failure_code : Failure → ℕ
failure_code Read = 3
failure_code Write = 4
failure_code OutOfMemory = 5
failure_code TooLong = 6

abbrev pub input_failure : InputError → Failure
input_failure inputs.ReadFailed = Read
input_failure inputs.TooLong = TooLong
input_failure inputs.OutOfMemory = OutOfMemory

-- an input may have 256 MiB, which is more than the memory that a test allows
abbrev pub most_input_bytes : ℕ
most_input_bytes = 268435456

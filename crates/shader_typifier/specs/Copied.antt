-- Copies of errors.
use Rattle.std.specs.Prelude.{◌≡◌}
use Rattle.shader_resolve.specs.Outcome.{HasWords, refusal_of, words_of}
use Rattle.shader_typifier.specs.declared.error.TypifyError.{TypifyError}
use Rattle.shader_typifier.specs.declared.error.TypifyError.TheVariants as error

-- the errors are the same, with the same text
abbrev pub IsCopyOf : TypifyError → TypifyError → Type 0
IsCopyOf error.HandleOutOfRange error.HandleOutOfRange = Unit {0}
IsCopyOf error.OperandNotEarlier error.OperandNotEarlier = Unit {0}
IsCopyOf (error.Resolve failure) (error.Resolve copy) = (refusal_of copy ≡ refusal_of failure) × (words_of copy ≡ words_of failure)
IsCopyOf failure copy = ⊥

-- the error has a text
abbrev pub HasText : TypifyError → Type 0
HasText (error.Resolve failure) = HasWords failure
HasText failure = ⊥

-- The bytes of a whole input.
use Rattle.std.proofs.Common.{◌∙◌, sym, subst, ap, ℕ, ◌++◌, Option, Some, None, List}
use Rattle.std.proofs.lemmas.List.{append-nil}
use Rattle.std.specs.Io.KnownBytes.{Consumes, IsAtEnd}
use Rattle.std.specs.Option.{IfSome}

-- a property of all bytes read up to the end holds of the bytes that a source had, if these are known
pub whole_input : (old new : Option (List ℕ)) (input : List ℕ) (P : List ℕ → Type 0) → Consumes old new input → IsAtEnd new →
    P input → IfSome old P
whole_input None new input P read end stored = tt
whole_input (Some xs) None input P read end stored = absurd read
whole_input (Some xs) (Some ys) input P read end stored = subst P
    (sym (read ∙ ap (λ (bytes : List ℕ). input ++ bytes) end ∙ append-nil input)) stored

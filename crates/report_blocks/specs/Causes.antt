-- Whether diagnostics have the same causes.
use Rattle.std.specs.Prelude.{ℕ, ◌-◌, ◌==◌, Bool, true, false, ◌&&◌, not, List, [], ◌∷◌, Option, Some, None, if◌then◌else◌, nat_eq}
use Rattle.std.specs.Prelude.{slice_get}
use Rattle.std.specs.Option.{option_eq}
use Rattle.std.specs.Str.{bytes_eq}
use Rattle.report_diagnostics.specs.declared.diagnostic.Diagnostic.{Diagnostic}
use Rattle.report_diagnostics.specs.declared.diagnostic.Related.{Related}
use Rattle.report_places.specs.contracts.body_place.BodyPlacePartialEq.TheImpl as place

abbrev pub is_same_pointer : Option (List ℕ) → Option (List ℕ) → Bool
is_same_pointer (Some one) (Some other) = bytes_eq one other
is_same_pointer (Some one) None = false
is_same_pointer None other = false

-- they stand at the same place in the JSON, and say the same
abbrev pub is_same : Related → Related → Bool
is_same one other = is_same_pointer one.location.pointer other.location.pointer && bytes_eq one.message other.message

abbrev pub are_same : List Related → List Related → Bool
are_same [] [] = true
are_same [] (second ∷ others) = false
are_same (first ∷ rest) [] = false
are_same (first ∷ rest) (second ∷ others) = is_same first second && are_same rest others

abbrev has_none : List Related → Bool
has_none [] = true
has_none (first ∷ rest) = false

-- diagnostics in the same function, which have causes
abbrev pub has_same_causes : Diagnostic → Diagnostic → Bool
has_same_causes one other =
    option_eq place.ghosts.eq one.location.body other.location.body
    && (nat_eq one.omitted other.omitted && (not (has_none one.related.items) && are_same one.related.items other.related.items))

abbrev pub repeats : Option Diagnostic → Option Diagnostic → Bool
repeats (Some last) (Some next) = has_same_causes last next
repeats (Some last) None = false
repeats None next = false

-- the diagnostic at an index has the causes of the one before it
abbrev pub is_repeated : List Diagnostic → ℕ → Bool
is_repeated diagnostics index =
    if index == 0 then false else repeats (slice_get diagnostics (index - 1)) (slice_get diagnostics index)

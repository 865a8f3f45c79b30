-- Facts in a table: a cell for each fact, with the first moment from which it holds.
use Rattle.std.specs.Prelude.{ℕ, ◌+◌, ◌*◌, Bool, true, false, not, ◌==◌, ◌&&◌, ◌||◌, List, [], ◌∷◌, Option, Some, None, if◌then◌else◌}
use Rattle.std.specs.Prelude.{max, nat_lt}
use Rattle.std.specs.Prelude.{slice_index_or, slice_set, IsTrue, ◌↔◌}
use Rattle.shader_uniformity.specs.Marks.{leads, Marked}
use Rattle.shader_uniformity.specs.declared.facts.Fact.{Fact}
use Rattle.shader_uniformity.specs.declared.facts.Fact.TheVariants.{Always, Flow, Argument, Behind, Apart, Leaves, Differs, Holds, Must}
use Rattle.shader_uniformity.specs.declared.facts.Fact.TheVariants.{Gives, Left}
use Rattle.shader_uniformity.specs.declared.facts.Jump.TheVariants as jump
use Rattle.shader_uniformity.specs.declared.facts.Place.TheVariants as place
use Rattle.shader_uniformity.specs.declared.facts.Rule.{Rule}

abbrev pub kind : Fact → ℕ
kind Always = 0
kind Flow = 1
kind Must = 2
kind Gives = 3
kind (Argument i) = 4
kind (Behind i) = 5
kind (Left i) = 6
kind (Apart n) = 7
kind (Leaves jump.Break n) = 8
kind (Leaves jump.Continue n) = 9
kind (Leaves jump.Return n) = 10
kind (Differs e) = 11
kind (Holds (place.Local i) t) = 12
kind (Holds (place.Pointee i) t) = 13
kind (Holds place.Shared t) = 14
kind (Holds place.Fixed t) = 15

abbrev pub number : Fact → ℕ
number (Argument i) = i
number (Behind i) = i
number (Left i) = i
number (Apart n) = n
number (Leaves j n) = n
number (Differs e) = e
number (Holds (place.Local i) t) = i
number (Holds (place.Pointee i) t) = i
number _ = 0

abbrev pub moment : Fact → ℕ
moment (Holds p t) = t
moment _ = 0

abbrev pub cell : Fact → ℕ
cell fact = 16 * number fact + kind fact

abbrev pub is_from : Option ℕ → ℕ → Bool
is_from (Some first) t = not (nat_lt t first)
is_from None t = false

-- the second fact is the first one, or the same at a later moment
abbrev pub covers : Fact → Fact → Bool
covers fact needed = (cell fact == cell needed) && not (nat_lt (moment needed) (moment fact))

-- the table has a fact
abbrev pub holds : List (Option ℕ) → Fact → Bool
holds table fact = is_from (slice_index_or table (cell fact) None) (moment fact)

-- the table with one more fact
abbrev pub cells_with : List (Option ℕ) → Fact → List (Option ℕ)
cells_with table fact = slice_set table (cell fact) (Some (moment fact))

-- a rule adds its effect
abbrev pub fires : List (Option ℕ) → Rule → Bool
fires table rule = holds table rule.cause && not (holds table rule.effect)

-- and with it where a rule adds it
abbrev pub cells_with_if : Bool → List (Option ℕ) → Fact → List (Option ℕ)
cells_with_if true table effect = cells_with table effect
cells_with_if false table effect = table

-- the table after the rules, in order
abbrev pub cells_after : List Rule → List (Option ℕ) → List (Option ℕ)
cells_after [] table = table
cells_after (rule ∷ rules) table = cells_after rules (cells_with_if (fires table rule) table rule.effect)

-- whether one of them added its effect
abbrev pub changes : List Rule → List (Option ℕ) → Bool → Bool
changes [] table changed = changed
changes (rule ∷ rules) table changed = changes rules (cells_with_if (fires table rule) table rule.effect) (changed || fires table rule)

-- a number above the cells of all effects and of one more fact
abbrev pub width_from : ℕ → List Rule → ℕ
width_from width [] = width
width_from width (rule ∷ rules) = width_from (max width (cell rule.effect + 1)) rules

abbrev pub width : Fact → List Rule → ℕ
width start rules = width_from (cell start + 1) rules

-- the table has what a first fact leads to, and nothing else
abbrev pub HasMarks : List Rule → Fact → List (Option ℕ) → Type 0
HasMarks rules start table = (fact : Fact) → IsTrue (holds table fact) ↔ Marked rules start fact

-- the table has a first fact, and nothing but what it leads to
abbrev pub IsSound : List Rule → Fact → List (Option ℕ) → Type 0
IsSound rules start table = IsTrue (holds table start) × ((fact : Fact) → IsTrue (holds table fact) → Marked rules start fact)

-- so does the new table, of whatever first fact the old one does
pub record StaysSound (rules : List Rule) (old new : List (Option ℕ)) : Type 0 where
  pub stays : (start : Fact) → IsSound rules start old → IsSound rules start new

-- a last fact that the table has, with the first one
abbrev pub ending : List (Option ℕ) → (first last : Fact) → List Rule
ending table first last = if holds table last then leads first last ∷ [] else []

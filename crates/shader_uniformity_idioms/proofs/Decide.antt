-- What follows from a fact by rules that are written out, by computing the table.
use Rattle.std.proofs.Common.{◌≡◌, ◌∙◌, refl, sym, subst, ℕ, zero, suc, Bool, true, false, not, ◌&&◌, List, [], ◌∷◌, ◌++◌, Option}
use Rattle.std.proofs.Common.{Some, length}
use Rattle.std.proofs.lemmas.List.{append_assoc, append-nil, length-set}
use Rattle.std.proofs.lemmas.Bool.{false≢true}
use Rattle.std.specs.List.{AllByRecursion, flat_map}
use Rattle.shader_ir.specs.Body.{Step}
use Rattle.shader_ir.specs.declared.function.Function.{Function}
use Rattle.shader_uniformity.specs.Cells.{cell, cells_after, cells_with, cells_with_if, changes, ending, fires, holds, moment, width}
use Rattle.shader_uniformity.specs.Cells.{HasMarks, IsSound}
use Rattle.shader_uniformity.specs.Fault.{beginnings, endings, function_rules, severity, IsFault, IsKnown, IsKnownBy}
use Rattle.shader_uniformity.specs.declared.facts.Fact.{Fact}
use Rattle.shader_uniformity.specs.declared.facts.Fact.TheVariants.{Always, Must}
use Rattle.shader_uniformity.specs.declared.facts.Rule.{Rule}
use Rattle.shader_uniformity_idioms.specs.Examples.{Pair, IsTold}
use Rattle.shader_uniformity_idioms.specs.Shapes.{point, shaders, known}
use Rattle.shader_uniformity.proofs.KnownLemmas.{known_more, known_none}
use Rattle.shader_uniformity.proofs.ReachLemmas.{begun, effects_within, empty_table, goes_on, settled, start_within, table_long}

-- so many passes are enough for what is written out here
abbrev pub enough : ℕ
enough = 3

-- the table after so many passes
abbrev pub table_after : List Rule → Fact → ℕ → List (Option ℕ)
table_after rules start zero = cells_with (empty_table (width start rules)) start
table_after rules start (suc n) = cells_after rules (table_after rules start n)

length_cells_with_if : (b : Bool) (table : List (Option ℕ)) (x : Fact) → length (cells_with_if b table x) ≡ length table
length_cells_with_if true table x = length-set table (cell x) (Some (moment x))
length_cells_with_if false table x = refl

length_cells_after : (rules : List Rule) (table : List (Option ℕ)) → length (cells_after rules table) ≡ length table
length_cells_after [] table = refl
length_cells_after (rule ∷ rules) table =
    length_cells_after rules (cells_with_if (fires table rule) table rule.effect)
    ∙ length_cells_with_if (fires table rule) table rule.effect

after_long : (rules : List Rule) (start : Fact) (n : ℕ) → length (table_after rules start n) ≡ width start rules
after_long rules start zero = length-set (empty_table (width start rules)) (cell start) (Some (moment start))
    ∙ table_long (empty_table (width start rules)) (width start rules) (width start rules) refl refl
after_long rules start (suc n) = length_cells_after rules (table_after rules start n) ∙ after_long rules start n

sound_after : (rules : List Rule) (start : Fact) (n : ℕ) → IsSound rules start (table_after rules start n)
sound_after rules start zero = begun rules start (width start rules) (start_within start rules (width start rules) refl)
sound_after rules start (suc n) = goes_on rules start (table_after rules start n)
    (effects_within start rules (length (table_after rules start n)) (after_long rules start n)) (sound_after rules start n)

-- a table that a further pass leaves as it is has what follows, and no more
abbrev pub is_settled : List Rule → List (Option ℕ) → Bool
is_settled rules table = not (changes rules table false)

unchanged : (b : Bool) → not b ≡ true → b ≡ false
unchanged true h = sym h
unchanged false h = refl

marks_after : (rules : List Rule) (start : Fact) (n : ℕ) → is_settled rules (table_after rules start n) ≡ true →
    HasMarks rules start (cells_after rules (table_after rules start n))
marks_after rules start n h = settled rules start (table_after rules start n)
    (unchanged (changes rules (table_after rules start n) false) h) (sound_after rules start n)

and_first : (a b : Bool) → a && b ≡ true → a ≡ true
and_first true b h = refl
and_first false b h = h

and_second : (a b : Bool) → a && b ≡ true → b ≡ true
and_second true b h = h
and_second false b h = absurd (false≢true h)

-- ---- entry points

abbrev point_rules : Function → List Rule
point_rules f = function_rules shaders known (severity shaders f) true f

abbrev point_table : Function → List (Option ℕ)
point_table f = table_after (point_rules f) Always enough

abbrev pub is_faulty : Function → Bool
is_faulty f = is_settled (point_rules f) (point_table f) && holds (cells_after (point_rules f) (point_table f)) Must

abbrev pub is_fine : Function → Bool
is_fine f = is_settled (point_rules f) (point_table f) && not (holds (cells_after (point_rules f) (point_table f)) Must)

faulty_by : (f : Function) → is_faulty f ≡ true → IsFault shaders known f
faulty_by f h =
    let settled = and_first (is_settled (point_rules f) (point_table f)) (holds (cells_after (point_rules f) (point_table f)) Must) h in
    let held = and_second (is_settled (point_rules f) (point_table f)) (holds (cells_after (point_rules f) (point_table f)) Must) h in
    (marks_after (point_rules f) Always enough settled Must).0 held

fine_by : (f : Function) → is_fine f ≡ true → IsFault shaders known f → ⊥
fine_by f h m =
    let settled =
    and_first (is_settled (point_rules f) (point_table f)) (not (holds (cells_after (point_rules f) (point_table f)) Must)) h in
    let free = and_second (is_settled (point_rules f) (point_table f)) (not (holds (cells_after (point_rules f) (point_table f)) Must)) h in
    let held : holds (cells_after (point_rules f) (point_table f)) Must ≡ true =
    (marks_after (point_rules f) Always enough settled Must).1 m in
    false≢true (sym (unchanged (holds (cells_after (point_rules f) (point_table f)) Must) free) ∙ held)

abbrev pub are_faulty : List (List Step) → Bool
are_faulty [] = true
are_faulty (steps ∷ more) = is_faulty (point steps) && are_faulty more

abbrev pub are_fine : List (List Step) → Bool
are_fine [] = true
are_fine (steps ∷ more) = is_fine (point steps) && are_fine more

pub all_faulty : (all : List (List Step)) → are_faulty all ≡ true → AllByRecursion (λ steps. IsFault shaders known (point steps)) all
all_faulty [] h = tt
all_faulty (steps ∷ more) h = (
  faulty_by (point steps) (and_first (is_faulty (point steps)) (are_faulty more) h),
  all_faulty more (and_second (is_faulty (point steps)) (are_faulty more) h),
)

pub all_fine : (all : List (List Step)) → are_fine all ≡ true → AllByRecursion (λ steps. IsFault shaders known (point steps) → ⊥) all
all_fine [] h = tt
all_fine (steps ∷ more) h = (
  fine_by (point steps) (and_first (is_fine (point steps)) (are_fine more) h),
  all_fine more (and_second (is_fine (point steps)) (are_fine more) h),
)

abbrev pub is_told : Pair → Bool
is_told p = is_faulty p.faulty && is_fine p.fine

abbrev pub are_told : List Pair → Bool
are_told [] = true
are_told (p ∷ more) = is_told p && are_told more

pub all_told : (pairs : List Pair) → are_told pairs ≡ true → AllByRecursion IsTold pairs
all_told [] h = tt
all_told (p ∷ more) h =
    let one = and_first (is_told p) (are_told more) h in (
      (
        faulty_by p.faulty (and_first (is_faulty p.faulty) (is_fine p.fine) one),
        fine_by p.fine (and_second (is_faulty p.faulty) (is_fine p.fine) one),
      ),
      all_told more (and_second (is_told p) (are_told more) h),
    )

-- ---- functions

abbrev known_by : List Rule → List Fact → List Fact → List Rule
known_by rules [] lasts = []
known_by rules (start ∷ firsts) lasts =
    flat_map (ending (cells_after rules (table_after rules start enough)) start) lasts ++ known_by rules firsts lasts

abbrev all_settled : List Rule → List Fact → Bool
all_settled rules [] = true
all_settled rules (start ∷ firsts) = is_settled rules (table_after rules start enough) && all_settled rules firsts

known_goes_on : (rules : List Rule) (lasts done : List Fact) (so_far : List Rule) (firsts : List Fact) → IsKnown done lasts rules so_far →
    all_settled rules firsts ≡ true → IsKnown (done ++ firsts) lasts rules (so_far ++ known_by rules firsts lasts)
known_goes_on rules lasts done so_far [] h s =
    let P : List Fact → Type 0 = λ v. IsKnown v lasts rules (so_far ++ []) in
    let Q : List Rule → Type 0 = λ v. IsKnown done lasts rules v in
    subst P (sym (append-nil done)) (subst Q (sym (append-nil so_far)) h)
known_goes_on rules lasts done so_far (start ∷ firsts) h s =
    let table = cells_after rules (table_after rules start enough) in
    let new = flat_map (ending table start) lasts in
    let settles = and_first (is_settled rules (table_after rules start enough)) (all_settled rules firsts) s in
    let marks = marks_after rules start enough settles in
    let rest = known_goes_on rules lasts (done ++ start ∷ []) (so_far ++ new) firsts
    (known_more done lasts rules so_far start table h marks)
    (and_second (is_settled rules (table_after rules start enough)) (all_settled rules firsts) s) in
    let P : List Fact → Type 0 = λ v. IsKnown v lasts rules (so_far ++ (new ++ known_by rules firsts lasts)) in
    let Q : List Rule → Type 0 = λ v. IsKnown ((done ++ start ∷ []) ++ firsts) lasts rules v in
    subst P (append_assoc done (start ∷ []) firsts) (subst Q (append_assoc so_far new (known_by rules firsts lasts)) rest)

abbrev helper_rules : List (List Rule) → Function → List Rule
helper_rules callees f = function_rules shaders callees (severity shaders f) false f

abbrev pub is_known : List (List Rule) → Function → Bool
is_known callees f = all_settled (helper_rules callees f) (beginnings f.arguments)

abbrev pub what_is_known : List (List Rule) → Function → List Rule
what_is_known callees f = known_by (helper_rules callees f) (beginnings f.arguments) (endings f.arguments)

pub helper_known : (callees : List (List Rule)) (f : Function) → is_known callees f ≡ true →
    IsKnownBy shaders callees f (what_is_known callees f)
helper_known callees f h = known_goes_on (helper_rules callees f) (endings f.arguments) [] [] (beginnings f.arguments)
    (known_none (endings f.arguments) (helper_rules callees f)) h

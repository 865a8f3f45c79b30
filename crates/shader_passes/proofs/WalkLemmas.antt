-- The walk over a function: counts and uses after its operands and statements.
use Rattle.std.proofs.Common.{◌≡◌, refl, sym, ap, subst, ◌∙◌, ℕ, ◌<◌, inl, inr, List, [], ◌∷◌}
use Rattle.std.proofs.Common.{Option, Some, None, length, slice_get, slice_index, slice_set, fold, arith, bit_or}
use Rattle.std.proofs.Common.{get_or-set_same, get_or-set_other}
use Rattle.std.specs.List.{flat_map}
use Rattle.std.specs.Int.Bits.{or_zero_r}
use Rattle.std.proofs.lemmas.Bool.{cases_eq}
use Rattle.std.proofs.lemmas.List.{length-set}
use Rattle.std.proofs.lemmas.List.Folds.{list_any-append}
use Rattle.std.proofs.lemmas.List.Sums.{fold-append}
use Rattle.std.proofs.lemmas.Nat.Bits.{bit_at_or, same_from_bits}
use Rattle.std.proofs.Math.Bool.{or_assoc, and-false}
use Rattle.shader_info.specs.declared.flags.GlobalUse.{GlobalUse}
use Rattle.shader_info.specs.declared.info.ExpressionInfo.{ExpressionInfo}
use Rattle.shader_info.specs.declared.info.FunctionInfo.{FunctionInfo}
use Rattle.shader_analysis_spec.specs.Program.{Call, Function, Leaf, Step, occurrences, statement_operands, statements}
use Rattle.shader_ir.specs.declared.proc.operands.Label.{Label}
use Rattle.shader_passes.proofs.CountingLemmas.{facts_stay, folds_state, length_stays, uses_step}
use Rattle.shader_passes.proofs.FlowLemmas.{either_assoc, either_none, first_assoc, first_none, or_none}
use Rattle.shader_passes.proofs.JoinLemmas.{joined_at, joined_long}
use Rattle.shader_passes.proofs.UsesLemmas.{bits_long}
use Rattle.shader_passes.specs.CalleeUses.{called_uses, recorded_uses, uses_with_call, uses_with_calls}
use Rattle.shader_passes.specs.Counting.{State, bits_in, declared_operands, full_after, records_after, state_after, uses_by}
use Rattle.shader_passes.specs.CountsAndUses.{bits, uses_after}
use Rattle.shader_passes.specs.Records.{root_in}
use Rattle.shader_passes.specs.Walking.{called_state, step_state, whole_state, with_callee}

pub ruleset walks = (
  or_assoc,
  and-false,
  or_none,
  either_assoc,
  either_none,
  first_assoc,
  first_none,
  or_zero_r,
  fold-append,
  folds_state,
  facts_stay,
  length_stays,
  list_any-append,
)

-- two more bits, in either order
or_swap : (a b c : ℕ) → bit_or (bit_or a b) c ≡ bit_or (bit_or a c) b
or_swap a b c = same_from_bits (bit_or (bit_or a b) c) (bit_or (bit_or a c) b)
    (λ i. omega (arith, bit_at_or (bit_or a b) c i, bit_at_or a b i, bit_at_or (bit_or a c) b i, bit_at_or a c i))

uses_by_long : (uses : List GlobalUse) (root : Option ℕ) (more : ℕ) → length (uses_by uses root more) ≡ length uses
uses_by_long uses root more =
    sym (bits_long (uses_by uses root more)) ∙ (ap length (uses_step uses root more) ∙ (at root ∙ bits_long uses)) where
      at : (root : Option ℕ) → length (uses_after root (bits_in uses) more) ≡ length (bits_in uses)
      at (Some g) = length-set (bits_in uses) g (bit_or (slice_index (bits_in uses) g) more)
      at None = refl

-- one more use of a global where other uses were joined before
one_more : (xs ys : List ℕ) (root : Option ℕ) (labels g more : ℕ) → length xs ≡ length ys → g < length xs →
    slice_index xs g ≡ bit_or (slice_index ys g) more →
    slice_index (uses_after root xs labels) g ≡ bit_or (slice_index (uses_after root ys labels) g) more
one_more xs ys None labels g more long lt is = is
one_more xs ys (Some r) labels g more long lt is = elim (cases_eq g r) [
  | inl same ↦
      let P : ℕ → Type 0 = λ v. slice_index (slice_set xs v (bit_or (slice_index xs v) labels)) g
      ≡ bit_or (slice_index (slice_set ys v (bit_or (slice_index ys v) labels)) g) more in
      let left : slice_index (slice_set xs g (bit_or (slice_index xs g) labels)) g ≡ bit_or (slice_index xs g) labels =
      rw get_or-set_same in
      let right : slice_index (slice_set ys g (bit_or (slice_index ys g) labels)) g ≡ bit_or (slice_index ys g) labels =
      get_or-set_same ys g (bit_or (slice_index ys g) labels) 0 (omega (arith, long, lt)) in
      subst P same (left ∙ (ap (λ v. bit_or v labels) is ∙ (or_swap (slice_index ys g) more labels ∙ ap (λ v. bit_or v more) (sym right))))
  | inr apart ↦
      let left : slice_index (slice_set xs r (bit_or (slice_index xs r) labels)) g ≡ slice_index xs g = rw get_or-set_other in
      let right : slice_index (slice_set ys r (bit_or (slice_index ys r) labels)) g ≡ slice_index ys g = rw get_or-set_other in
      left ∙ (is ∙ ap (λ v. bit_or v more) (sym right))
]

module _ (roots : List (Option ℕ)) where
  uses_long : (s : State) (os : List (ℕ × Label)) → length (fold (state_after roots) s os).1 ≡ length s.1
  uses_long s [] = refl
  uses_long s (o ∷ os) = uses_long (state_after roots s o) os ∙ uses_by_long s.1 (root_in roots o.0) (bits o.1)

  -- uses that were joined before some operands are joined after them
  all_more : (s t : State) (os : List (ℕ × Label)) (g more : ℕ) → length s.1 ≡ length t.1 → g < length s.1 →
      slice_index (bits_in s.1) g ≡ bit_or (slice_index (bits_in t.1) g) more →
      slice_index (bits_in (fold (state_after roots) s os).1) g ≡ bit_or (slice_index (bits_in (fold (state_after roots) t os).1) g) more
  all_more s t [] g more long lt is = is
  all_more s t (o ∷ os) g more long lt is =
      let root = root_in roots o.0 in
      let labels = bits o.1 in
      let left = uses_by_long s.1 root labels in
      let right = uses_by_long t.1 root labels in
      all_more (state_after roots s o) (state_after roots t o) os g more (left ∙ (long ∙ sym right)) (omega (arith, lt, left))
      (ap (λ v. slice_index v g) (uses_step s.1 root labels)
      ∙ (one_more (bits_in s.1) (bits_in t.1) root labels g more (bits_long s.1 ∙ (long ∙ sym (bits_long t.1)))
      (omega (arith, lt, bits_long s.1)) is
      ∙ ap (λ v. bit_or (slice_index v g) more) (sym (uses_step t.1 root labels))))

  -- records and full counts don't depend on the uses
  apart : (s t : State) (os : List (ℕ × Label)) → s.0 ≡ t.0 → s.2 ≡ t.2 →
      ((fold (state_after roots) s os).0 ≡ (fold (state_after roots) t os).0)
      × ((fold (state_after roots) s os).2 ≡ (fold (state_after roots) t os).2)
  apart s t [] records full = (records, full)
  apart s t (o ∷ os) records full =
      apart (state_after roots s o) (state_after roots t o) os
      (ap (λ (v : List ExpressionInfo). records_after v o.0 (slice_get v o.0)) records)
      (ap (λ (v : List ExpressionInfo). full_after s.2 o.0 (slice_get v o.0)) records
      ∙ ap (λ (v : Option ℕ). full_after v o.0 (slice_get t.0 o.0)) full)

  module _ (infos : List FunctionInfo) where
    -- a callee's uses, after some more operands
    called_at : (t : State) (x : Step) (os : List (ℕ × Label)) (g : ℕ) → g < length t.1 →
        slice_index (bits_in (fold (state_after roots) (called_state infos t x) os).1) g
        ≡ uses_with_call infos g (slice_index (bits_in (fold (state_after roots) t os).1) g) x
    called_at t (Leaf (Call c arguments result)) os g lt =
        let others = recorded_uses infos c in
        all_more (called_state infos t (Leaf (Call c arguments result))) t os g (called_uses infos c g) (joined_long t.1 others)
        (omega (arith, lt, joined_long t.1 others)) (joined_at t.1 others g lt)
    called_at t x os g lt = refl

    callee_long : (uses : List GlobalUse) (x : Step) → length (with_callee infos uses x) ≡ length uses
    callee_long uses (Leaf (Call c arguments result)) = joined_long uses (recorded_uses infos c)
    callee_long uses x = refl

    pub steps_long : (s : State) (xs : List Step) → length (fold (step_state infos roots) s xs).1 ≡ length s.1
    steps_long s [] = refl
    steps_long s (x ∷ xs) =
        let t = fold (state_after roots) s (statement_operands x) in
        steps_long (called_state infos t x) xs ∙ (callee_long t.1 x ∙ uses_long s (statement_operands x))

    -- the uses of the operands first, and those of all callees then
    uses_split : (s : State) (xs : List Step) (g : ℕ) → g < length s.1 →
        slice_index (bits_in (fold (step_state infos roots) s xs).1) g
        ≡ uses_with_calls infos g (slice_index (bits_in (fold (state_after roots) s (flat_map statement_operands xs)).1) g) xs
    uses_split s [] g lt = refl
    uses_split s (x ∷ xs) g lt =
        let t = fold (state_after roots) s (statement_operands x) in
        let rest = flat_map statement_operands xs in
        let long = uses_long s (statement_operands x) in
        uses_split (called_state infos t x) xs g (omega (arith, lt, long, callee_long t.1 x))
        ∙ (ap (λ v. uses_with_calls infos g v xs) (called_at t x rest g (omega (arith, lt, long)))
        ∙ ap (λ (v : State). uses_with_calls infos g (uses_with_call infos g (slice_index (bits_in v.1) g) x) xs)
        (sym (fold-append (state_after roots) s (statement_operands x) rest)))

    steps_apart : (s : State) (xs : List Step) →
        ((fold (step_state infos roots) s xs).0 ≡ (fold (state_after roots) s (flat_map statement_operands xs)).0)
        × ((fold (step_state infos roots) s xs).2 ≡ (fold (state_after roots) s (flat_map statement_operands xs)).2)
    steps_apart s [] = (refl, refl)
    steps_apart s (x ∷ xs) =
        let t = fold (state_after roots) s (statement_operands x) in
        let rest = flat_map statement_operands xs in
        let here = steps_apart (called_state infos t x) xs in
        let there = apart (called_state infos t x) t rest refl refl in
        let split = sym (fold-append (state_after roots) s (statement_operands x) rest) in
        (here.0 ∙ (there.0 ∙ ap (λ (v : State). v.0) split), here.1 ∙ (there.1 ∙ ap (λ (v : State). v.2) split))

    module _ (f : Function) (s : State) where
      abbrev operands : State
      operands = fold (state_after roots) s (occurrences f)

      split_operands : fold (state_after roots) (fold (state_after roots) s (declared_operands f)) (flat_map statement_operands
          (statements f.body)) ≡ operands
      split_operands =
          sym (fold-append (state_after roots) s (declared_operands f) (flat_map statement_operands (statements f.body)))

      pub whole_records : (whole_state infos roots s f).0 ≡ operands.0
      whole_records =
          (steps_apart (fold (state_after roots) s (declared_operands f)) (statements f.body)).0 ∙ ap (λ (v : State). v.0) split_operands

      pub whole_full : (whole_state infos roots s f).2 ≡ operands.2
      whole_full =
          (steps_apart (fold (state_after roots) s (declared_operands f)) (statements f.body)).1 ∙ ap (λ (v : State). v.2) split_operands

      pub whole_long : length (whole_state infos roots s f).1 ≡ length s.1
      whole_long = steps_long (fold (state_after roots) s (declared_operands f)) (statements f.body) ∙ uses_long s (declared_operands f)

      pub whole_uses : (g : ℕ) → g < length s.1 → slice_index (bits_in (whole_state infos roots s f).1) g
          ≡ uses_with_calls infos g (slice_index (bits_in operands.1) g) (statements f.body)
      whole_uses g lt =
          uses_split (fold (state_after roots) s (declared_operands f)) (statements f.body) g
          (omega (arith, lt, uses_long s (declared_operands f)))
          ∙ ap (λ (v : State). uses_with_calls infos g (slice_index (bits_in v.1) g) (statements f.body)) split_operands

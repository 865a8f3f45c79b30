-- The types by which a table grows are derivable.
use Rattle.std.proofs.Common.{◌≡◌, refl, sym, subst, ◌∙◌, ap, ◌⊎◌, inl, inr, ◌<◌, ◌≤◌, ℕ, ◌++◌, ◌∷◌, [], List, Option, Some, None}
use Rattle.std.proofs.Common.{slice_get, length, take, get_or, length-append, option_map, arith}
use Rattle.std.specs.Option.{option_and_then}
use Rattle.std.proofs.Math.Seq.{get_or-append_seam, take-length}
use Rattle.std.proofs.lemmas.Bool.{cases_lt}
use Rattle.std.proofs.lemmas.List.{get_or_append_left, take-append-le}
use Rattle.std.proofs.lemmas.Option.{get_or_from_slice_get, same_Some, slice_get-get_or, slice_get_within}
use Rattle.shader_analysis_spec.specs.Derivable.{Answers, plain, by_one, by_two, Derives, given}
use Rattle.shader_ir.specs.declared.expression.Expression.{Expression}
use Rattle.shader_ir.specs.declared.proc.type_resolution.TypeResolution.{TypeResolution}
use Rattle.shader_ir.specs.declared.proc.type_resolution.TypeResolution.TheVariants.{Handle, Value}
use Rattle.shader_ir.specs.declared.types.«Type».{«Type»}
use Rattle.shader_ir.specs.Key.{FitsTypes}
use Rattle.shader_ir.proofs.TypeTreeLemmas.{weaker}
use Rattle.shader_resolve.specs.Context.{Context}
use Rattle.shader_resolve.specs.Outcome.{Outcome}
use Rattle.shader_resolve.specs.TypingRules.{TypingRule, Plain, One, Two, typing_rule}
use Rattle.shader_typifier.specs.Grown.{AreTyped, Grows, IsTyped, grows, stays}
use Rattle.shader_resolve.specs.Stored.{outcome_at}
use Rattle.shader_typifier.specs.Laws.{AreDerived, GrownTypesAreDerived, TypesFitLargerArenas}

module _ (context : Context) (expressions : List Expression) (stored : List TypeResolution)
    (first : AreDerived context expressions stored) (e : ℕ) (x : Expression) (is : slice_get expressions e ≡ Some x) where
  by_answer : (outcome answered : Outcome) → Some answered ≡ Some outcome → Answers context expressions e answered →
      Answers context expressions e outcome
  by_answer outcome answered same answers = subst (λ v. Answers context expressions e v) (same_Some answered outcome same) answers

  -- the outcome of the rule at the stored types is its outcome at derivable types
  pub answers : (outcome : Outcome) (queried : TypingRule) → typing_rule context x ≡ queried → outcome_at stored queried ≡ Some outcome →
      Answers context expressions e outcome
  answers outcome (Plain answered) same reported = by_answer outcome answered reported (plain is same)
  answers outcome (One operand answer) same reported = at (slice_get stored operand) refl reported where
    at : (found : Option TypeResolution) → slice_get stored operand ≡ found → option_map answer found ≡ Some outcome →
        Answers context expressions e outcome
    at (Some t) got reported = by_answer outcome (answer t) reported (by_one is same (first operand t got))
    at None got reported = absurd (cc)
  answers outcome (Two left right answer) same reported = at (slice_get stored left) (slice_get stored right) refl refl reported where
    at : (l r : Option TypeResolution) → slice_get stored left ≡ l → slice_get stored right ≡ r →
        option_and_then (λ t. option_map (answer t) r) l ≡ Some outcome → Answers context expressions e outcome
    at (Some t) (Some u) gl gr reported = by_answer outcome (answer t u) reported (by_two is same (first left t gl) (first right u gr))
    at (Some t) None gl gr reported = absurd (cc)
    at None r gl gr reported = absurd (cc)

-- a property at each position of a list, and of one more item, holds at each position of both
pub one_more : {T : Type 0} (P : ℕ → T → Type 0) (xs : List T) (x : T) → ((e : ℕ) (y : T) → slice_get xs e ≡ Some y → P e y) →
    P (length xs) x → (e : ℕ) (y : T) → slice_get (xs ++ x ∷ []) e ≡ Some y → P e y
one_more {T} P xs x each last e y is = at (cases_lt e (length xs)) where
  here : get_or (xs ++ x ∷ []) e y ≡ y
  here = get_or_from_slice_get (xs ++ x ∷ []) e y y is

  at : (e < length xs) ⊎ (length xs ≤ e) → P e y
  at (inl lt) = each e y (slice_get-get_or xs e y lt ∙ ap (λ v. Some v) (sym (get_or_append_left xs (x ∷ []) y e lt) ∙ here))
  at (inr le) =
      let lt : e < length (xs ++ x ∷ []) = slice_get_within (xs ++ x ∷ []) e y is in
      let last_position : length xs ≡ e = omega (arith, le, lt, length-append xs (x ∷ [])) in
      let same : x ≡ y = sym (get_or-append_seam xs x [] y) ∙ ap (λ v. get_or (xs ++ x ∷ []) v y) last_position ∙ here in
      subst (P e) same (subst (λ v. P v x) last_position last)

pub grown_types_are_derived : GrownTypesAreDerived
grown_types_are_derived context expressions old all first stays = first
grown_types_are_derived context expressions old all first (grows {stored} {x} {resolution} grown is typed) =
    let so_far = grown_types_are_derived context expressions old stored first grown in
    one_more (λ e t. Derives context expressions e t) stored resolution so_far
    (given (answers context expressions stored so_far (length stored) x is _ _ refl typed.reported) refl)

-- the types by which a table grows are those of their expressions
pub grown_types_are_typed : (context : Context) (expressions : List Expression) (old stored : List TypeResolution) →
    Grows context expressions old stored → AreTyped context expressions (length old) stored
grown_types_are_typed context expressions old all stays e x t le at has = absurd (omega (arith, le, slice_get_within old e t has))
grown_types_are_typed context expressions old all (grows {stored} {x} {resolution} grown is typed) e y t le at has =
    one_more P stored resolution (before (grown_types_are_typed context expressions old stored grown)) last e t has y le at
  where
    P : ℕ → TypeResolution → Type 0
    P e t = (y : Expression) → length old ≤ e → slice_get expressions e ≡ Some y → IsTyped context (take e (stored ++ resolution ∷ [])) y t

    before : AreTyped context expressions (length old) stored → (e : ℕ) (t : TypeResolution) → slice_get stored e ≡ Some t → P e t
    before so_far e t has y le at =
        let within = slice_get_within stored e t has in
        subst (λ l. IsTyped context l y t) (sym (take-append-le e stored (resolution ∷ []) (omega (arith, within))))
        (so_far e y t le at has)

    last : P (length stored) resolution
    last y le at =
        let taken : take (length stored) (stored ++ resolution ∷ []) ≡ stored =
        take-append-le (length stored) stored (resolution ∷ []) (omega arith) ∙ take-length stored in
        subst (λ l. IsTyped context l y resolution) (sym taken)
        (subst (λ v. IsTyped context stored v resolution) (same_Some x y (sym is ∙ at)) typed)

fit_larger : (types more : List «Type») → length types ≤ length more → (resolution : TypeResolution) → FitsTypes types resolution →
    FitsTypes more resolution
fit_larger types more le (Handle handle) fits = omega (arith, le, fits)
fit_larger types more le (Value inner) fits = (weaker (length types) (length more) inner le fits.0, fits.1)

pub types_fit_larger_arenas : TypesFitLargerArenas
types_fit_larger_arenas types more stored le fit = λ i d lt. fit_larger types more le _ (fit i d lt)

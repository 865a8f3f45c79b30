-- Rules of equal ranks are equal once all arguments are supplied.
use Rattle.std.proofs.Common.{◌≡◌, ◌∙◌, ◌<◌, ◌==◌, ap, sym, refl, ℕ, zero, suc, Bool, true}
use Rattle.std.proofs.Common.{List, [], ◌∷◌, length, map, Option, Some, slice_get, arith}
use Rattle.std.specs.List.{filter, list_all}
use Rattle.std.proofs.lemmas.Bool.{and_parts, eqb-true}
use Rattle.std.proofs.lemmas.List.{length-map}
use Rattle.shader_ir.specs.declared.types.«Type».{«Type»}
use Rattle.shader_ir.specs.declared.types.TypeInner.{TypeInner}
use Rattle.shader_ir.specs.declared.proc.type_resolution.TypeResolution.TheVariants.{Value}
use Rattle.shader_ir.specs.Conversion.{scalar_converts}
use Rattle.shader_overloads.specs.declared.overload_set.SetCall.{SetCall}
use Rattle.shader_overloads.specs.declared.rule.Rule.{Rule}
use Rattle.shader_overloads.specs.BuiltinGroups.{is_listed}
use Rattle.shader_overloads.specs.Builtins.{rules_of}
use Rattle.shader_overloads.specs.Rank.{HaveEqualRanks, IsSupplied}
use Rattle.shader_overloads.proofs.AgreementLemmas.{all_at}
use Rattle.shader_overloads.proofs.BuiltinLemmas.{is_named_rule, rules_named}
use Rattle.shader_overloads_laws.specs.Optimality.{EquallyRankedRulesAreEqual}
use Rattle.shader_overloads_laws.proofs.Accepted.{rank_is, remaining_is, some_taken, stays, taken_at, taken_rank}
use Rattle.shader_overloads_laws.proofs.Arguments.{inners, inners_named, leaf, built_same, plain, same_built, values_of}
use Rattle.shader_overloads_laws.proofs.Filters.{filter_passes, filter_preserves}
use Rattle.shader_overloads_laws.proofs.Scalars.{one_rank_one_target}
use Rattle.shader_overloads_laws.proofs.Tables.{agree, concludes_so, rules_agree, same_inners, same_inners_self}

-- ---- lists

lists_same : {X : Type 0} (xs ys : List X) → length xs ≡ length ys →
    ((i : ℕ) (x y : X) → slice_get xs i ≡ Some x → slice_get ys i ≡ Some y → x ≡ y) → xs ≡ ys
lists_same [] [] long same = refl
lists_same [] (y ∷ ys) long same = absurd (omega arith)
lists_same (x ∷ xs) [] long same = absurd (omega arith)
lists_same (x ∷ xs) (y ∷ ys) long same =
    ap (λ v. v ∷ xs) (same zero x y refl refl) ∙ ap (λ vs. y ∷ vs) (lists_same xs ys (omega arith) (λ i. same (suc i)))

found_within : {X : Type 0} (xs : List X) (i : ℕ) (x : X) → slice_get xs i ≡ Some x → i < length xs
found_within [] i x e = cc
found_within (y ∷ xs) zero x e = omega arith
found_within (y ∷ xs) (suc i) x e = let later = found_within xs i x e in omega arith

-- ---- one argument

-- two arguments that accept a type at the same rank are equal
same_taken : (ty a b : TypeInner) (rank : ℕ) → some_taken ty (Some a) ≡ true → some_taken ty (Some b) ≡ true →
    taken_rank ty (Some a) ≡ Some rank → taken_rank ty (Some b) ≡ Some rank → a ≡ b
same_taken ty a b rank p q at_a at_b =
    built_same ty a b (and_parts (same_built ty a) (scalar_converts (leaf ty) (leaf a)) p).0
    (and_parts (same_built ty b) (scalar_converts (leaf ty) (leaf b)) q).0
    (one_rank_one_target (leaf ty) (leaf a) (leaf b) rank at_a at_b)

same_found_taken : (ty : TypeInner) (found other : Option TypeInner) (a b : TypeInner) (rank : ℕ) → found ≡ Some a → other ≡ Some b →
    some_taken ty found ≡ true → some_taken ty other ≡ true → taken_rank ty found ≡ Some rank → taken_rank ty other ≡ Some rank → a ≡ b
same_found_taken ty found other a b rank is_a is_b p q at_a at_b =
    same_taken ty a b rank (sym (ap (some_taken ty) is_a) ∙ p) (sym (ap (some_taken ty) is_b) ∙ q) (sym (ap (taken_rank ty) is_a)
    ∙ at_a) (sym (ap (taken_rank ty) is_b) ∙ at_b)

-- ---- two remaining rules

module _ (types : List «Type») (listed : Bool) (calls : List SetCall) (first rule : Rule) (nf : is_named_rule first ≡ true)
    (nr : is_named_rule rule ≡ true)
    (stay_first : stays listed calls first ≡ true) (stay_rule : stays listed calls rule ≡ true) (supplied : IsSupplied calls first)
    (ranks : HaveEqualRanks types calls rule first) where
  same_at : (i : ℕ) (a b : TypeInner) → slice_get (inners rule) i ≡ Some a → slice_get (inners first) i ≡ Some b → a ≡ b
  same_at i a b at_a at_b =
      let within : i < length (inners first) = found_within (inners first) i b at_b in
      let inside : i < length first.arguments = omega (arith, length-map first.arguments plain) in
      let call = supplied i inside in
      let taken_rule = taken_at listed calls rule call.0 i call.1 stay_rule call.2 in
      let taken_first = taken_at listed calls first call.0 i call.1 stay_first call.2 in
      let equal = ranks call.0 i call.1 call.2 in
      same_found_taken call.1 (slice_get (inners rule) i) (slice_get (inners first) i) a b equal.0 at_a at_b taken_rule taken_first
      (sym (rank_is types call.1 rule i nr taken_rule) ∙ equal.1) (sym (rank_is types call.1 first i nf taken_first) ∙ equal.2)

  pub same_rule : agree rule first ≡ true → (rule.arguments ≡ first.arguments) × (rule.conclusion ≡ first.conclusion)
  same_rule agreeing =
      let parts = and_parts (length rule.arguments == length first.arguments) _ agreeing in
      let count : length rule.arguments ≡ length first.arguments = eqb-true _ _ parts.0 in
      let long : length (inners rule) ≡ length (inners first) =
      length-map rule.arguments plain ∙ count ∙ sym (length-map first.arguments plain) in
      let same : inners rule ≡ inners first = lists_same (inners rule) (inners first) long same_at in
      let reported : same_inners (inners rule) (inners first) ≡ true =
      sym (ap (same_inners (inners rule)) same) ∙ same_inners_self (inners rule) (inners_named rule.arguments nr) in
      (values_of rule.arguments nr ∙ ap (map Value) same ∙ sym (values_of first.arguments nf), concludes_so _ rule first parts.1 reported)

pub equally_ranked_rules_are_equal : EquallyRankedRulesAreEqual
equally_ranked_rules_are_equal function types calls first rule position at_first at_rule supplied ranks =
    let listed = is_listed function in
    let retained : List Rule = filter (stays listed calls) (rules_of function) in
    let is = remaining_is function types calls in
    let here : slice_get retained 0 ≡ Some first = sym (ap (λ (rules : List Rule). slice_get rules 0) is) ∙ at_first in
    let there : slice_get retained position ≡ Some rule = sym (ap (λ (rules : List Rule). slice_get rules position) is) ∙ at_rule in
    let stay = filter_passes (stays listed calls) (rules_of function) in
    let named = filter_preserves (stays listed calls) is_named_rule (rules_of function) (rules_named function) in
    let agreeing = all_at (λ f. list_all (agree f) (rules_of function)) retained position rule
    (filter_preserves (stays listed calls) (λ f. list_all (agree f) (rules_of function)) (rules_of function)
    (rules_agree function)) there in
    same_rule types listed calls first rule (all_at is_named_rule retained 0 first named here)
    (all_at is_named_rule retained position rule named there)
    (all_at (stays listed calls) retained 0 first stay here) (all_at (stays listed calls) retained position rule stay there) supplied ranks
    (all_at (agree rule) retained 0 first (filter_preserves (stays listed calls) (agree rule) (rules_of function) agreeing) here)

-- The computed reasons are reasons.
use Rattle.std.proofs.Common.{◌≡◌, refl, sym, ap, subst, ◌∙◌, ℕ, ◌+◌, ◌⊎◌, inl, inr, List, [], ◌∷◌, ◌++◌, suc}
use Rattle.std.proofs.Common.{Bool, true, false, if◌then◌else◌, Option, Some, None, slice_get, get_or, length, length-append, arith}
use Rattle.std.specs.List.{Contains, enumerate_from}
use Rattle.std.specs.Option.{option_and_then, option_or}
use Rattle.std.proofs.lemmas.Bool.{cases_lt}
use Rattle.std.proofs.lemmas.Option.{same_Some, slice_get-get_or, slice_get_within}
use Rattle.shader_ir.specs.declared.expression.Expression.TheVariants as form
use Rattle.shader_ir.specs.declared.proc.operands.Label.TheVariants as label
use Rattle.shader_analysis_spec.specs.Infos.{HasCallee, by_call, by_result}
use Rattle.shader_analysis_spec.specs.Origins.{HasResultValue, IsSource, is_source}
use Rattle.shader_analysis_spec.specs.Origins as origins
use Rattle.shader_analysis_spec.specs.Program.{Function, Module, Expression, Label, Step, Leaf, Return, CooperativeStore, Call}
use Rattle.shader_analysis_spec.specs.Program.{IsExpressionAt}
use Rattle.shader_analysis_spec.specs.Program.{expression_operands, statement_operands, statements}
use Rattle.shader_analysis_spec.proofs.ListLemmas.{nowhere, here, there, cases}
use Rattle.shader_passes.specs.Facts.{callee_of}
use Rattle.shader_passes.specs.InfoOf.{PointsBackwards}
use Rattle.shader_passes.proofs.FactLemmas.{get_seam, get_left}
use Rattle.shader_uniformity_trace.specs.declared.link.FunctionLocation.{FunctionLocation}
use Rattle.shader_uniformity_trace.specs.declared.link.FunctionLocation.TheVariants as location
use Rattle.shader_uniformity_trace.specs.declared.link.Link.{Link}
use Rattle.shader_uniformity_trace.specs.declared.link.Link.TheVariants as link
use Rattle.shader_uniformity_trace.specs.declared.reasons.Trace.{Trace}
use Rattle.shader_uniformity_trace.specs.declared.reasons.Reason.{Reason}
use Rattle.shader_uniformity_trace.specs.declared.reasons.Reason.TheVariants.{Source, Through}
use Rattle.shader_uniformity_trace.specs.Chains.{LinksTo, HasOriginAt, IsFunctionAt, IsSourceAt}
use Rattle.shader_uniformity_trace.specs.Chains as chain
use Rattle.shader_uniformity_trace.specs.Trace.{AreReasons, IsReason, Determines}
use Rattle.shader_uniformity_trace.specs.Reasons.{by_callee, first_given, first_reason, statement_reason, led_to, own_reason, reason_at}
use Rattle.shader_uniformity_trace.specs.Reasons.{result_reason_at, reasons_after}
use Rattle.shader_uniformity_trace.proofs.LinkLemmas.{same_function, source_is, reason_origin, origin_reason, within}

pub reports_same : (P Q : Reason → Type 0) (o : Option Reason) → ((r : Reason) → P r → Q r) → ((r : Reason) → Q r → (k : Reason) × P k) →
    Determines P o → Determines Q o
reports_same P Q (Some r) to from p = to r p
reports_same P Q None to from none = λ r q. let (k, p) = from r q in none k p

or_reports : (P Q : Reason → Type 0) (a b : Option Reason) → Determines P a → Determines Q b → Determines (λ r. P r ⊎ Q r) (option_or a b)
or_reports P Q (Some r) b p q = inl p
or_reports P Q None (Some r) p q = inr q
or_reports P Q None None p q = λ r t. elim t [ inl l ↦ p r l | inr k ↦ q r k ]

if_reports : (P : Reason → Type 0) (b : Bool) (x y : Option Reason) → (b ≡ true → Determines P x) → (b ≡ false → Determines P y) →
    Determines P (if b then x else y)
if_reports P true x y p q = p refl
if_reports P false x y p q = q refl

callee_is : (x : Expression) (c : ℕ) → callee_of x ≡ Some c → x ≡ form.CallResult c
callee_is (form.CallResult d) c h = cc
callee_is x c h = absurd (cc)

module _ (m : Module) where
  -- a reason by the link
  abbrev LeadsOn : Link → Reason → Type 0
  LeadsOn next r = (r ≡ Through next) × HasOriginAt m next

  led_reported : (next : Link) (o : Option Reason) → Determines (IsReason m next) o → Determines (LeadsOn next) (led_to next o)
  led_reported next (Some r) is = (refl, reason_origin m next r is)
  led_reported next None none = λ r t. let (k, is) = origin_reason m next t.1 in none k is

module _ (m : Module) (at : FunctionLocation) (reasons : List (Option Reason)) where
  abbrev pub IsTold : ℕ → Type 0
  IsTold e = Determines (IsReason m (link.Expression at e)) (reason_at reasons e)

  -- a reason by one of the operands
  abbrev ByOperand : List (ℕ × Label) → Reason → Type 0
  ByOperand os r = (o : ℕ × Label) × Contains os o × LeadsOn m (link.Expression at o.0) r

  first_reported : (os : List (ℕ × Label)) → ((o : ℕ × Label) → Contains os o → IsTold o.0) →
      Determines (ByOperand os) (first_reason at reasons os)
  first_reported [] each = λ r t. nowhere t.0 t.1
  first_reported (o ∷ os) each =
      reports_same (λ r. LeadsOn m (link.Expression at o.0) r ⊎ ByOperand os r) (ByOperand (o ∷ os)) _ to from
      (or_reports (LeadsOn m (link.Expression at o.0)) (ByOperand os) (led_to (link.Expression at o.0) (reason_at reasons o.0))
      (first_reason at reasons os) (led_reported m (link.Expression at o.0) (reason_at reasons o.0) (each o (here o os)))
      (first_reported os (λ p holds. each p (there o os p holds)))) where
        to : (r : Reason) → LeadsOn m (link.Expression at o.0) r ⊎ ByOperand os r → ByOperand (o ∷ os) r
        to r (inl leads) = (o, here o os, leads)
        to r (inr t) = (t.0, there o os t.0 t.1, t.2)

        from : (r : Reason) → ByOperand (o ∷ os) r → (k : Reason) × (LeadsOn m (link.Expression at o.0) k ⊎ ByOperand os k)
        from r t = elim (cases o os t.0 t.1) [
          | inl same ↦ let P : ℕ × Label → Type 0 = λ v. LeadsOn m (link.Expression at v.0) r in (r, inl (subst P (sym same) t.2))
          | inr later ↦ (r, inr (t.0, later, t.2))
        ]

  -- if the list is long enough, each expression has its reason, also past the end of the list
  pub all_reported : ((f : Function) → IsFunctionAt m at f → length reasons ≡ length f.expressions) → AreReasons m at reasons → (e : ℕ) →
      IsTold e
  all_reported complete reported e = trace (slice_get reasons e) refl where
    trace : (o : Option (Option Reason)) → slice_get reasons e ≡ o →
        Determines (IsReason m (link.Expression at e)) (option_and_then (λ (r : Option Reason). r) o)
    trace (Some r) is = reported e r is
    trace None is = λ r t.
        let (f, is_f, lt) = within m at e r t in
        let some = slice_get-get_or reasons e None (omega (arith, lt, complete f is_f)) in absurd (cc)

-- a reason by the result of a callee
abbrev ByCallee : Module → Option ℕ → Reason → Type 0
ByCallee m callee r = (c : ℕ) × (callee ≡ Some c) × LeadsOn m (link.Result (location.Function c)) r

called_reported : (m : Module) (traces : List Trace) (callee : Option ℕ) →
    ((c : ℕ) → callee ≡ Some c → Determines (IsReason m (link.Result (location.Function c))) (result_reason_at traces c)) →
    Determines (ByCallee m callee) (by_callee traces callee)
called_reported m traces None each = λ r t. let some = t.1 in absurd (cc)
called_reported m traces (Some c) each =
    reports_same (LeadsOn m (link.Result (location.Function c))) (ByCallee m (Some c)) _ (λ r leads. (c, refl, leads)) from
    (led_reported m (link.Result (location.Function c)) (result_reason_at traces c) (each c refl)) where
      from : (r : Reason) → ByCallee m (Some c) r → (k : Reason) × LeadsOn m (link.Result (location.Function c)) k
      from r t =
          let P : ℕ → Type 0 = λ v. LeadsOn m (link.Result (location.Function v)) r in
          (r, subst P (sym (same_Some c t.0 t.1)) t.2)

-- the reasons computed for a function's expressions and for its result, if those in the functions before it are right
module _ (m : Module) (traces : List Trace) (at : FunctionLocation) (f : Function) (is_f : IsFunctionAt m at f)
    (called_are : (c : ℕ) → HasCallee f c → Determines (IsReason m (link.Result (location.Function c))) (result_reason_at traces c)) where
  -- the reason for an expression, if those for its operands are right
  module _ (reasons : List (Option Reason)) (e : ℕ) (x : Expression) (is_there : IsExpressionAt f e x)
      (operands_are : (o : ℕ × Label) → Contains (expression_operands x) o → IsTold m at reasons o.0) where
    abbrev ByOther : Reason → Type 0
    ByOther r = ByCallee m (callee_of x) r ⊎ ByOperand m at reasons (expression_operands x) r

    same_expression : (y : Expression) → IsExpressionAt f e y → y ≡ x
    same_expression y too = same_Some y x (sym too ∙ is_there)

    -- the callee of a CallResult is mentioned
    is_mentioned : (c : ℕ) → callee_of x ≡ Some c → IsExpressionAt f e (form.CallResult c)
    is_mentioned c is = let P : Expression → Type 0 = λ v. IsExpressionAt f e v in subst P (callee_is x c is) is_there

    to_reason : (r : Reason) → ByOther r → IsReason m (link.Expression at e) r
    to_reason r (inl t) =
        let P : Reason → Type 0 = λ v. IsReason m (link.Expression at e) v in
        subst P (sym t.2.0) (chain.LinksTo.result f is_f (is_mentioned t.0 t.1), t.2.1)
    to_reason r (inr t) =
        let P : Reason → Type 0 = λ v. IsReason m (link.Expression at e) v in
        subst P (sym t.2.0) (chain.LinksTo.operand f is_f is_there t.1, t.2.1)

    not_source : is_source m f x ≡ false → IsSourceAt m (link.Expression at e) → ⊥
    not_source unlike (chain.IsSourceAt.source g too own) =
        let P : Function → Type 0 = λ v. IsSource m v e in
        let here_own = subst P (same_function m at g f too is_f) own in
        let Q : Expression → Type 0 = λ v. is_source m f v ≡ true in
        let yes = subst Q (same_expression here_own.expression here_own.is_there) here_own.source in absurd (cc)

    links_to_other : (next : Link) → LinksTo m (link.Expression at e) next → HasOriginAt m next → ByOther (Through next)
    links_to_other _ (chain.LinksTo.operand {h = h} g {x = y} {label = l} too its holds) has =
        let P : Function → Type 0 = λ v. IsExpressionAt v e y in
        let same = same_expression y (subst P (same_function m at g f too is_f) its) in
        let Q : Expression → Type 0 = λ v. Contains (expression_operands v) (h, l) in
        inr ((h, l), subst Q same holds, (refl, has))
    links_to_other _ (chain.LinksTo.result {c = c} g too its) has =
        let P : Function → Type 0 = λ v. IsExpressionAt v e (form.CallResult c) in
        let same = same_expression (form.CallResult c) (subst P (same_function m at g f too is_f) its) in
        inl (c, sym (ap callee_of same), (refl, has))

    of_reason : is_source m f x ≡ false → (r : Reason) → IsReason m (link.Expression at e) r → (k : Reason) × ByOther k
    of_reason unlike Source is = absurd (not_source unlike is)
    of_reason unlike (Through next) is = (Through next, links_to_other next is.0 is.1)

    own_reported : Determines (IsReason m (link.Expression at e)) (own_reason m traces at f reasons x)
    own_reported = if_reports (IsReason m (link.Expression at e)) (is_source m f x) (Some Source) _
        (λ yes. chain.IsSourceAt.source f is_f (record { expression = x; is_there = is_there; source = yes }))
        (λ unlike. reports_same ByOther (IsReason m (link.Expression at e)) _ to_reason (of_reason unlike)
        (or_reports (ByCallee m (callee_of x)) (ByOperand m at reasons (expression_operands x)) _ _
        (called_reported m traces (callee_of x) (λ c is. called_are c (by_result e (is_mentioned c is))))
        (first_reported m at reasons (expression_operands x) operands_are)))

  module _ (below : PointsBackwards f) where
    -- one more expression
    one_more : (reasons : List (Option Reason)) (x : Expression) → IsExpressionAt f (length reasons) x → AreReasons m at reasons →
        AreReasons m at (reasons ++ own_reason m traces at f reasons x ∷ [])
    one_more reasons x is_there reported e r is = elim (cases_lt e (length reasons)) [
      | inl lt ↦ reported e r (sym (get_left reasons (own_reason m traces at f reasons x ∷ []) e lt) ∙ is)
      | inr le ↦
          let whole = slice_get_within (reasons ++ own_reason m traces at f reasons x ∷ []) e r is in
          let last : length reasons ≡ e = omega (arith, le, whole, length-append reasons (own_reason m traces at f reasons x ∷ [])) in
          let same : own_reason m traces at f reasons x ≡ r =
          same_Some _ r (sym (get_seam reasons (own_reason m traces at f reasons x) [] e last) ∙ is) in
          let P : Option Reason → Type 0 = λ v. Determines (IsReason m (link.Expression at e)) v in
          let Q : ℕ → Type 0 = λ v. Determines (IsReason m (link.Expression at v)) (own_reason m traces at f reasons x) in
          subst P same (subst Q last (own_reported reasons (length reasons) x is_there (earlier reasons x is_there reported)))
    ]
      where
        earlier : (reasons : List (Option Reason)) (x : Expression) → IsExpressionAt f (length reasons) x → AreReasons m at reasons →
            (o : ℕ × Label) → Contains (expression_operands x) o → IsTold m at reasons o.0
        earlier reasons x is_there reported o holds =
            let lt = below (length reasons) x o is_there holds in
            let is = slice_get-get_or reasons o.0 None lt in
            let P : Option (Option Reason) → Type 0 =
            λ v. Determines (IsReason m (link.Expression at o.0)) (option_and_then (λ (r : Option Reason). r) v) in
            subst P (sym is) (reported o.0 (get_or reasons o.0 None) is)

    -- all expressions from a position on
    reasons_after_from : (reasons : List (Option Reason)) (n : ℕ) (xs : List Expression) → length reasons ≡ n →
        ((k : ℕ) (x : Expression) → slice_get xs k ≡ Some x → IsExpressionAt f (n + k) x) → AreReasons m at reasons →
        AreReasons m at (reasons_after m traces at f reasons (enumerate_from n xs))
    reasons_after_from reasons n [] long are reported = reported
    reasons_after_from reasons n (x ∷ xs) long are reported =
        let one = own_reason m traces at f reasons x in
        let first : IsExpressionAt f (n + 0) x = are 0 x refl in
        let P : ℕ → Type 0 = λ v. IsExpressionAt f v x in
        let last : n + 0 ≡ length reasons = omega (arith, long) in
        let is_there : IsExpressionAt f (length reasons) x = subst P last first in
        reasons_after_from (reasons ++ one ∷ []) (n + 1) xs (omega (arith, long, length-append reasons (one ∷ [])))
        (λ k y is.
        let Q : ℕ → Type 0 = λ v. IsExpressionAt f v y in
        let same : n + suc k ≡ n + 1 + k = omega arith in subst Q same (are (suc k) y is))
        (one_more reasons x is_there reported)

    pub reasons_are_determined : AreReasons m at (reasons_after m traces at f [] (enumerate_from 0 f.expressions))
    reasons_are_determined = reasons_after_from [] 0 f.expressions refl
        (λ k x is. let P : ℕ → Type 0 = λ v. IsExpressionAt f v x in let same : k ≡ 0 + k = omega arith in subst P same is)
        (λ e r is. let none = is in absurd (cc))

  reasons_after_long_from : (reasons : List (Option Reason)) (n : ℕ) (xs : List Expression) →
      length (reasons_after m traces at f reasons (enumerate_from n xs)) ≡ length reasons + length xs
  reasons_after_long_from reasons n [] = omega arith
  reasons_after_long_from reasons n (x ∷ xs) =
      let one = own_reason m traces at f reasons x in
      omega (arith, reasons_after_long_from (reasons ++ one ∷ []) (n + 1) xs, length-append reasons (one ∷ []))

  pub reasons_after_long : length (reasons_after m traces at f [] (enumerate_from 0 f.expressions)) ≡ length f.expressions
  reasons_after_long = omega (arith, reasons_after_long_from [] 0 f.expressions)

  -- the reason by what a statement contributes to the result, if those for all expressions are right
  module _ (reasons : List (Option Reason)) (reported : (e : ℕ) → IsTold m at reasons e) where
    abbrev Given : Step → Reason → Type 0
    Given (Leaf (Return value)) r = ByOperand m at reasons (statement_operands (Leaf (Return value))) r
    Given (Leaf (CooperativeStore target tile)) r = ByOperand m at reasons (statement_operands (Leaf (CooperativeStore target tile))) r
    Given (Leaf (Call c arguments value)) r = ByCallee m (Some c) r
    Given s r = ⊥

    given_reported : (s : Step) → Contains (statements f.body) s → Determines (Given s) (statement_reason at traces reasons s)
    given_reported (Leaf (Return value)) holds =
        first_reported m at reasons (statement_operands (Leaf (Return value))) (λ o c. reported o.0)
    given_reported (Leaf (CooperativeStore target tile)) holds =
        first_reported m at reasons (statement_operands (Leaf (CooperativeStore target tile))) (λ o c. reported o.0)
    given_reported (Leaf (Call c arguments value)) holds = called_reported m traces (Some c) named where
      named : (d : ℕ) → Some c ≡ Some d → Determines (IsReason m (link.Result (location.Function d))) (result_reason_at traces d)
      named d same =
          let P : ℕ → Type 0 = λ v. Determines (IsReason m (link.Result (location.Function v))) (result_reason_at traces v) in
          subst P (same_Some c d same) (called_are c (by_call holds))
    given_reported s holds = λ r t. t

    abbrev SomeGiven : List Step → Reason → Type 0
    SomeGiven ss r = (s : Step) × Contains ss s × Given s r

    some_reported : (ss : List Step) → ((s : Step) → Contains ss s → Contains (statements f.body) s) →
        Determines (SomeGiven ss) (first_given at traces reasons ss)
    some_reported [] all = λ r t. nowhere t.0 t.1
    some_reported (s ∷ ss) all =
        reports_same (λ r. Given s r ⊎ SomeGiven ss r) (SomeGiven (s ∷ ss)) _ to from
        (or_reports (Given s) (SomeGiven ss) (statement_reason at traces reasons s) (first_given at traces reasons ss)
        (given_reported s (all s (here s ss)))
        (some_reported ss (λ t holds. all t (there s ss t holds)))) where
          to : (r : Reason) → Given s r ⊎ SomeGiven ss r → SomeGiven (s ∷ ss) r
          to r (inl gives) = (s, here s ss, gives)
          to r (inr t) = (t.0, there s ss t.0 t.1, t.2)

          from : (r : Reason) → SomeGiven (s ∷ ss) r → (k : Reason) × (Given s k ⊎ SomeGiven ss k)
          from r t = elim (cases s ss t.0 t.1) [
            | inl same ↦ let P : Step → Type 0 = λ v. Given v r in (r, inl (subst P (sym same) t.2))
            | inr later ↦ (r, inr (t.0, later, t.2))
          ]

    returned : (value : Option ℕ) (o : ℕ × Label) → Contains (statement_operands (Leaf (Return value))) o → value ≡ Some o.0
    returned None o holds = absurd (nowhere o holds)
    returned (Some e) o holds = elim (cases (e, label.Read) [] o holds) [
      | inl same ↦ ap (λ (v : ℕ × Label). Some v.0) same
      | inr none ↦ absurd (nowhere o none)
    ]

    by_value : (r : Reason) (o : ℕ × Label) → HasResultValue f o.0 → LeadsOn m (link.Expression at o.0) r → IsReason m (link.Result at) r
    by_value r o gives leads =
        let P : Reason → Type 0 = λ v. IsReason m (link.Result at) v in
        subst P (sym leads.0) (chain.LinksTo.value f is_f gives, leads.1)

    given_reason : (r : Reason) (s : Step) → Contains (statements f.body) s → Given s r → IsReason m (link.Result at) r
    given_reason r (Leaf (Return value)) holds t =
        let P : Option ℕ → Type 0 = λ v. Contains (statements f.body) (Leaf (Return v)) in
        by_value r t.0 (origins.HasResultValue.returned (subst P (returned value t.0 t.1) holds)) t.2
    given_reason r (Leaf (CooperativeStore target tile)) holds t = by_value r t.0 (origins.HasResultValue.stored holds t.1) t.2
    given_reason r (Leaf (Call c arguments value)) holds t =
        let P : Reason → Type 0 = λ v. IsReason m (link.Result at) v in
        let Q : ℕ → Type 0 = λ v. Contains (statements f.body) (Leaf (Call v arguments value)) in
        subst P (sym t.2.0) (chain.LinksTo.by_callee f is_f (subst Q (same_Some c t.0 t.1) holds), t.2.1)
    given_reason r s holds t = absurd t

    value_given : (e : ℕ) → HasResultValue f e → HasOriginAt m (link.Expression at e) →
        SomeGiven (statements f.body) (Through (link.Expression at e))
    value_given e (origins.HasResultValue.returned holds) has =
        (Leaf (Return (Some e)), holds, ((e, label.Read), here (e, label.Read) [], (refl, has)))
    value_given e (origins.HasResultValue.stored {target = target} {tile = tile} {label = l} holds used) has =
        (Leaf (CooperativeStore target tile), holds, ((e, l), used, (refl, has)))

    links_to_statement : (next : Link) → LinksTo m (link.Result at) next → HasOriginAt m next → SomeGiven (statements f.body) (Through next)
    links_to_statement _ (chain.LinksTo.value {e = e} g too gives) has =
        let P : Function → Type 0 = λ v. HasResultValue v e in value_given e (subst P (same_function m at g f too is_f) gives) has
    links_to_statement _ (chain.LinksTo.by_callee {c = c} g {arguments = arguments} {value = value} too holds) has =
        let P : Function → Type 0 = λ v. Contains (statements v.body) (Leaf (Call c arguments value)) in
        (Leaf (Call c arguments value), subst P (same_function m at g f too is_f) holds, (c, refl, (refl, has)))

    no_source : IsSourceAt m (link.Result at) → ⊥
    no_source is = let t = source_is m (link.Result at) is in let other = t.2 in absurd (cc)

    reason_given : (r : Reason) → IsReason m (link.Result at) r → (k : Reason) × SomeGiven (statements f.body) k
    reason_given Source is = absurd (no_source is)
    reason_given (Through next) is = (Through next, links_to_statement next is.0 is.1)

    pub given_back : Determines (IsReason m (link.Result at)) (first_given at traces reasons (statements f.body))
    given_back = reports_same (SomeGiven (statements f.body)) (IsReason m (link.Result at)) _
        (λ r t. given_reason r t.0 t.1 t.2) reason_given (some_reported (statements f.body) (λ s holds. holds))

-- In a well-formed module it is decided which expressions have an origin, since functions call earlier ones and operands are earlier.
use Rattle.std.proofs.Common.{◌≡◌, ◌⊎◌, inl, inr, refl, sym, ap, subst, ◌∙◌, ℕ, zero, suc, ◌<◌, ◌≤◌, Bool, true, false}
use Rattle.std.proofs.Common.{List, [], ◌∷◌, Option, Some, None, slice_get, length, arith}
use Rattle.std.specs.List.{Contains}
use Rattle.std.proofs.lemmas.Bool.{cases_lt}
use Rattle.std.proofs.lemmas.Option.{same_Some, slice_get_within}
use Rattle.shader_analysis.proofs.PositionLemmas.{found_at}
use Rattle.shader_analysis_spec.proofs.EarlierLemmas.{point_backwards}
use Rattle.shader_analysis_spec.proofs.ListLemmas.{cases, here, nowhere, there}
use Rattle.shader_analysis_spec.specs.Calls.{here as at_once, via}
use Rattle.shader_analysis_spec.specs.Disruption.{OriginsDecided}
use Rattle.shader_analysis_spec.specs.Earlier.{NamesBackwards}
use Rattle.shader_analysis_spec.specs.Infos.{NamesEarlier, by_call, by_result}
use Rattle.shader_analysis_spec.specs.Kills.{HasOrigin}
use Rattle.shader_analysis_spec.specs.Origins.{HasResultValue, DependsOn, Origin, ResultOrigin, is_source, itself, of_value, result}
use Rattle.shader_analysis_spec.specs.Origins.{returned, source, stored, through}
use Rattle.shader_analysis_spec.specs.Program.{Call, CooperativeStore, Expression, Function, IsExpressionAt, Label, Leaf, Module}
use Rattle.shader_analysis_spec.specs.Program.{Return, Step, expression_operands, statement_operands, statements}
use Rattle.shader_ir.specs.declared.expression.Expression.TheVariants as form
use Rattle.shader_ir.specs.declared.proc.operands.Label.TheVariants as label
use Rattle.shader_passes.proofs.StepOrigins.{same_expression}
use Rattle.shader_passes.specs.Facts.{callee_of}
use Rattle.shader_passes.specs.InfoOf.{PointsBackwards}
use Rattle.shader_resolve.specs.WellFormed.{IsWellFormed}
use Rattle.shader_typing.specs.Divergence.{IsOf, OriginsAreDecided, entry_point, function}

abbrev pub Decided : Type 0 → Type 0
Decided P = P ⊎ (P → ⊥)

pub true_or_false : (b : Bool) → (b ≡ true) ⊎ (b ≡ false)
true_or_false true = inl refl
true_or_false false = inr refl

-- whether an item of a list has a property that is decided of each
pub some_of : {X : Type 0} (P : X → Type 0) (xs : List X) → ((x : X) → Contains xs x → Decided (P x)) →
    Decided ((x : X) × Contains xs x × P x)
some_of P [] each = inr (λ w. nowhere w.0 w.1)
some_of P (x ∷ xs) each = elim (each x (here x xs)) [
  | inl p ↦ inl (x, here x xs, p)
  | inr none ↦ elim (some_of P xs (λ y c. each y (there x xs y c))) [
    | inl w ↦ inl (w.0, there x xs w.0 w.1, w.2)
    | inr never ↦ inr (λ w. elim (cases x xs w.0 w.1) [ inl is ↦ none (subst P (sym is) w.2) | inr later ↦ never (w.0, later, w.2) ])
  ]
]

-- what is decided of something is decided of what it is equivalent to
pub decided_as : (P Q : Type 0) → (P → Q) → (Q → P) → Decided P → Decided Q
decided_as P Q to from (inl p) = inl (to p)
decided_as P Q to from (inr none) = inr (λ q. none (from q))

pub callee_is : (x : Expression) (c : ℕ) → callee_of x ≡ Some c → x ≡ form.CallResult c
callee_is (form.CallResult d) c h = cc
callee_is x c h = absurd (cc)

-- the function at a position has a property
abbrev pub At : Module → (Function → Type 0) → ℕ → Type 0
At m P c = (d : Function) × (slice_get m.functions c ≡ Some d) × P d

module _ (m : Module) (well : IsWellFormed m) where
  backwards : NamesBackwards m
  backwards = point_backwards m well

  -- its operands are earlier, and it names functions of the module
  pub record IsBackward (f : Function) : Type 0 where
    pub operands : PointsBackwards f
    pub callees : NamesEarlier (length m.functions) f

  pub backward : (f : Function) → IsOf m f → IsBackward f
  backward f (function i is) = record {
    operands = backwards.expressions i f is;
    callees = λ c mention. omega (arith, backwards.functions i f is c mention, slice_get_within m.functions i f is);
  }
  backward _ (entry_point i entry is) =
      record { operands = backwards.entry_expressions i entry is; callees = backwards.entry_points i entry is }

  -- a property is decided of the functions before a position if it is of each function of whose callees it is
  pub decided_before : (P : Function → Type 0) → ((f : Function) → PointsBackwards f → (n : ℕ) → NamesEarlier n f →
      ((c : ℕ) → c < n → Decided (At m P c)) → Decided (P f)) → (n : ℕ) → n ≤ length m.functions → (c : ℕ) → c < n → Decided (At m P c)
  decided_before P step zero le c lt = absurd (omega arith)
  decided_before P step (suc n) le c lt = elim (cases_lt c n) [
    | inl early ↦ decided_before P step n (omega (arith, le)) c early
    | inr late ↦
        let f = found_at m.functions n (omega (arith, le)) in
        let same : n ≡ c = omega (arith, late, lt) in
        subst (λ v. Decided (At m P v)) same
        (decided_as (P f.0) (At m P n) (λ has. (f.0, f.1, has)) (λ w. subst P (same_Some w.0 f.0 (sym w.1 ∙ f.1)) w.2)
        (step f.0 (backwards.expressions n f.0 f.1) n (backwards.functions n f.0 f.1) (decided_before P step n (omega (arith, le)))))
  ]

module _ (m : Module) where
  abbrev HasResultOrigin : Function → Type 0
  HasResultOrigin f = (r : Function) × (h : ℕ) × ResultOrigin m f r h

  -- the function at a position gives its result an origin
  abbrev ResultAt : ℕ → Type 0
  ResultAt c = At m HasResultOrigin c

  module _ (f : Function) (below : PointsBackwards f) (n : ℕ) (earlier : NamesEarlier n f)
      (callees : (c : ℕ) → c < n → Decided (ResultAt c)) where
    led_from : (e k : ℕ) (y : Expression) → DependsOn f e k → IsExpressionAt f k y → (x : Expression) × IsExpressionAt f e x
    led_from e _ y itself is = (y, is)
    led_from e k y (through {x = x} s c leads) is = (x, s)

    occurs : (e : ℕ) (r : Function) (h : ℕ) → Origin m f e r h → (x : Expression) × IsExpressionAt f e x
    occurs e r h (source leads is) = led_from e h is.expression leads is.is_there
    occurs e r h (result {k = k} {c = c} leads is_there is_d from) = led_from e k (form.CallResult c) leads is_there

    module _ (e : ℕ) (x : Expression) (is : IsExpressionAt f e x) where
      abbrev ByCallee : Type 0
      ByCallee = (c : ℕ) × (callee_of x ≡ Some c) × ResultAt c

      abbrev ByOperand : Type 0
      ByOperand = (o : ℕ × Label) × Contains (expression_operands x) o × HasOrigin m f o.0

      by_source : is_source m f x ≡ true → HasOrigin m f e
      by_source t = (f, e, source itself (record { expression = x; is_there = is; source = t }))

      of_callee : ByCallee → HasOrigin m f e
      of_callee w = (w.2.2.0, w.2.2.1, result itself (subst (λ v. IsExpressionAt f e v) (callee_is x w.0 w.1) is) w.2.1 w.2.2.2)

      longer : (o : ℕ × Label) → Contains (expression_operands x) o → (r : Function) (h : ℕ) → Origin m f o.0 r h → Origin m f e r h
      longer o holds r h (source leads at) = source (through is holds leads) at
      longer o holds r h (result leads is_there is_d from) = result (through is holds leads) is_there is_d from

      of_operand : ByOperand → HasOrigin m f e
      of_operand w = (w.2.0, w.2.1, longer w.0 w.1 w.2.0 w.2.1 w.2.2)

      operand_is : (y : Expression) (o : ℕ × Label) → IsExpressionAt f e y → Contains (expression_operands y) o →
          Contains (expression_operands x) o
      operand_is y o s c = subst (λ v. Contains (expression_operands v) o) (same_expression f e y x s is) c

      none_left : (is_source m f x ≡ false) → (ByCallee → ⊥) → (ByOperand → ⊥) → (r : Function) (h : ℕ) → Origin m f e r h → ⊥
      none_left no_source no_callee no_operand r h (source itself at) =
          let P : Expression → Type 0 = λ v. is_source m f v ≡ true in
          let some : is_source m f x ≡ true = subst P (same_expression f e at.expression x at.is_there is) at.source in
          absurd (cc)
      none_left no_source no_callee no_operand r h (source (through {x = y} {o = o} s c leads) at) =
          no_operand (o, operand_is y o s c, (r, h, source leads at))
      none_left no_source no_callee no_operand r h (result {c = c} {d = d} itself is_there is_d from) =
          let P : Expression → Type 0 = λ v. callee_of v ≡ Some c in
          no_callee (c, subst P (same_expression f e (form.CallResult c) x is_there is) refl, (d, is_d, (r, h, from)))
      none_left no_source no_callee no_operand r h (result (through {x = y} {o = o} s c leads) is_there is_d from) =
          no_operand (o, operand_is y o s c, (r, h, result leads is_there is_d from))

      callee_decided : (o : Option ℕ) → callee_of x ≡ o → Decided ByCallee
      callee_decided None absent = inr (λ w. let some = w.1 in absurd (cc))
      callee_decided (Some c) named =
          let mention = by_result e (subst (λ v. IsExpressionAt f e v) (callee_is x c named) is) in
          decided_as (ResultAt c) ByCallee (λ at. (c, named, at))
          (λ w. let same : w.0 ≡ c = let other = w.1 in cc in subst ResultAt same w.2) (callees c (earlier c mention))

      expression_decided : ((o : ℕ × Label) → Contains (expression_operands x) o → Decided (HasOrigin m f o.0)) → Decided (HasOrigin m f e)
      expression_decided operands = elim (true_or_false (is_source m f x)) [
        | inl t ↦ inl (by_source t)
        | inr no_source ↦ elim (callee_decided (callee_of x) refl) [
          | inl w ↦ inl (of_callee w)
          | inr no_callee ↦ elim (some_of (λ (o : ℕ × Label). HasOrigin m f o.0) (expression_operands x) operands) [
            | inl w ↦ inl (of_operand w)
            | inr no_operand ↦ inr (λ w. none_left no_source no_callee no_operand w.0 w.1 w.2)
          ]
        ]
      ]

    decided_below : (k e : ℕ) → e < k → Decided (HasOrigin m f e)
    decided_below zero e lt = absurd (omega arith)
    decided_below (suc k) e lt = at (λ o early. decided_below k o early) (slice_get f.expressions e) refl where
      at : ((o : ℕ) → o < k → Decided (HasOrigin m f o)) → (v : Option Expression) → slice_get f.expressions e ≡ v →
          Decided (HasOrigin m f e)
      at before None absent = inr (λ w. let some = occurs e w.0 w.1 w.2 in let there = some.1 in absurd (cc))
      at before (Some x) is = expression_decided e x is
          (λ o c. let lower = below e x o is c in before o.0 (omega (arith, lt, lower)))

    pub decided : OriginsDecided m f
    decided e = decided_below (suc e) e (omega arith)

    -- what a statement gives the result
    abbrev Given : Step → Type 0
    Given (Leaf (Return value)) = (o : ℕ × Label) × Contains (statement_operands (Leaf (Return value))) o × HasOrigin m f o.0
    Given (Leaf (CooperativeStore target tile)) =
        (o : ℕ × Label) × Contains (statement_operands (Leaf (CooperativeStore target tile))) o × HasOrigin m f o.0
    Given (Leaf (Call c arguments value)) = ResultAt c
    Given s = ⊥

    given_decided : (s : Step) → Contains (statements f.body) s → Decided (Given s)
    given_decided (Leaf (Return value)) holds =
        some_of (λ (o : ℕ × Label). HasOrigin m f o.0) (statement_operands (Leaf (Return value))) (λ o c. decided o.0)
    given_decided (Leaf (CooperativeStore target tile)) holds =
        some_of (λ (o : ℕ × Label). HasOrigin m f o.0) (statement_operands (Leaf (CooperativeStore target tile))) (λ o c. decided o.0)
    given_decided (Leaf (Call c arguments value)) holds = callees c (earlier c (by_call holds))
    given_decided s holds = inr (λ t. t)

    yielded : (value : Option ℕ) (o : ℕ × Label) → Contains (statement_operands (Leaf (Return value))) o → value ≡ Some o.0
    yielded None o k = absurd (nowhere o k)
    yielded (Some e) o k = elim (cases (e, label.Read) [] o k) [
      | inl same ↦ ap (λ (v : ℕ × Label). Some v.0) same
      | inr none ↦ absurd (nowhere o none)
    ]

    given_to : (s : Step) → Contains (statements f.body) s → Given s → HasResultOrigin f
    given_to (Leaf (Return value)) holds w =
        let P : Option ℕ → Type 0 = λ v. Contains (statements f.body) (Leaf (Return v)) in
        (w.2.0, w.2.1, of_value at_once (returned (subst P (yielded value w.0 w.1) holds)) w.2.2)
    given_to (Leaf (CooperativeStore target tile)) holds w = (w.2.0, w.2.1, of_value at_once (stored holds w.1) w.2.2)
    given_to (Leaf (Call c arguments value)) holds w = further w.2.0 w.2.1 w.2.2
      where
        further : (r : Function) (h : ℕ) → ResultOrigin m w.0 r h → HasResultOrigin f
        further r h (of_value path gives origin) = (
          r,
          h,
          of_value
              (via (record { callee = c; arguments = arguments; result = value; holds = holds; calls = w.1 }) path) gives origin,
        )
    given_to s holds w = absurd w

    abbrev SomeGiven : Type 0
    SomeGiven = (s : Step) × Contains (statements f.body) s × Given s

    given_by : (e : ℕ) → HasResultValue f e → HasOrigin m f e → SomeGiven
    given_by e (returned holds) has = (Leaf (Return (Some e)), holds, ((e, label.Read), here (e, label.Read) [], has))
    given_by e (stored {target = target} {tile = tile} {label = l} holds used) has =
        (Leaf (CooperativeStore target tile), holds, ((e, l), used, has))

    given_from : (r : Function) (h : ℕ) → ResultOrigin m f r h → SomeGiven
    given_from r h (of_value {e = e} at_once gives origin) = given_by e gives (r, h, origin)
    given_from r h (of_value (via {c = d} call path) gives origin) =
        (Leaf (Call call.callee call.arguments call.result), call.holds, (d, call.calls, (r, h, of_value path gives origin)))

    result_decided : Decided (HasResultOrigin f)
    result_decided = decided_as SomeGiven (HasResultOrigin f) (λ w. given_to w.0 w.1 w.2) (λ w. given_from w.0 w.1 w.2)
        (some_of Given (statements f.body) given_decided)

  pub origins_decided : IsWellFormed m → (f : Function) → IsOf m f → OriginsDecided m f
  origins_decided well f of =
      let is = backward m well f of in
      decided f is.operands (length m.functions) is.callees
      (decided_before m well HasResultOrigin result_decided (length m.functions) (omega arith))

pub origins_are_decided : OriginsAreDecided
origins_are_decided m well f of = origins_decided m well f of

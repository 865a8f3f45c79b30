-- In a well-formed module the needs of an expression are decided, and are a set.
use Rattle.std.proofs.Common.{◌≡◌, ◌↔◌, ◌⊎◌, inl, inr, refl, subst, ℕ, ◌<◌, Bool, true, false, IsTrue}
use Rattle.std.proofs.Common.{Option, Some, None, slice_get, length, arith}
use Rattle.std.specs.List.{Contains}
use Rattle.shader_analysis_spec.proofs.JoinLemmas.{of_range, range_to}
use Rattle.shader_analysis_spec.specs.Calls.{CallsTo, here as at_once, via}
use Rattle.shader_analysis_spec.specs.Infos.{NamesEarlier, by_call, by_result}
use Rattle.shader_analysis_spec.specs.Needs.{ExpressionNeeds, Need, Needs, by_callee, by_expression, by_form, by_statement}
use Rattle.shader_analysis_spec.specs.Needs.{expression_requires, statement_requires}
use Rattle.shader_analysis_spec.specs.Program.{Call, Emit, Expression, Function, IsExpressionAt, Leaf, Module, Step, statements}
use Rattle.shader_arena.specs.Positions.{positions_between}
use Rattle.shader_ir.specs.declared.expression.Expression.TheVariants as form
use Rattle.shader_passes.proofs.StepOrigins.{same_expression}
use Rattle.shader_passes.specs.Facts.{callee_of}
use Rattle.shader_resolve.specs.WellFormed.{IsWellFormed}
use Rattle.shader_typing.proofs.DecidedLemmas.{At, Decided, backward, callee_is, decided_as, decided_before, some_of, true_or_false}
use Rattle.shader_typing.specs.Divergence.{IsOf}

module _ (m : Module) (n : Need) where
  module _ (f : Function) (k : ℕ) (earlier : NamesEarlier k f) (callees : (c : ℕ) → c < k → Decided (At m (Needs m n) c)) where
    module _ (e : ℕ) (x : Expression) (is : IsExpressionAt f e x) where
      abbrev ByCallee : Type 0
      ByCallee = (c : ℕ) × (callee_of x ≡ Some c) × At m (Needs m n) c

      of_callee : ByCallee → ExpressionNeeds m n f e
      of_callee w = by_callee (subst (λ v. IsExpressionAt f e v) (callee_is x w.0 w.1) is) w.2.1 w.2.2

      none_left : (expression_requires x n ≡ false) → (ByCallee → ⊥) → ExpressionNeeds m n f e → ⊥
      none_left no_form no_callee (by_form {x = y} s t) =
          let P : Expression → Type 0 = λ v. expression_requires v n ≡ true in
          let some : expression_requires x n ≡ true = subst P (same_expression f e y x s is) t in
          absurd (cc)
      none_left no_form no_callee (by_callee {d = d} {c = c} s is_d needs) =
          let P : Expression → Type 0 = λ v. callee_of v ≡ Some c in
          no_callee (c, subst P (same_expression f e (form.CallResult c) x s is) refl, (d, is_d, needs))

      callee_decided : (o : Option ℕ) → callee_of x ≡ o → Decided ByCallee
      callee_decided None absent = inr (λ w. let some = w.1 in absurd (cc))
      callee_decided (Some c) named =
          let mention = by_result e (subst (λ v. IsExpressionAt f e v) (callee_is x c named) is) in
          decided_as (At m (Needs m n) c) ByCallee (λ at. (c, named, at))
          (λ w. let same : w.0 ≡ c = let other = w.1 in cc in subst (At m (Needs m n)) same w.2) (callees c (earlier c mention))

      one_decided : Decided (ExpressionNeeds m n f e)
      one_decided = elim (true_or_false (expression_requires x n)) [
        | inl t ↦ inl (by_form is t)
        | inr no_form ↦ elim (callee_decided (callee_of x) refl) [
          | inl w ↦ inl (of_callee w)
          | inr no_callee ↦ inr (none_left no_form no_callee)
        ]
      ]

    occurs : (e : ℕ) → ExpressionNeeds m n f e → (x : Expression) × IsExpressionAt f e x
    occurs e (by_form {x = x} s t) = (x, s)
    occurs e (by_callee {c = c} s is_d needs) = (form.CallResult c, s)

    pub expression_decided : (e : ℕ) → Decided (ExpressionNeeds m n f e)
    expression_decided e = at (slice_get f.expressions e) refl where
      at : (o : Option Expression) → slice_get f.expressions e ≡ o → Decided (ExpressionNeeds m n f e)
      at None absent = inr (λ w. let some = occurs e w in let there = some.1 in absurd (cc))
      at (Some x) is = one_decided e x is

    -- the expressions that a statement evaluates, or the function that it calls, have the need
    abbrev Given : Step → Type 0
    Given (Leaf (Emit start finish)) = (e : ℕ) × Contains (positions_between start finish) e × ExpressionNeeds m n f e
    Given (Leaf (Call c arguments value)) = At m (Needs m n) c
    Given s = ⊥

    given_decided : (s : Step) → Contains (statements f.body) s → Decided (Given s)
    given_decided (Leaf (Emit start finish)) holds =
        some_of (λ e. ExpressionNeeds m n f e) (positions_between start finish) (λ e c. expression_decided e)
    given_decided (Leaf (Call c arguments value)) holds = callees c (earlier c (by_call holds))
    given_decided s holds = inr (λ t. t)

    abbrev Asks : Step → Type 0
    Asks s = (statement_requires s n ≡ true) ⊎ Given s

    step_decided : (s : Step) → Contains (statements f.body) s → Decided (Asks s)
    step_decided s holds = elim (true_or_false (statement_requires s n)) [
      | inl t ↦ inl (inl t)
      | inr never ↦ elim (given_decided s holds) [
        | inl g ↦ inl (inr g)
        | inr none ↦ inr (λ w. elim w [ inl t ↦ absurd (cc) | inr g ↦ none g ])
      ]
    ]

    further : (d : Function) → CallsTo m f d → Needs m n d → Needs m n f
    further d call (by_statement path holds t) = by_statement (via call path) holds t
    further d call (by_expression e path emitted needs) = by_expression e (via call path) emitted needs

    given_to : (s : Step) → Contains (statements f.body) s → Given s → Needs m n f
    given_to (Leaf (Emit start finish)) holds w =
        let range = range_to start finish w.0 w.1 in
        by_expression w.0 at_once (record { start = start; finish = finish; holds = holds; from = range.0; to = range.1 }) w.2
    given_to (Leaf (Call c arguments value)) holds w =
        further w.0 (record { callee = c; arguments = arguments; result = value; holds = holds; calls = w.1 }) w.2
    given_to s holds w = absurd w

    abbrev Asked : Type 0
    Asked = (s : Step) × Contains (statements f.body) s × Asks s

    to_needs : Asked → Needs m n f
    to_needs w = elim w.2 [ inl t ↦ by_statement at_once w.1 t | inr g ↦ given_to w.0 w.1 g ]

    from_needs : Needs m n f → Asked
    from_needs (by_statement {s = s} at_once holds t) = (s, holds, inl t)
    from_needs (by_statement (via {c = d} call path) holds t) =
        (Leaf (Call call.callee call.arguments call.result), call.holds, inr (d, call.calls, by_statement path holds t))
    from_needs (by_expression e at_once emitted needs) = (
      Leaf (Emit emitted.start emitted.finish),
      emitted.holds,
      inr (e, of_range emitted.start emitted.finish e emitted.from emitted.to, needs),
    )
    from_needs (by_expression e (via {c = d} call path) emitted needs) =
        (Leaf (Call call.callee call.arguments call.result), call.holds, inr (d, call.calls, by_expression e path emitted needs))

    needs_decided : Decided (Needs m n f)
    needs_decided = decided_as Asked (Needs m n f) to_needs from_needs (some_of Asks (statements f.body) step_decided)

  need_decided : IsWellFormed m → (f : Function) → IsOf m f → (e : ℕ) → Decided (ExpressionNeeds m n f e)
  need_decided well f of =
      let is = backward m well f of in
      expression_decided f (length m.functions) is.callees
      (decided_before m well (Needs m n) (λ g below k earlier callees. needs_decided g k earlier callees) (length m.functions)
      (omega arith))

-- whether something holds that is decided
abbrev holds : {P : Type 0} → Decided P → Bool
holds (inl p) = true
holds (inr none) = false

holds_where : {P : Type 0} (d : Decided P) → IsTrue (holds d) ↔ P
holds_where (inl p) = (λ h. p, λ q. refl)
holds_where (inr none) = (λ h. absurd (cc), λ q. absurd (none q))

module _ (m : Module) (well : IsWellFormed m) (f : Function) (of : IsOf m f) (e : ℕ) where
  -- the set of the needs of the expression
  pub needs_of : Need → Bool
  needs_of n = holds (need_decided m n well f of e)

  pub all_needs : (n : Need) → IsTrue (needs_of n) ↔ ExpressionNeeds m n f e
  unfolding needs_of
  all_needs n = holds_where (need_decided m n well f of e)

-- Properties of the small functions.
use Rattle.std.proofs.Common.{◌≡◌, refl, sym, ap, subst, ◌∙◌, ℕ, zero, suc, Bool, true, false, List, []}
use Rattle.std.proofs.Common.{◌∷◌, Option, Some, None, inl, inr, IsTrue, slice_get, nat_eq, nat_lt, arith}
use Rattle.std.specs.List.{Contains}
use Rattle.std.specs.Option.{option_and_then}
use Rattle.std.proofs.lemmas.Option.{same_Some}
use Rattle.shader_ir.specs.declared.expression.Expression.TheVariants as form
use Rattle.shader_ir.specs.declared.operators.DerivativeAxis.TheVariants as axis
use Rattle.shader_ir.specs.declared.operators.DerivativeControl.TheVariants as control
use Rattle.shader_ir.specs.declared.proc.operands.Label.TheVariants as label
use Rattle.shader_ir.specs.Occurs.{global}
use Rattle.shader_analysis_spec.specs.Program.{Function, Module, Label, Step, Body, End, Then, Leaf, Kill, Emit, Store, Call, statements}
use Rattle.shader_analysis_spec.specs.Calls.{CallPath, here, via}
use Rattle.shader_analysis_spec.specs.Flow.{At, start, inside, accept, in_branch, accepts, Disrupted}
use Rattle.shader_analysis_spec.specs.Infos.{Use, Reads, Writes, Queries, InGlobal, Resource}
use Rattle.shader_analysis_spec.specs.Kills.{HasOrigin, Kills, kills}
use Rattle.shader_analysis_spec.specs.Needs.{Needs, by_statement, by_expression, by_form, Derivative}
use Rattle.shader_analysis_spec.specs.Origins.{source, result, itself, IsSource, is_source}
use Rattle.shader_analysis_spec.specs.Pairs.{resource, samples, back, IsPair}
use Rattle.shader_analysis_spec.specs.Samples.{named, stored, NamedIsQueried, taking, shared, ArgumentsVary, branching}
use Rattle.shader_analysis_spec.specs.Samples.{BranchesKill, differentiating, EmittedIsNeeded, sampling, PairsAreLedBack}
use Rattle.shader_analysis_spec.specs.Samples.{returning, point_of_emit, FallThroughDisrupts}
use Rattle.shader_analysis_spec.specs.Uses.{Uses, directly, by_name, UsesDirectly, adds_use}
use Rattle.shader_analysis_spec.proofs.FindLemmas.{flags_find_statements}
use Rattle.shader_analysis_spec.proofs.FlowLemmas.{more_disrupted}
use Rattle.shader_analysis_spec.proofs.ListLemmas.{nowhere, here as first_of, cases}
use Rattle.shader_analysis_spec.proofs.PassLemmas.{flags_are_least}

-- the body has no Call statement
abbrev CallsNothing : Function → Type 0
CallsNothing f = (callee : ℕ) (arguments : List ℕ) (found : Option ℕ) →
    Contains (statements f.body) (Leaf (Call callee arguments found)) → ⊥

-- such a function reaches only itself
alone : (m : Module) (f s : Function) → CallsNothing f → CallPath m f s → f ≡ s
alone m f _ nothing here = refl
alone m f s nothing (via call path) = absurd (nothing call.callee call.arguments call.result call.holds)

only : {X : Type 0} (x y : X) → Contains (x ∷ []) y → x ≡ y
only x y h = elim (cases x [] y h) [ inl same ↦ same | inr none ↦ absurd (nowhere y none) ]

either : {X : Type 0} (P : X → Type 0) (a b x : X) → Contains (a ∷ b ∷ []) x → P a → P b → P x
either P a b x h of_a of_b = elim (cases a (b ∷ []) x h) [ inl same ↦ subst P same of_a | inr later ↦ subst P (only b x later) of_b ]

-- ---- uses
named_uses_nothing : (g : ℕ) (u : Use) → UsesDirectly named g u → ⊥
named_uses_nothing g u d = nowhere d.occurrence d.occurs

named_calls_nothing : CallsNothing named
named_calls_nothing callee arguments found h = nowhere _ h

stored_calls_nothing : CallsNothing stored
stored_calls_nothing callee arguments found h = let same = only (Leaf (Store 0 1)) (Leaf (Call callee arguments found)) h in absurd (cc)

never_named : (m : Module) (s : Function) (u : Use) → CallPath m named s → UsesDirectly s 0 u → ⊥
never_named m s u path d = let same = alone m named s named_calls_nothing path in
    named_uses_nothing 0 u (subst (λ v. UsesDirectly v 0 u) (sym same) d)

not_read : (m : Module) → Uses m named 0 Reads → ⊥
not_read m (directly {r = s} path d) = never_named m s Reads path d

stored_writes : UsesDirectly stored 0 Writes
stored_writes = record {
  occurrence = (0, label.Write);
  occurs = first_of (0, label.Write) ((1, label.Read) ∷ []);
  root =
      global refl;
  label = refl;
}

not_queried : (g : ℕ) → UsesDirectly stored g Queries → ⊥
not_queried g d = either (λ (o : ℕ × Label). IsTrue (adds_use o.1 Queries) →
    ⊥) (0, label.Write) (1, label.Read) d.occurrence d.occurs (λ h. absurd (cc)) (λ h. absurd (cc)) d.label

stored_not_queried : (m : Module) → Uses m stored 0 Queries → ⊥
stored_not_queried m (directly {r = s} path d) =
    let same = alone m stored s stored_calls_nothing path in not_queried 0 (subst (λ v. UsesDirectly v 0 Queries) (sym same) d)
stored_not_queried m (by_name {r = s} path names never) =
    let same = alone m stored s stored_calls_nothing path in never s Writes here (subst (λ v. UsesDirectly v 0 Writes) same stored_writes)

pub named_is_queried : NamedIsQueried
named_is_queried m = (
  by_name here (record { expression = 0; named = first_of 0 []; root = global refl }) (never_named m),
  not_read m,
  directly here stored_writes,
  stored_not_queried m,
)

-- ---- origins
first_alone : {X : Type 0} (x y : X) (e : ℕ) → slice_get (x ∷ []) e ≡ Some y → (e ≡ 0) × (x ≡ y)
first_alone x y zero is = (refl, same_Some x y is)
first_alone x y (suc e) is = absurd (cc)

shared_is_no_source : (body : Body) (m : Module) (h : ℕ) → IsSource m (taking shared body) h → ⊥
shared_is_no_source body m h is =
    let same = first_alone (form.FunctionArgument 0) is.expression h is.is_there in
    let reported : false ≡ true = subst (λ v. is_source m (taking shared body) v ≡ true) (sym same.1) is.source in absurd (cc)

no_origin : (m : Module) → HasOrigin m (taking shared End) 0 → ⊥
no_origin m (r, h, source leads is) = shared_is_no_source End m _ is
no_origin m (r, h, result {k = k} leads is_there is_d from) =
    let same = first_alone (form.FunctionArgument 0) _ k is_there in absurd (cc (same.1))

taken_varies : (m : Module) (body : Body) → HasOrigin m (taking None body) 0
taken_varies m body = (taking None body, 0, source itself (record { expression = form.FunctionArgument 0; is_there = refl; source = refl }))

pub arguments_vary : ArgumentsVary
arguments_vary m = (taken_varies m End, no_origin m)

-- ---- kills
abbrev is_kill : Step → Bool
is_kill (Leaf Kill) = true
is_kill step = false

never_disrupted : (V : ℕ → Type 0) (known : ℕ → Bool) (b : Body) (p : At (Then (Leaf Kill) End) (Then (Leaf Kill) b)) →
    Disrupted V (λ c. IsTrue (known c)) (Then (Leaf Kill) End) _ p → ⊥
never_disrupted V known b p d =
    let wide = more_disrupted V (λ e. IsTrue true) (λ c. IsTrue (known c)) (λ c. IsTrue (known c)) (Then (Leaf Kill) End) (λ e v. refl)
    (λ c arguments found b q k. k) _ p d in
    let reported : false ≡ true =
    (flags_find_statements (λ e. true) known is_kill (Then (Leaf Kill) End)).1 (Leaf Kill, b, p, refl, wide) in absurd (cc)

kill_calls_nothing : CallsNothing (taking None (Then (Leaf Kill) End))
kill_calls_nothing callee arguments found h = let same = only (Leaf Kill) (Leaf (Call callee arguments found)) h in absurd (cc)

no_kill : (m : Module) (f : Function) → taking None (Then (Leaf Kill) End) ≡ f → Kills m f → ⊥
no_kill m f is (kills {r = r} {b = b} path known target there all p d) =
    let same : taking None (Then (Leaf Kill) End) ≡ r = is ∙ alone m f r (subst CallsNothing is kill_calls_nothing) path in
    at r (ap (λ (v : Function). v.body) same) p d
  where
    at : (r : Function) → Then (Leaf Kill) End ≡ r.body → (p : At r.body (Then (Leaf Kill) b)) →
        Disrupted (HasOrigin m r) (λ c. IsTrue (known c)) r.body _ p → ⊥
    at r is = subst (λ (v : Body). (p : At v (Then (Leaf Kill) b)) → Disrupted (HasOrigin m r) (λ c. IsTrue (known c)) v _ p → ⊥) is
        (λ p d. never_disrupted (HasOrigin m r) known b p d)

pub branches_kill : BranchesKill
branches_kill m = (
  kills here (λ c. false) (λ c. taking None (Then (Leaf Kill) End)) (λ c counted. absurd (let no = counted.0 in cc))
      (λ c counted. absurd (let no = counted.0 in cc)) (inside start accept) (in_branch start accepts (taken_varies m branching)),
  λ h. no_kill m (taking None (Then (Leaf Kill) End)) refl h,
)

-- ---- needs
nothing_calls : CallsNothing (differentiating End)
nothing_calls callee arguments found h = nowhere _ h

nothing_needed : (m : Module) (f : Function) → differentiating End ≡ f → Needs m Derivative f → ⊥
nothing_needed m f is (by_statement {r = r} {s = s} path holds required) =
    let same = is ∙ alone m f r (subst CallsNothing is nothing_calls) path in
    nowhere s (subst (λ (v : Function). Contains (statements v.body) s) (sym same) holds)
nothing_needed m f is (by_expression {r = r} e path emitted needs) =
    let same = is ∙ alone m f r (subst CallsNothing is nothing_calls) path in
    nowhere _ (subst (λ (v : Function). Contains (statements v.body) (Leaf (Emit emitted.start emitted.finish))) (sym same) emitted.holds)

pub emitted_is_needed : EmittedIsNeeded
emitted_is_needed m = (
  by_expression 1 here (record { start = 0; finish = 2; holds = first_of (Leaf (Emit 0 2)) []; from = omega arith; to = omega arith })
      (by_form {x = form.Derivative axis.X control.None 0} refl refl),
  λ h. nothing_needed m (differentiating End) refl h,
)

-- ---- pairs
sampling_calls_nothing : CallsNothing sampling
sampling_calls_nothing callee arguments found h = nowhere _ h

no_global_pair : (m : Module) (f : Function) → sampling ≡ f → (g : ℕ) (sampler : Resource) → IsPair m f (InGlobal g) sampler → ⊥
no_global_pair m f is g sampler pair = at pair.reached pair.path pair.sample pair.is_there pair.image_resource
  where
    sampled_by : (e i s : ℕ) → samples sampling e ≡ Some (i, s) → i ≡ 0
    sampled_by zero i s is_there = absurd (cc)
    sampled_by (suc zero) i s is_there = absurd (cc)
    sampled_by (suc (suc zero)) i s is_there = sym (ap (λ (v : ℕ × ℕ). v.0) (same_Some (0, 1) (i, s) is_there))
    sampled_by (suc (suc (suc e))) i s is_there = absurd (cc)

    at : (r : Function) (path : CallPath m f r) (e : ℕ) → samples r e ≡ Some (pair.image_operand, pair.sampler_operand) →
        option_and_then (back path) (resource r pair.image_operand) ≡ Some (InGlobal g) → ⊥
    at _ here e is_there led =
        let first : pair.image_operand ≡ 0 = sampled_by e pair.image_operand pair.sampler_operand
        (subst (λ v. samples v e ≡ Some (pair.image_operand, pair.sampler_operand)) (sym is) is_there) in
        let reported : option_and_then (back {m = m} {f = sampling} here) (resource sampling 0) ≡ Some (InGlobal g) =
        subst (λ v. option_and_then (back {m = m} {f = sampling} here) (resource sampling v) ≡ Some (InGlobal g)) first
        (subst (λ v. option_and_then (back {m = m} {f = v} here) (resource v pair.image_operand) ≡ Some (InGlobal g)) (sym is) led) in
        absurd (cc)
    at r (via call path) e is_there led = absurd (subst CallsNothing is sampling_calls_nothing call.callee call.arguments
        call.result call.holds)

pub pairs_are_led_back : PairsAreLedBack
pairs_are_led_back = (
  record {
    reached = sampling;
    path = via (record {
      callee = 0;
      arguments = 0 ∷ 1 ∷ [];
      result = None;
      holds =
          first_of (Leaf (Call 0 (0 ∷ 1 ∷ []) None)) [];
      calls = refl;
    }) here;
    sample = 2;
    image_operand = 0;
    sampler_operand = 1;
    is_there = refl;
    image_resource = refl;
    sampler_resource = refl;
  },
  λ m g sampler pair. no_global_pair m sampling refl g sampler pair,
)

-- ---- flow
pub fall_through_disrupts : FallThroughDisrupts
fall_through_disrupts = (
  ((flags_are_least (λ e. nat_eq e 0) (λ c. nat_lt c 0) (returning true)).0 _ (point_of_emit true)).0 refl,
  λ d. let reported : false ≡ true = ((flags_are_least (λ e. nat_eq e 0) (λ c. nat_lt c 0) (returning false)).0 _ (point_of_emit false)).1 d
      in absurd (cc),
)

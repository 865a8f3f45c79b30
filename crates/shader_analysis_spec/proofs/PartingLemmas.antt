-- Two walks that agree on uniform choices, and part.
use Rattle.std.proofs.Common.{◌≡◌, refl, ℕ, true, false, [], ◌∷◌, None, inl, inr, subst}
use Rattle.std.specs.List.{Contains}
use Rattle.shader_analysis_spec.specs.Program.{Step, Leaf, Simple, If, Switch, Return, Emit, Body, End, Then, Cases}
use Rattle.shader_analysis_spec.specs.Flow.{At, Child}
use Rattle.shader_analysis_spec.specs.Samples.{parting, emit_at_end, takes_branch, WalksPart}
use Rattle.shader_analysis_spec.specs.Walks.{Alike, to_accept, to_reject, at_end, on, Leaves, simply, through, Passes, starts}
use Rattle.shader_analysis_spec.proofs.FlowLemmas.{occurs_within}
use Rattle.shader_analysis_spec.proofs.ListLemmas.{nowhere, cases}

three : {X : Type 0} (P : X → Type 0) (a b c x : X) → Contains (a ∷ b ∷ c ∷ []) x → P a → P b → P c → P x
three P a b c x h of_a of_b of_c = elim (cases a (b ∷ c ∷ []) x h) [
  | inl same ↦ subst P same of_a
  | inr later ↦ elim (cases b (c ∷ []) x later) [
    | inl same ↦ subst P same of_b
    | inr last ↦ elim (cases c [] x last) [ inl same ↦ subst P same of_c | inr none ↦ absurd (nowhere x none) ]
  ]
]

-- the only If is on expression 0, and there is no Switch
abbrev OnZero : Step → Type 0
OnZero (If c x y) = c ≡ 0
OnZero (Switch e cs) = ⊥
OnZero step = Unit {0}

on_zero : (s : Step) (b : Body) → At parting (Then s b) → OnZero s
on_zero s b p = three OnZero (If 0 (Then (Leaf (Return None)) End) End) (Leaf (Return None)) (Leaf (Emit 4 5)) s
    (occurs_within parting s b p) refl tt tt

abbrev IsZero : ℕ → Type 0
IsZero e = e ≡ 0

same_branch : {c : ℕ} {x y b : Body} (p : At parting (Then (If c x y) b)) → (IsZero c → ⊥) →
    (takes_branch true).accepts p ≡ (takes_branch false).accepts p
same_branch {c} {x} {y} {b} p steady = absurd (steady (on_zero (If c x y) b p))

no_switch : (e : ℕ) (cs : Cases) (b : Body) → At parting (Then (Switch e cs) b) → ⊥
no_switch e cs b p = on_zero (Switch e cs) b p

they_are_alike : Alike (λ e. e ≡ 0) (takes_branch true) (takes_branch false)
they_are_alike = record {
  branches = λ p pw pv steady. same_branch p steady;
  cases = λ {e} {cs} {b} p pw pv steady. absurd (no_switch e cs b p);
}

no_part : (l : Simple) (x : Body) → Child (Leaf l) x → ⊥
no_part l x child = elim child [ ]

never_after_return : (b : Body) (p : At parting (Then (Leaf (Return None)) b)) → Leaves (takes_branch true) (Leaf (Return None)) b p → ⊥
never_after_return b p (simply h) = absurd (cc)
never_after_return b p (through {x = x} {child = child} enters finishes last) = no_part (Return None) x child

never_past : (b : Body) (p : At parting (Then (If 0 (Then (Leaf (Return None)) End) End) b)) → Leaves (takes_branch true) _ b p → ⊥
never_past b p (simply h) = absurd (cc)
never_past b p (through (to_accept e) (on leaves finishes) last) = never_after_return End _ leaves
never_past b p (through (to_reject e) finishes last) = let reported : true ≡ false = e in absurd (cc)

never_passes : Passes (takes_branch true) _ emit_at_end → ⊥
never_passes (on passes leaves) = never_past _ _ leaves

pub walks_part : WalksPart
walks_part = (they_are_alike, on starts (through (to_reject refl) at_end refl), never_passes)

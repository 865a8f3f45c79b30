-- Chains of accesses.
use Rattle.std.proofs.Common.{◌≡◌, refl, sym, subst, ap, ◌∙◌, ℕ, ◌+◌, ◌<◌, ◌↔◌, Bool, true}
use Rattle.std.proofs.Common.{false, List, Option, Some, None, IsTrue, slice_get, arith}
use Rattle.std.specs.Prelude.{IsSomeAnd}
use Rattle.std.proofs.lemmas.Option.{same_Some}
use Rattle.shader_analysis_spec.specs.Program.{Expression, Function, Module, IsExpressionAt}
use Rattle.shader_ir.specs.declared.expression.Expression.TheVariants as form
use Rattle.shader_ir.specs.declared.proc.operands.Label.TheVariants.{Part}
use Rattle.shader_ir.specs.declared.proc.type_resolution.TypeResolution.{TypeResolution}
use Rattle.shader_resolve.specs.WellFormed.{AtEach, OperandsBelow}
use Rattle.shader_bounds.specs.Checked.{AccessNeedsCheck, ChainNeedsCheck, base_of, before, itself}

-- one more than the position, if any
abbrev pub height : Option ℕ → ℕ
height None = 0
height (Some position) = position + 1

-- the base of an expression is an earlier one
below_base : (position base : ℕ) (x : Expression) → OperandsBelow position x → base_of x ≡ Some base → base < position
below_base position base (form.Access b index) below is =
    let first : b < position = below 0 (b, Part) (omega arith) in
    let same : b ≡ base = same_Some b base is in omega (arith, first, same)
below_base position base (form.AccessIndex b index) below is =
    let first : b < position = below 0 (b, Part) (omega arith) in
    let same : b ≡ base = same_Some b base is in omega (arith, first, same)
below_base position base x below is = absurd (cc)

pub base_lower : (expressions : List Expression) (position : ℕ) (x : Expression) → AtEach OperandsBelow expressions →
    slice_get expressions position ≡ Some x → height (base_of x) < height (Some position)
base_lower expressions position x earlier is_there = at (base_of x) refl
  where
    at : (base : Option ℕ) → base_of x ≡ base → height base < height (Some position)
    at None is = omega arith
    at (Some base) is = let lower : base < position = below_base position base x (earlier position x is_there) is in omega (arith, lower)

-- the chain that ends at an expression, and the rest of it
pub record Leads (m : Module) (f : Function) (P : ℕ → TypeResolution → Type 0) (chain : ℕ) (next : Option ℕ) : Type 0 where
  pub on : IsSomeAnd next (ChainNeedsCheck m f P) → ChainNeedsCheck m f P chain
  pub back : ChainNeedsCheck m f P chain → IsSomeAnd next (ChainNeedsCheck m f P)

module _ (m : Module) (f : Function) (P : ℕ → TypeResolution → Type 0) (chain : ℕ) where
  pub leads_itself : Leads m f P chain (Some chain)
  leads_itself = record { on = λ h. h; back = λ h. h }

  -- the rest of the chain after an access that needs no check
  past : (position : ℕ) (x : Expression) → IsExpressionAt f position x → (AccessNeedsCheck m f P x → ⊥) → ChainNeedsCheck m f P position →
      IsSomeAnd (base_of x) (ChainNeedsCheck m f P)
  past position x is_there none (itself {x = y} is_there' check) =
      let same : y ≡ x = same_Some y x (sym is_there' ∙ is_there) in
      let Q : Expression → Type 0 = λ v. AccessNeedsCheck m f P v in absurd (none (subst Q same check))
  past position x is_there none (before {base = base} {x = y} is_there' is rest) =
      let same : y ≡ x = same_Some y x (sym is_there' ∙ is_there) in
      let Q : Option ℕ → Type 0 = λ v. IsSomeAnd v (ChainNeedsCheck m f P) in
      let found : Some base ≡ base_of x = sym is ∙ ap base_of same in
      subst Q found rest

  onto : (position : ℕ) (x : Expression) → IsExpressionAt f position x → (base : Option ℕ) → base_of x ≡ base →
      IsSomeAnd base (ChainNeedsCheck m f P) →
      ChainNeedsCheck m f P position
  onto position x is_there None is h = absurd h
  onto position x is_there (Some base) is h = before is_there is h

  pub leads_to_base : (next : Option ℕ) (position : ℕ) (x : Expression) → Leads m f P chain next → next ≡ Some position →
      slice_get f.expressions position ≡ Some x →
      (b : Bool) → (IsTrue b ↔ AccessNeedsCheck m f P x) → b ≡ false → Leads m f P chain (base_of x)
  leads_to_base next position x leads is is_there b decides not_so =
      let none : AccessNeedsCheck m f P x → ⊥ = λ check. let never : b ≡ true = decides.1 check in absurd (cc) in
      let Q : Option ℕ → Type 0 = λ v. Leads m f P chain v in
      let at : Leads m f P chain (Some position) = subst Q is leads in
      record { on = λ h. at.on (onto position x is_there (base_of x) refl h); back = λ h. past position x is_there none (at.back h) }

  never_is : {X : Type 0} → (X → ⊥) → IsTrue false ↔ X
  never_is none = (λ h. let never : false ≡ true = h in absurd (cc), λ x. absurd (none x))

  -- the end of the chain
  pub leads_nowhere : (next : Option ℕ) → Leads m f P chain next → next ≡ None → IsTrue false ↔ ChainNeedsCheck m f P chain
  leads_nowhere next leads is = never_is (λ h. let Q : Option ℕ → Type 0 = λ v. IsSomeAnd v (ChainNeedsCheck m f P) in let never : ⊥ =
      subst Q is (leads.back h) in never)

  pub leads_outside : (next : Option ℕ) (position : ℕ) → Leads m f P chain next → next ≡ Some position →
      slice_get f.expressions position ≡ None →
      IsTrue false ↔ ChainNeedsCheck m f P chain
  leads_outside next position leads is outside = never_is (λ h.
      let Q : Option ℕ → Type 0 = λ v. IsSomeAnd v (ChainNeedsCheck m f P) in
      let there : ChainNeedsCheck m f P position = subst Q is (leads.back h) in is_there there)
    where
      is_there : ChainNeedsCheck m f P position → ⊥
      is_there (itself {x = y} at check) = let never : None ≡ Some y = sym outside ∙ at in absurd (cc)
      is_there (before {x = y} at is' rest) = let never : None ≡ Some y = sym outside ∙ at in absurd (cc)

  pub leads_checked : (next : Option ℕ) (position : ℕ) (x : Expression) → Leads m f P chain next → next ≡ Some position →
      slice_get f.expressions position ≡ Some x →
      AccessNeedsCheck m f P x → IsTrue true ↔ ChainNeedsCheck m f P chain
  leads_checked next position x leads is is_there check =
      let Q : Option ℕ → Type 0 = λ v. IsSomeAnd v (ChainNeedsCheck m f P) in
      let at : IsSomeAnd (Some position) (ChainNeedsCheck m f P) = itself is_there check in (λ h. leads.on (subst Q (sym is) at), λ h. refl)

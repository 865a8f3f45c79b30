-- Acceptance by an argument of a list.
use Rattle.std.proofs.Common.{◌≡◌, ◌∙◌, ap, sym, refl, true, false, ◌||◌, List, Some}
use Rattle.std.specs.Option.{is_some}
use Rattle.std.proofs.lemmas.Bool.{and_from, and_parts, both_ways, eq-eqb, eqb-true, false_from_ne_true}
use base.Stored.{Gv, gnil, gnum, gcons}
use Rattle.shader_ir.specs.declared.types.«Type».{«Type»}
use Rattle.shader_ir.specs.declared.types.TypeInner.{TypeInner}
use Rattle.shader_ir.specs.declared.proc.type_resolution.TypeResolution.{TypeResolution}
use Rattle.shader_ir.specs.Conversion.{conversion}
use Rattle.shader_ir.specs.Key.{canonical, inner_of}
use Rattle.shader_ir.specs.TypeTree.{tree_of}
use Rattle.shader_overloads.specs.Remaining.{some_list_takes}
use Rattle.shader_overloads.specs.SameType.{inner_coded, same_code, same_type}

same_code-self : (g : Gv) → same_code g g ≡ true
same_code-self gnil = refl
same_code-self (gnum n) = eq-eqb n n refl
same_code-self (gcons a b) = and_from _ _ (same_code-self a) (same_code-self b)

same_code-reported : (g h : Gv) → same_code g h ≡ true → g ≡ h
same_code-reported gnil gnil e = refl
same_code-reported gnil (gnum n) e = absurd (both_ways false refl e)
same_code-reported gnil (gcons a b) e = absurd (both_ways false refl e)
same_code-reported (gnum m) gnil e = absurd (both_ways false refl e)
same_code-reported (gnum m) (gnum n) e = ap gnum (eqb-true m n e)
same_code-reported (gnum m) (gcons a b) e = absurd (both_ways false refl e)
same_code-reported (gcons a b) gnil e = absurd (both_ways false refl e)
same_code-reported (gcons a b) (gnum n) e = absurd (both_ways false refl e)
same_code-reported (gcons a b) (gcons c d) e =
    let parts = and_parts (same_code a c) (same_code b d) e in
    ap (λ x. gcons x b) (same_code-reported a c parts.0) ∙ ap (gcons c) (same_code-reported b d parts.1)

pub same_type-from : (a b : TypeInner) → a ≡ b → same_type a b ≡ true
same_type-from a b e = ap (λ x. same_type a x) (sym e) ∙ same_code-self (inner_coded.code a)

pub same_type-reported : (a b : TypeInner) → same_type a b ≡ true → a ≡ b
same_type-reported a b e = inner_coded.inj a b (same_code-reported (inner_coded.code a) (inner_coded.code b) e)

-- an equivalent type is accepted
pub takes_same : (types : List «Type») (ty : TypeInner) (argument : TypeResolution) (goal : TypeInner) →
    inner_of types argument ≡ Some goal → canonical types ty ≡ canonical types goal →
    true ≡ some_list_takes types ty (inner_of types argument)
takes_same types ty argument goal e same =
    sym (ap (some_list_takes types ty) e ∙ ap (λ b. b || is_some (conversion (tree_of types ty) (tree_of types goal)))
    (same_type-from (canonical types ty) (canonical types goal) same))

-- another type is accepted if it converts
pub takes_converted : (types : List «Type») (ty : TypeInner) (argument : TypeResolution) (goal : TypeInner) →
    inner_of types argument ≡ Some goal → (canonical types ty ≡ canonical types goal → ⊥) →
    is_some (conversion (tree_of types ty) (tree_of types goal)) ≡ some_list_takes types ty (inner_of types argument)
takes_converted types ty argument goal e other =
    sym (ap (some_list_takes types ty) e
    ∙ ap (λ b. b || is_some (conversion (tree_of types ty) (tree_of types goal)))
    (false_from_ne_true _ (λ same. other (same_type-reported (canonical types ty) (canonical types goal) same))))

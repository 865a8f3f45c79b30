-- Facts by records and roots.
use Rattle.std.proofs.Common.{◌≡◌, refl, sym, ap, ◌∙◌, ℕ, zero, suc, List, [], ◌∷◌, ◌++◌, Option, length, map, arith, fold}
use Rattle.std.specs.Option.{option_or}
use Rattle.shader_info.specs.declared.info.ExpressionInfo.{ExpressionInfo}
use Rattle.shader_ir.specs.declared.proc.operands.Label.{Label}
use Rattle.shader_passes.specs.Facts.{Fact, first_origin, needs_at, origin_at, root_at}
use Rattle.shader_passes.specs.Records.{fact_of, facts_in, needs_in, origin_in, root_in}
use Rattle.shader_passes.specs.FirstOrigin.{origin_after}
use Rattle.shader_passes.specs.declared.facts.FirstOrigin.{FirstOrigin}
use Rattle.shader_passes.proofs.FlowLemmas.{first_assoc, first_none}

pub origin_found : (records : List ExpressionInfo) (roots : List (Option ℕ)) (e : ℕ) → length records ≡ length roots →
    origin_at (facts_in records roots) e ≡ origin_in records e
origin_found [] roots e long = refl
origin_found (r ∷ rs) [] e long = absurd (omega arith)
origin_found (r ∷ rs) (g ∷ gs) zero long = refl
origin_found (r ∷ rs) (g ∷ gs) (suc e) long = origin_found rs gs e (omega arith)

pub needs_found : (records : List ExpressionInfo) (roots : List (Option ℕ)) (e : ℕ) → length records ≡ length roots →
    needs_at (facts_in records roots) e ≡ needs_in records e
needs_found [] roots e long = refl
needs_found (r ∷ rs) [] e long = absurd (omega arith)
needs_found (r ∷ rs) (g ∷ gs) zero long = refl
needs_found (r ∷ rs) (g ∷ gs) (suc e) long = needs_found rs gs e (omega arith)

pub root_found : (records : List ExpressionInfo) (roots : List (Option ℕ)) (e : ℕ) → length records ≡ length roots →
    root_at (facts_in records roots) e ≡ root_in roots e
root_found [] [] e long = refl
root_found [] (g ∷ gs) e long = absurd (omega arith)
root_found (r ∷ rs) [] e long = absurd (omega arith)
root_found (r ∷ rs) (g ∷ gs) zero long = refl
root_found (r ∷ rs) (g ∷ gs) (suc e) long = root_found rs gs e (omega arith)

-- one more record and root
pub facts_grow : (records : List ExpressionInfo) (roots : List (Option ℕ)) (record' : ExpressionInfo) (root : Option ℕ) →
    length records ≡ length roots →
    facts_in (records ++ record' ∷ []) (roots ++ root ∷ []) ≡ facts_in records roots ++ fact_of record' root ∷ []
facts_grow [] [] x g long = refl
facts_grow [] (h ∷ gs) x g long = absurd (omega arith)
facts_grow (r ∷ rs) [] x g long = absurd (omega arith)
facts_grow (r ∷ rs) (h ∷ gs) x g long = ap (λ v. fact_of r h ∷ v) (facts_grow rs gs x g (omega arith))

-- the origins and the needs of all records are those of the facts
pub origins_are : (records : List ExpressionInfo) (roots : List (Option ℕ)) → length records ≡ length roots →
    map (λ (r : ExpressionInfo). r.uniformity.non_uniform_result) records ≡ map (λ (fact : Fact). fact.origin) (facts_in records roots)
origins_are [] roots long = refl
origins_are (r ∷ rs) [] long = absurd (omega arith)
origins_are (r ∷ rs) (g ∷ gs) long = ap (λ v. r.uniformity.non_uniform_result ∷ v) (origins_are rs gs (omega arith))

pub needs_are : (records : List ExpressionInfo) (roots : List (Option ℕ)) → length records ≡ length roots →
    map (λ (r : ExpressionInfo). r.uniformity.requirements.0) records ≡ map (λ (fact : Fact). fact.requirements.0) (facts_in records roots)
needs_are [] roots long = refl
needs_are (r ∷ rs) [] long = absurd (omega arith)
needs_are (r ∷ rs) (g ∷ gs) long = ap (λ v. r.uniformity.requirements.0 ∷ v) (needs_are rs gs (omega arith))

pub first_found : (first : FirstOrigin) (operands : List (ℕ × Label)) →
    (fold origin_after first operands).origin ≡ option_or first.origin (first_origin first.facts.now operands)
first_found first [] = sym (first_none first.origin)
first_found first (o ∷ os) = first_found (origin_after first o) os ∙ first_assoc first.origin (origin_at first.facts.now o.0) _

pub ruleset finds_first = (first_found)

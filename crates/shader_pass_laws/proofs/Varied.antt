-- The computed origins, in the words of the definitions.
use Rattle.std.proofs.Common.{◌≡◌, refl, ap, ◌∙◌, ℕ, ◌<◌, IsTrue, List, Option, Some, None, map, slice_get, length, get_or, arith}
use Rattle.std.specs.Option.{option_and_then, option_map}
use Rattle.std.proofs.lemmas.Option.{slice_get-get_or, slice_get-map, slice_get_within}
use Rattle.shader_analysis_spec.specs.Origins.{DependsOn, itself, through}
use Rattle.shader_analysis_spec.specs.Program.{Function, Module, Expression, IsExpressionAt}
use Rattle.shader_analysis_spec.specs.Steps.{StepOrigin, own, callee}
use Rattle.shader_info.specs.declared.info.FunctionInfo.{FunctionInfo}
use Rattle.shader_passes.specs.Results.{computed_facts}
use Rattle.shader_passes.proofs.OriginLemmas.{origins_of_the_step}
use Rattle.shader_pass_laws.proofs.FlowWords.{varies}
use Rattle.shader_pass_laws.proofs.StepKills.{varied_to, of_varied}
use Rattle.shader_passes.specs.Facts.{Fact}
use Rattle.shader_passes.specs.Facts.{origin_at}
use Rattle.shader_passes.specs.InfoOf.{PointsBackwards, infos_of}
use Rattle.shader_passes.proofs.StepOrigins.{nu, origins_long}

module _ (m : Module) (infos : List FunctionInfo) (f : Function) (below : PointsBackwards f) where
  abbrev facts : List Fact
  facts = computed_facts m infos f

  abbrev O : ℕ → ℕ → Type 0
  O e h = StepOrigin m (infos_of infos) f e h

  leads_within : (e h : ℕ) (x : Expression) → DependsOn f e h → IsExpressionAt f h x → e < length f.expressions
  leads_within e _ x itself is_there = slice_get_within f.expressions e x is_there
  leads_within e h x (through {x = y} first operand leads) is_there = slice_get_within f.expressions e y first

  within : (e h : ℕ) → O e h → e < length f.expressions
  within e h (own leads is) = leads_within e h is.expression leads is.is_there
  within e h (callee {k = k} leads is_there stored is) = leads_within e k _ leads is_there

  pub origin_is : (e h : ℕ) → origin_at facts e ≡ Some h → O e h
  origin_is e h reported = at (slice_get facts e) refl reported where
    at : (o : Option Fact) → slice_get facts e ≡ o → option_and_then (λ fact. fact.origin) o ≡ Some h → O e h
    at None is t = absurd (cc)
    at (Some fact) is t =
        origins_of_the_step m infos f below e (Some h) (slice_get-map nu facts e
        ∙ (ap (option_map nu) is ∙ ap (λ (v : Option ℕ). Some v) t))

  pub to_origin : (e : ℕ) → IsTrue (varies facts e) → (h : ℕ) × O e h
  to_origin e t = let r = varied_to facts e t in (r.0, origins_of_the_step m infos f below e (Some r.0) r.1)

  pub of_origin : (e : ℕ) → (h : ℕ) × O e h → IsTrue (varies facts e)
  of_origin e (h, step) = at (get_or (map nu facts) e None) refl where
    lt : e < length (map nu facts)
    lt = omega (arith, within e h step, origins_long m infos f facts refl)

    at : (o : Option ℕ) → get_or (map nu facts) e None ≡ o → IsTrue (varies facts e)
    at (Some k) is = of_varied facts e k (slice_get-get_or (map nu facts) e None lt ∙ ap (λ (v : Option ℕ). Some v) is)
    at None is =
        let picks = origins_of_the_step m infos f below e None (slice_get-get_or (map nu facts) e None lt
        ∙ ap (λ (v : Option ℕ). Some v) is) in
        absurd (picks h step)

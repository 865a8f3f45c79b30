-- The results of the passes over one function meet its step equations.
use Rattle.std.proofs.Common.{◌≡◌, refl, ◌↔◌, sym, subst, ℕ, Bool, false, ◌||◌, List, Option}
use Rattle.std.proofs.Common.{Some, None, IsTrue, is_some, slice_get, length, unwrap_or}
use Rattle.std.specs.List.{list_any}
use Rattle.std.specs.Option.{option_and_then, option_map}
use Rattle.shader_analysis_spec.specs.Program.{statements}
use Rattle.shader_analysis_spec.specs.Steps.{StepKill}
use Rattle.shader_analysis_spec.proofs.Flags.{found}
use Rattle.shader_passes.specs.Results.{computed_facts, computed_kill, computed_needs, own_uses, computed_result, own_counts, computed_uses}
use Rattle.shader_pass_laws.specs.OfTheStep.{ExpressionNeedsAreOfTheStep, KillsAreOfTheStep, NeedsAreOfTheStep}
use Rattle.shader_pass_laws.specs.OfTheStep.{PairsAreOfTheStep, ResultsAreOfTheStep, UsesAreOfTheStep}
use Rattle.shader_pass_laws.proofs.EndsLemmas.{block_kills}
use Rattle.shader_pass_laws.proofs.FlowWords.{calls_kill, is_kill, varies}
use Rattle.shader_pass_laws.proofs.StepKills.{step_kills}
use Rattle.shader_pass_laws.proofs.StepNeeds.{step_expression_needs, step_needs}
use Rattle.shader_pass_laws.proofs.StepUses.{ends_fit, ends_small, own_uses_are, own_uses_long, step_uses}
use Rattle.shader_passes.specs.Facts.{Fact}
use Rattle.shader_passes.specs.Ends.{is_killing}
use Rattle.shader_passes.specs.Facts.{origin_at}
use Rattle.shader_passes.specs.InfoOf.{infos_of}
use Rattle.shader_passes.proofs.StepPairs.{step_pairs}
use Rattle.shader_passes.proofs.StepResults.{step_result}

pub results_of_the_step : ResultsAreOfTheStep
results_of_the_step m infos f below = step_result m infos f (computed_facts m infos f) refl below (statements f.body)
    (computed_result m infos f) refl refl

pub expression_needs_of_the_step : ExpressionNeedsAreOfTheStep
expression_needs_of_the_step m infos f = step_expression_needs m infos f (computed_facts m infos f) refl

pub needs_of_the_step : NeedsAreOfTheStep
needs_of_the_step m infos f = step_needs m infos f (computed_facts m infos f) refl (statements f.body) (computed_needs m infos f) refl refl

pub pairs_of_the_step : PairsAreOfTheStep
pairs_of_the_step infos f pairs same image sampler = step_pairs infos f image sampler pairs (statements f.body) refl same

-- an expression varies if it has an origin
varies_is : (facts : List Fact) (e : ℕ) → is_some (origin_at facts e) ≡ varies facts e
varies_is facts e = at (slice_get facts e) where
  at : (o : Option Fact) → is_some (option_and_then (λ fact. fact.origin) o) ≡ unwrap_or (option_map (λ fact. is_some fact.origin) o) false
  at None = refl
  at (Some fact) = refl

pub kills_of_the_step : KillsAreOfTheStep
kills_of_the_step m infos f info same =
    let facts = computed_facts m infos f in
    let own : Bool = found (varies facts) (is_killing infos) is_kill false f.body in
    let by_call : Bool = list_any (calls_kill (is_killing infos)) (statements f.body) in
    let is : computed_kill m infos f ≡ (own || by_call) =
    block_kills (origin_at facts) (varies facts) (varies_is facts) (is_killing infos) f.body None in
    let P : Bool → Type 0 = λ v. IsTrue v ↔ StepKill (infos_of infos) f info in
    subst P (sym is) (step_kills infos f facts info same (statements f.body) own by_call refl refl refl)

pub uses_of_the_step : UsesAreOfTheStep
uses_of_the_step m infos f below within fit uses with_calls =
    let facts = computed_facts m infos f in
    let own = own_uses m infos f in
    let own_long = own_uses_long f facts (length m.global_variables) (own_counts m infos f) refl in
    let own_are = own_uses_are f facts (length m.global_variables) (own_counts m infos f) refl in
    let ends = computed_uses m infos f uses in (
      step_uses m infos f facts refl below within fit (statements f.body) refl own uses ends own_long own_are with_calls.long
          with_calls.each refl,
      ends_fit m infos f facts refl below within fit (statements f.body) refl own uses ends own_long own_are with_calls.long
          with_calls.each refl,
      ends_small m infos f facts refl below within fit (statements f.body) refl own uses ends own_long own_are with_calls.long
          with_calls.each refl,
    )

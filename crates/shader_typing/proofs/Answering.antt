-- What an exact record answers.
use Rattle.std.proofs.Common.{◌≡◌, ◌∙◌, sym, subst, ap, ℕ, ◌<◌, ◌↔◌, List, Contains, Some, None, Option, map, length, refl}
use Rattle.std.proofs.Common.{slice_get, slice_index, IsTrue, is_some}
use Rattle.std.specs.Int.{IsBitSet}
use Rattle.std.specs.Option.{option_map}
use Rattle.std.proofs.lemmas.List.{length-map}
use Rattle.std.proofs.lemmas.Option.{get_or_from_slice_get, same_Some, slice_get-map, slice_get_within}
use Rattle.shader_analysis.specs.Processed.{IsFunctionAt, IsInfoAt}
use Rattle.shader_analysis.specs.Recorded.{Recorded}
use Rattle.shader_typing.specs.ExactRecord.{IsExactRecord}
use Rattle.shader_typing.specs.InfoAnswers.{ExactRecordsAnswer, ExpressionAnswers, HasResultOrigin, InfoAnswers}
use Rattle.shader_analysis_spec.specs.Counts.{count_of}
use Rattle.shader_analysis_spec.specs.Exact.{IsExact}
use Rattle.shader_analysis_spec.specs.Infos.{InGlobal, IsWitness, Use, Writes, bit_of}
use Rattle.shader_analysis_spec.specs.Kills.{HasOrigin, Kills}
use Rattle.shader_analysis_spec.specs.Needs.{ExpressionNeeds, bit_of_need}
use Rattle.shader_analysis_spec.specs.Origins.{Origin, ResultOrigin}
use Rattle.shader_analysis_spec.specs.Pairs.{IsPair}
use Rattle.shader_analysis_spec.specs.Program.{Function, Module}
use Rattle.shader_analysis_spec.specs.Uses.{Uses}
use Rattle.shader_info.specs.declared.error.AnalysisLocation.{AnalysisLocation}
use Rattle.shader_info.specs.declared.error.AnalysisLocation.TheVariants as location
use Rattle.shader_info.specs.declared.flags.GlobalUse.{GlobalUse}
use Rattle.shader_info.specs.declared.info.ExpressionInfo.{ExpressionInfo}
use Rattle.shader_info.specs.declared.info.FunctionInfo.{FunctionInfo}
use Rattle.shader_passes.specs.InfoOf.{info_of}

-- the item of a mapped list
mapped : {X Y : Type 0} (f : X → Y) (xs : List X) (i : ℕ) (x : X) → slice_get xs i ≡ Some x → slice_get (map f xs) i ≡ Some (f x)
mapped f xs i x at = slice_get-map f xs i ∙ ap (option_map f) at

-- a number that is picked shows that there is one
picked : (P : Function → ℕ → Type 0) (o : Option ℕ) → IsWitness (λ h. (r : Function) × P r h) o →
    IsTrue (is_some o) ↔ ((r : Function) × (h : ℕ) × P r h)
picked P (Some h) picks = (λ _. (picks.0, h, picks.1), λ _. refl)
picked P None picks = (λ e. absurd (cc), λ v. absurd (picks v.1 (v.0, v.2)))

-- a number that is picked has the property
picked_has : (P : ℕ → Type 0) (o : Option ℕ) → IsWitness P o → (h : ℕ) → o ≡ Some h → P h
picked_has P (Some k) picks h is = subst P (same_Some k h is) picks
picked_has P None picks h is = absurd (cc)

pub function_count : (m : Module) (info : Recorded) → IsExactRecord m info → length info.functions ≡ length m.functions
function_count m info known = sym (length-map info.functions info_of) ∙ known.exact.each_function

pub entry_point_count : (m : Module) (info : Recorded) → IsExactRecord m info → length info.entry_points ≡ length m.entry_points
entry_point_count m info known = sym (length-map info.entry_points info_of) ∙ known.exact.each_entry_point

exact_of : (m : Module) (info : Recorded) (at : AnalysisLocation) (f : Function) (of : FunctionInfo) → IsExactRecord m info →
    IsFunctionAt m at f → IsInfoAt info at of → IsExact m f (info_of of)
exact_of m info (location.ConstExpression e) f of known is recorded = absurd is
exact_of m info (location.Function i) f of known is recorded =
    known.exact.exact_functions i f (info_of of) is (mapped info_of info.functions i of recorded)
exact_of m info (location.EntryPoint i) f of known is recorded =
    subst (λ v. IsExact m v (info_of of)) is.2
    (known.exact.exact_entry_points i is.0 (info_of of) is.1 (mapped info_of info.entry_points i of recorded))

-- a bit of a list of numbers that are mapped from a list
bits_at : {X : Type 0} (number : X → ℕ) (xs : List X) (i : ℕ) (x : X) → slice_get xs i ≡ Some x → slice_index (map number xs) i ≡ number x
bits_at number xs i x at = get_or_from_slice_get (map number xs) i (number x) 0 (mapped number xs i x at)

module _ (m : Module) (f : Function) (of : FunctionInfo) (exact : IsExact m f (info_of of)) where
  counted : (e : ℕ) (x : ExpressionInfo) → e < length f.expressions → slice_get of.expressions e ≡ Some x → x.ref_count ≡ count_of f e
  counted e x there at = same_Some _ _ (sym (mapped (λ (v : ExpressionInfo). v.ref_count) of.expressions e x at) ∙ exact.counts e there)

  origin_of : (e : ℕ) (x : ExpressionInfo) → slice_get of.expressions e ≡ Some x →
      IsWitness (λ h. (r : Function) × Origin m f e r h) x.uniformity.non_uniform_result
  origin_of e x at = exact.origins e x.uniformity.non_uniform_result
      (mapped (λ (v : ExpressionInfo). v.uniformity.non_uniform_result) of.expressions e x at)

  expression_answers : length of.expressions ≡ length f.expressions → (e : ℕ) (x : ExpressionInfo) →
      slice_get of.expressions e ≡ Some x → ExpressionAnswers m f e x
  expression_answers all e x at =
      let there : e < length f.expressions = subst (λ n. e < n) all (slice_get_within of.expressions e x at) in
      record {
        derived = exact.types.derived e x.ty (mapped (λ (v : ExpressionInfo). v.ty) of.expressions e x at);
        count = counted e x there at;
        varies = picked (Origin m f e) x.uniformity.non_uniform_result (origin_of e x at);
        source = picked_has (λ h. (r : Function) × Origin m f e r h) x.uniformity.non_uniform_result (origin_of e x at);
        needs = λ n. subst (λ b. IsBitSet b (bit_of_need n) ↔ ExpressionNeeds m n f e)
            (bits_at (λ (v : ExpressionInfo). v.uniformity.requirements.0) of.expressions e x at) (exact.expression_needs n e there);
      }

  uses_at : (g : ℕ) (used : GlobalUse) (u : Use) → slice_get of.global_uses g ≡ Some used → IsBitSet used.0 (bit_of u) ↔ Uses m f g u
  uses_at g used u at = subst (λ n. IsBitSet n (bit_of u) ↔ Uses m f g u) (bits_at (λ (v : GlobalUse). v.0) of.global_uses g used at)
      (exact.uses g u)

pub info_answers : (m : Module) (info : Recorded) (at : AnalysisLocation) (f : Function) (of : FunctionInfo) → IsExactRecord m info →
    IsFunctionAt m at f → IsInfoAt info at of → InfoAnswers m f of
info_answers m info at f of known is recorded =
    let exact = exact_of m info at f of known is recorded in
    let fits = known.fit at f of is recorded in
    record {
      globals = fits.global_uses;
      expressions = fits.expressions;
      each_expression = expression_answers m f of exact fits.expressions;
      uses = uses_at m f of exact;
      pairs = (known.pairs at f of is recorded).of_globals;
      pairs_with_arguments = (known.pairs at f of is recorded).with_arguments;
      varies = picked (ResultOrigin m f) of.uniformity.non_uniform_result exact.result;
      source = picked_has (λ h. (r : Function) × ResultOrigin m f r h) of.uniformity.non_uniform_result exact.result;
      needs = exact.needs;
      kills = exact.kills;
      unrestricted = known.unrestricted at of recorded;
    }

pub exact_records_answer : ExactRecordsAnswer
exact_records_answer m info known = record {
  functions = function_count m info known;
  entry_points = entry_point_count m info known;
  each = λ at f of is recorded. info_answers m info at f of known is recorded;
}

-- the answers of a function's info, each by itself
module _ (m : Module) (info : Recorded) (i : ℕ) (f : Function) (of : FunctionInfo) (known : IsExactRecord m info)
    (at : slice_get m.functions i ≡ Some f) (recorded : slice_get info.functions i ≡ Some of) where
  answers : InfoAnswers m f of
  answers = info_answers m info (location.Function i) f of known at recorded

  pub global_count : length of.global_uses ≡ length m.global_variables
  global_count = answers.globals

  pub expression_count : length of.expressions ≡ length f.expressions
  expression_count = answers.expressions

  pub result_varies : IsTrue (is_some of.uniformity.non_uniform_result) ↔ HasResultOrigin m f
  result_varies = answers.varies

  pub kills : IsTrue of.may_kill ↔ Kills m f
  kills = answers.kills

  pub writes : (g : ℕ) (used : GlobalUse) → slice_get of.global_uses g ≡ Some used → IsBitSet used.0 1 ↔ Uses m f g Writes
  writes g used is = answers.uses g used Writes is

  pub samples : (image sampler : ℕ) →
      Contains of.sampling_set.keys (record { image = image; sampler = sampler }) ↔ IsPair m f (InGlobal image) (InGlobal sampler)
  samples = answers.pairs

  pub expression_varies : (e : ℕ) (x : ExpressionInfo) → slice_get of.expressions e ≡ Some x →
      IsTrue (is_some x.uniformity.non_uniform_result) ↔ HasOrigin m f e
  expression_varies e x is = (answers.each_expression e x is).varies

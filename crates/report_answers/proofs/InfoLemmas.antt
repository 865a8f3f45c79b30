-- Infos that are exact for one function agree, except for the sources that they name.
use Rattle.std.proofs.Common.{◌≡◌, ◌∙◌, ap, subst, sym, refl, ℕ, zero, suc, ◌+◌, ◌<◌, ◌↔◌, Bool, IsTrue, arith, inl, inr}
use Rattle.std.proofs.Common.{List, [], ◌∷◌, Option, Some, None, length, map, slice_get, slice_index}
use Rattle.std.specs.Int.{IsBitSet}
use Rattle.std.specs.Option.{option_map}
use Rattle.std.proofs.lemmas.Bool.Decides.{same_from_decides}
use Rattle.std.proofs.lemmas.List.{length-map}
use Rattle.std.proofs.lemmas.Option.{get_or_from_slice_get, same_Some, slice_get-map, slice_get_cases, slice_get_within}
use Rattle.shader_analysis.specs.Fitting.{AllUnrestricted, IsUnrestricted}
use Rattle.shader_analysis.specs.Recorded.{Recorded}
use Rattle.shader_analysis.specs.Recording.{RecordsAllPairs, RecordsPairs}
use Rattle.shader_analysis_spec.proofs.BitsLemmas.{numbers_are_sets}
use Rattle.shader_analysis_spec.proofs.TypeLemmas.{types_are_unique}
use Rattle.shader_analysis_spec.specs.Counts.{count_of}
use Rattle.shader_analysis_spec.specs.Derivable.{AreTypes, function_context}
use Rattle.shader_analysis_spec.specs.Exact.{IsExact, IsExactModule}
use Rattle.shader_analysis_spec.specs.Infos.{IsWitness, Use, Reads, Writes, Queries, Atomics, bit_of}
use Rattle.shader_analysis_spec.specs.Needs.{Need, WorkGroupBarrier, Derivative, ImplicitLevel, CooperativeOperation, bit_of_need}
use Rattle.shader_analysis_spec.specs.Needs.{ExpressionNeeds}
use Rattle.shader_analysis_spec.specs.Origins.{Origin, ResultOrigin}
use Rattle.shader_analysis_spec.specs.Program.{Expression, Function, Module}
use Rattle.shader_analysis_spec.specs.Uses.{Uses}
use Rattle.shader_info.specs.declared.error.AnalysisLocation.TheVariants as location
use Rattle.shader_info.specs.declared.flags.GlobalUse.{GlobalUse}
use Rattle.shader_info.specs.declared.info.ExpressionInfo.{ExpressionInfo}
use Rattle.shader_info.specs.declared.info.FunctionInfo.{FunctionInfo}
use Rattle.shader_info.specs.declared.info.Uniformity.{Uniformity}
use Rattle.shader_ir.specs.declared.function.EntryPoint.{EntryPoint}
use Rattle.shader_ir.specs.declared.proc.type_resolution.TypeResolution.{TypeResolution}
use Rattle.shader_passes.specs.InfoOf.{info_of, infos_of}
use Rattle.shader_resolve.specs.Context.{Context, context_of}
use Rattle.report_answers.specs.Laws.{AgreeButForSources, AllAgree, RecordsAgree, blank, blank_expression, blank_uniformity}

-- ---- lists

-- lists of which the items at each position give the same
mapped_same : {X Y : Type 0} (f : X → Y) (xs ys : List X) → length xs ≡ length ys →
    ((i : ℕ) (x y : X) → slice_get xs i ≡ Some x → slice_get ys i ≡ Some y → f x ≡ f y) → map f xs ≡ map f ys
mapped_same f [] [] long same = refl
mapped_same f [] (y ∷ ys) long same = absurd (omega (arith, long))
mapped_same f (x ∷ xs) [] long same = absurd (omega (arith, long))
mapped_same {X} {Y} f (x ∷ xs) (y ∷ ys) long same =
    let first : f x ≡ f y = same zero x y refl refl in
    let rest : map f xs ≡ map f ys = mapped_same f xs ys (omega (arith, long)) (λ i a b. same (suc i) a b) in
    ap (λ (v : Y). v ∷ map f xs) first ∙ ap (λ (v : List Y). f y ∷ v) rest

same_items : {X : Type 0} (xs ys : List X) → length xs ≡ length ys →
    ((i : ℕ) (x y : X) → slice_get xs i ≡ Some x → slice_get ys i ≡ Some y → x ≡ y) → xs ≡ ys
same_items [] [] long same = refl
same_items [] (y ∷ ys) long same = absurd (omega (arith, long))
same_items (x ∷ xs) [] long same = absurd (omega (arith, long))
same_items {X} (x ∷ xs) (y ∷ ys) long same =
    let first : x ≡ y = same zero x y refl refl in
    let rest : xs ≡ ys = same_items xs ys (omega (arith, long)) (λ i a b. same (suc i) a b) in
    ap (λ (v : X). v ∷ xs) first ∙ ap (λ (v : List X). y ∷ v) rest

-- what a list gives for an item of another one
at_map : {X Y : Type 0} (f : X → Y) (xs : List X) (i : ℕ) (x : X) → slice_get xs i ≡ Some x → slice_get (map f xs) i ≡ Some (f x)
at_map f xs i x at = slice_get-map f xs i ∙ ap (option_map f) at

number_at : {X : Type 0} (f : X → ℕ) (xs : List X) (i : ℕ) (x : X) → slice_get xs i ≡ Some x → slice_index (map f xs) i ≡ f x
number_at f xs i x at = get_or_from_slice_get (map f xs) i (f x) 0 (at_map f xs i x at)

-- ---- bits

-- two propositions with the same meaning
both : {P Q R : Type 0} → P ↔ R → Q ↔ R → P ↔ Q
both p q = (λ h. q.1 (p.0 h), λ h. p.1 (q.0 h))

use_below : (a b k : ℕ) → k < 4 → ((u : Use) → IsBitSet a (bit_of u) ↔ IsBitSet b (bit_of u)) → IsBitSet a k ↔ IsBitSet b k
use_below a b zero lt same = same Reads
use_below a b (suc zero) lt same = same Writes
use_below a b (suc (suc zero)) lt same = same Queries
use_below a b (suc (suc (suc zero))) lt same = same Atomics
use_below a b (suc (suc (suc (suc k)))) lt same = absurd (omega (arith, lt))

need_below : (a b k : ℕ) → k < 4 → ((n : Need) → IsBitSet a (bit_of_need n) ↔ IsBitSet b (bit_of_need n)) → IsBitSet a k ↔ IsBitSet b k
need_below a b zero lt same = same WorkGroupBarrier
need_below a b (suc zero) lt same = same Derivative
need_below a b (suc (suc zero)) lt same = same ImplicitLevel
need_below a b (suc (suc (suc zero))) lt same = same CooperativeOperation
need_below a b (suc (suc (suc (suc k)))) lt same = absurd (omega (arith, lt))

needs_same : (a b : ℕ) → a < 16 → b < 16 → ((n : Need) → IsBitSet a (bit_of_need n) ↔ IsBitSet b (bit_of_need n)) → a ≡ b
needs_same a b small few same = numbers_are_sets.1 4 a b small few (λ k lt. need_below a b k lt same)

use_same : (a b : GlobalUse) → a.0 < 16 → b.0 < 16 → ((u : Use) → IsBitSet a.0 (bit_of u) ↔ IsBitSet b.0 (bit_of u)) → a ≡ b
use_same a b small few same =
    ap (λ (n : ℕ). record { 0 = n }) (numbers_are_sets.1 4 a.0 b.0 small few (λ k lt. use_below a.0 b.0 k lt same))

-- ---- sources

source_same : (P : ℕ → Type 0) (one other : Option ℕ) → IsWitness P one → IsWitness P other → blank one ≡ blank other
source_same P (Some h) (Some k) is is' = refl
source_same P (Some h) None is none = absurd (none h is)
source_same P None (Some k) none is = absurd (none k is)
source_same P None None is is' = refl

uniformity_same : (one other : Uniformity) → blank one.non_uniform_result ≡ blank other.non_uniform_result →
    one.requirements.0 ≡ other.requirements.0 → blank_uniformity one ≡ blank_uniformity other
uniformity_same one other sources needs =
    ap (λ (v : Option ℕ). record one { non_uniform_result = v }) sources
    ∙ ap (λ (n : ℕ). record (blank_uniformity other) { requirements = record { 0 = n } }) needs

-- ---- the info of a function

module _ (m : Module) (f : Function) (one other : FunctionInfo) (exact : IsExact m f (info_of one))
    (exact' : IsExact m f (info_of other)) where
  uses_same : one.global_uses ≡ other.global_uses
  uses_same =
      let bits = λ (u : GlobalUse). u.0 in
      let long = sym (length-map one.global_uses bits) ∙ exact.tables.global_uses
      ∙ sym (sym (length-map other.global_uses bits) ∙ exact'.tables.global_uses) in
      same_items one.global_uses other.global_uses long (λ g x y at at'.
      let is = number_at bits one.global_uses g x at in
      let is' = number_at bits other.global_uses g y at' in
      use_same x y (subst (λ n. n < 16) is (exact.tables.few_uses g)) (subst (λ n. n < 16) is' (exact'.tables.few_uses g))
      (λ u. both (subst (λ n. IsBitSet n (bit_of u) ↔ Uses m f g u) is (exact.uses g u))
      (subst (λ n. IsBitSet n (bit_of u) ↔ Uses m f g u) is' (exact'.uses g u))))

  result_same : blank_uniformity one.uniformity ≡ blank_uniformity other.uniformity
  result_same = uniformity_same one.uniformity other.uniformity
      (source_same (λ h. (r : Function) × ResultOrigin m f r h) one.uniformity.non_uniform_result
      other.uniformity.non_uniform_result exact.result exact'.result)
      (needs_same one.uniformity.requirements.0 other.uniformity.requirements.0 exact.tables.few_needs exact'.tables.few_needs
      (λ n. both (exact.needs n) (exact'.needs n)))

  -- the infos of one expression
  module _ (e : ℕ) (x y : ExpressionInfo) (at : slice_get one.expressions e ≡ Some x) (at' : slice_get other.expressions e ≡ Some y) where
    within : e < length f.expressions
    within = subst (λ n. e < n) (sym (length-map one.expressions (λ i. i.ref_count)) ∙ exact.tables.counts)
        (slice_get_within one.expressions e x at)

    type_same : x.ty ≡ y.ty
    type_same =
        let derives = exact.types.derived e x.ty (at_map (λ i. i.ty) one.expressions e x at) in
        let derives' = exact'.types.derived e y.ty (at_map (λ i. i.ty) other.expressions e y at') in
        (types_are_unique (function_context m f) f.expressions e x.ty derives).0 y.ty derives'

    count_same : x.ref_count ≡ y.ref_count
    count_same = same_Some x.ref_count y.ref_count (sym (at_map (λ i. i.ref_count) one.expressions e x at) ∙ exact.counts e within
        ∙ sym (exact'.counts e within) ∙ at_map (λ i. i.ref_count) other.expressions e y at')

    flow_same : blank_uniformity x.uniformity ≡ blank_uniformity y.uniformity
    flow_same =
        let source = λ (i : ExpressionInfo). i.uniformity.non_uniform_result in
        let needs = λ (i : ExpressionInfo). i.uniformity.requirements.0 in
        let is = number_at needs one.expressions e x at in
        let is' = number_at needs other.expressions e y at' in
        uniformity_same x.uniformity y.uniformity
        (source_same (λ h. (r : Function) × Origin m f e r h) (source x) (source y)
        (exact.origins e (source x) (at_map source one.expressions e x at))
        (exact'.origins e (source y) (at_map source other.expressions e y at')))
        (needs_same (needs x) (needs y) (subst (λ n. n < 16) is (exact.tables.few_expression_needs e))
        (subst (λ n. n < 16) is' (exact'.tables.few_expression_needs e))
        (λ n. both (subst (λ v. IsBitSet v (bit_of_need n) ↔ ExpressionNeeds m n f e) is (exact.expression_needs n e within))
        (subst (λ v. IsBitSet v (bit_of_need n) ↔ ExpressionNeeds m n f e) is' (exact'.expression_needs n e within))))

    expression_same : blank_expression x ≡ blank_expression y
    expression_same =
        ap (λ (v : Uniformity). record x { uniformity = v }) flow_same
        ∙ ap (λ (v : ℕ). record x { uniformity = blank_uniformity y.uniformity; ref_count = v }) count_same
        ∙ ap (λ (v : TypeResolution). record (blank_expression y) { ty = v }) type_same

  expressions_same : map blank_expression one.expressions ≡ map blank_expression other.expressions
  expressions_same =
      let count = λ (i : ExpressionInfo). i.ref_count in
      let long = sym (length-map one.expressions count) ∙ exact.tables.counts
      ∙ sym (sym (length-map other.expressions count) ∙ exact'.tables.counts) in
      mapped_same blank_expression one.expressions other.expressions long (λ e x y at at'. expression_same e x y at at')

  infos_agree : RecordsPairs m f one → RecordsPairs m f other → IsUnrestricted one → IsUnrestricted other →
      AgreeButForSources one other
  infos_agree pairs pairs' free free' = record {
    stages = ap (λ (n : ℕ). record { 0 = n }) (free.stages ∙ sym free'.stages);
    uniformity = result_same;
    may_kill = same_from_decides one.may_kill other.may_kill exact.kills exact'.kills;
    pairs = λ image sampler. both (pairs.of_globals image sampler) (pairs'.of_globals image sampler);
    global_uses = uses_same;
    expressions = expressions_same;
    sampling = λ image sampler. both (pairs.with_arguments image sampler) (pairs'.with_arguments image sampler);
    one_source = free.one_source ∙ sym free'.one_source;
  }

-- ---- the infos of a module

all_agree : (xs ys : List FunctionInfo) → length xs ≡ length ys →
    ((i : ℕ) (x y : FunctionInfo) → slice_get xs i ≡ Some x → slice_get ys i ≡ Some y → AgreeButForSources x y) → AllAgree xs ys
all_agree [] [] long each = tt
all_agree [] (y ∷ ys) long each = absurd (omega (arith, long))
all_agree (x ∷ xs) [] long each = absurd (omega (arith, long))
all_agree (x ∷ xs) (y ∷ ys) long each =
    (each zero x y refl refl, all_agree xs ys (omega (arith, long)) (λ i a b. each (suc i) a b))

-- the item at a position of a list that is long enough
item_at : {X : Type 0} (xs : List X) (i : ℕ) → i < length xs → (x : X) × (slice_get xs i ≡ Some x)
item_at xs i lt = elim ((slice_get_cases xs i).1) [ inl found ↦ (found.0, found.2) | inr past ↦ absurd (omega (arith, past.0, lt)) ]

abbrev IsExactly : Module → Recorded → Type 0
IsExactly m info = IsExactModule m info.global_expressions (infos_of info.functions) (infos_of info.entry_points)

module _ (m : Module) (one other : Recorded) (exact : IsExactly m one) (exact' : IsExactly m other)
    (pairs : RecordsAllPairs m one) (pairs' : RecordsAllPairs m other) (free : AllUnrestricted one) (free' : AllUnrestricted other) where
  functions_agree : AllAgree one.functions other.functions
  functions_agree =
      let first = sym (length-map one.functions info_of) ∙ exact.each_function in
      let long = first ∙ sym (sym (length-map other.functions info_of) ∙ exact'.each_function) in
      all_agree one.functions other.functions long (λ i x y at at'.
      let lt = subst (λ n. i < n) first (slice_get_within one.functions i x at) in
      let f = item_at m.functions i lt in
      let here = location.Function i in
      infos_agree m f.0 x y (exact.exact_functions i f.0 (info_of x) f.1 (at_map info_of one.functions i x at))
      (exact'.exact_functions i f.0 (info_of y) f.1 (at_map info_of other.functions i y at'))
      (pairs here f.0 x f.1 at) (pairs' here f.0 y f.1 at') (free here x at) (free' here y at'))

  entry_points_agree : AllAgree one.entry_points other.entry_points
  entry_points_agree =
      let first = sym (length-map one.entry_points info_of) ∙ exact.each_entry_point in
      let long = first ∙ sym (sym (length-map other.entry_points info_of) ∙ exact'.each_entry_point) in
      all_agree one.entry_points other.entry_points long (λ i x y at at'.
      let lt = subst (λ n. i < n) first (slice_get_within one.entry_points i x at) in
      let point = item_at m.entry_points i lt in
      let f = point.0.function in
      let here = location.EntryPoint i in
      infos_agree m f x y (exact.exact_entry_points i point.0 (info_of x) point.1 (at_map info_of one.entry_points i x at))
      (exact'.exact_entry_points i point.0 (info_of y) point.1 (at_map info_of other.entry_points i y at'))
      (pairs here f x (point.0, point.1, refl) at) (pairs' here f y (point.0, point.1, refl) at') (free here x at) (free' here y at'))

  types_same : one.global_expressions ≡ other.global_expressions
  types_same = same_items one.global_expressions other.global_expressions (exact.types.complete ∙ sym exact'.types.complete)
      (λ e x y at at'. (types_are_unique (context_of m [] []) m.global_expressions e x (exact.types.derived e x at)).0 y
      (exact'.types.derived e y at'))

  pub records_agree : RecordsAgree one other
  records_agree = record { functions = functions_agree; entry_points = entry_points_agree; types = types_same }

-- What may be processed next, over the infos of the functions before it.
use Rattle.std.proofs.Common.{◌≡◌, refl, sym, ap, subst, ◌∙◌, ℕ, ◌<◌, List, [], ◌∷◌, ◌++◌, Some}
use Rattle.std.proofs.Common.{slice_get, length, take, arith, length-append}
use Rattle.std.proofs.Math.Seq.{take-length}
use Rattle.std.proofs.lemmas.Option.{same_Some, slice_get_within}
use Rattle.shader_analysis.proofs.PositionLemmas.{found_at}
use Rattle.shader_analysis.specs.Analyzable.{AreStored}
use Rattle.shader_analysis.specs.Processed.{CanProcess, IsFunctionAt, functions_before}
use Rattle.shader_analysis.specs.Recorded.{Recorded}
use Rattle.shader_analysis.specs.Growth.{EntryCanBeProcessed, InfosGrow, NextCanBeProcessed, NoneAreStored}
use Rattle.shader_analysis_spec.specs.Program.{Function, Module}
use Rattle.shader_expression_types.proofs.ListLemmas.{one_more}
use Rattle.shader_info.specs.Fit.{Fits}
use Rattle.shader_info.specs.declared.error.AnalysisLocation.{AnalysisLocation}
use Rattle.shader_info.specs.declared.error.AnalysisLocation.TheVariants as location
use Rattle.shader_info.specs.declared.info.FunctionInfo.{FunctionInfo}

pub all_of : {X : Type 0} (xs : List X) (n : ℕ) → n ≡ length xs → take n xs ≡ xs
all_of xs n is = ap (λ v. take v xs) is ∙ take-length xs

can_process : (m : Module) (recorded : Recorded) (at : AnalysisLocation) (f : Function) → IsFunctionAt m at f →
    functions_before m at ≡ length recorded.functions → AreStored m recorded.functions → CanProcess m recorded at
can_process m recorded at f is_f all infos = record {
  function = (f, is_f);
  before = omega (arith, all);
  stored = subst (AreStored m) (sym (all_of recorded.functions (functions_before m at) all)) infos;
}

pub next_can_be_processed : NextCanBeProcessed
next_can_be_processed m recorded i next there infos =
    let f = found_at m.functions i there in
    can_process m recorded (location.Function i) f.0 f.1 next infos

pub entry_can_be_processed : EntryCanBeProcessed
entry_can_be_processed m recorded i all there infos =
    let entry = found_at m.entry_points i there in
    can_process m recorded (location.EntryPoint i) (entry.0).function (entry.0, entry.1, refl) (sym all) infos

pub infos_grow : InfosGrow
infos_grow m infos f info before at fits = record {
  there = omega (arith, length-append infos (info ∷ []), slice_get_within m.functions (length infos) f at);
  fit = λ c r i is_r is_i. one_more (λ e x. (g : Function) → slice_get m.functions e ≡ Some g → Fits m g x) infos info
      (λ e y at_y g is_g. before.fit e g y is_g at_y)
      (λ g is_g. subst (λ v. Fits m v info) (same_Some _ _ (sym at ∙ is_g)) fits) c i is_i r is_r;
}

pub none_are_stored : NoneAreStored
none_are_stored m = record { there = omega arith; fit = λ c r info is_r is_info. absurd (cc) }

-- the same of the lists that `add_function` leaves, for an info that fits whatever function is there
pub next_is_stored : (m : Module) (recorded more : Recorded) (i : ℕ) (info : FunctionInfo) → i ≡ length recorded.functions →
    i < length m.functions → AreStored m recorded.functions →
    ((f : Function) → IsFunctionAt m (location.Function i) f → Fits m f info) →
    more ≡ record recorded { functions = recorded.functions ++ info ∷ [] } → AreStored m more.functions
next_is_stored m recorded more i info next there infos fits is =
    let f = found_at m.functions i there in
    subst (λ (v : Recorded). AreStored m v.functions) (sym is) (infos_grow m recorded.functions f.0 info infos
    (ap (slice_get m.functions) (sym next) ∙ f.1) (fits f.0 f.1))

-- The function at a location of a well-formed module can be analysed.
use Rattle.std.proofs.Common.{◌≡◌, sym, ap, subst, ◌∙◌, ℕ, List, Some, slice_get}
use Rattle.std.proofs.lemmas.Option.{same_Some}
use Rattle.shader_analysis_spec.proofs.EarlierLemmas.{point_backwards}
use Rattle.shader_analysis_spec.specs.Program.{Function, Module}
use Rattle.shader_info.specs.declared.error.AnalysisLocation.{AnalysisLocation}
use Rattle.shader_info.specs.declared.error.AnalysisLocation.TheVariants as site
use Rattle.shader_info.specs.declared.info.FunctionInfo.{FunctionInfo}
use Rattle.shader_ir.specs.declared.function.EntryPoint.{EntryPoint}
use Rattle.shader_resolve.proofs.ContextLemmas.{contexts_of_well_formed}
use Rattle.shader_resolve.specs.ContextLaws.{EntryPointFits, FunctionFits}
use Rattle.shader_resolve.specs.WellFormed.{FunctionInRange, IsWellFormed}
use Rattle.shader_passes.specs.InfoOf.{PointsBackwards}
use Rattle.shader_expression_types.proofs.ListLemmas.{at_position}
use Rattle.shader_analysis.specs.Analyzable.{AreStored, IsAnalyzable}
use Rattle.shader_analysis.specs.Processed.{IsFunctionAt, infos_before}
use Rattle.shader_analysis.specs.Recorded.{Recorded}

module _ (m : Module) where
  -- a property of each function, and of that of each entry point, holds of the function at a location
  at_site : (P : Function → Type 0) → ((i : ℕ) (f : Function) → slice_get m.functions i ≡ Some f → P f) →
      ((i : ℕ) (entry : EntryPoint) → slice_get m.entry_points i ≡ Some entry → P entry.function) →
      (at : AnalysisLocation) (f : Function) → IsFunctionAt m at f → P f
  at_site P of_function of_entry (site.ConstExpression e) f is = absurd is
  at_site P of_function of_entry (site.Function i) f is = of_function i f is
  at_site P of_function of_entry (site.EntryPoint i) f is = subst P is.2 (of_entry i is.0 is.1)

  pub analyzable : IsWellFormed m → (at : AnalysisLocation) (f : Function) → IsFunctionAt m at f → (infos : List FunctionInfo) →
      AreStored m infos → IsAnalyzable m infos f
  analyzable well at f is infos stored =
      let fit = contexts_of_well_formed m well in
      let earlier = point_backwards m well in
      let within = well.handles.functions in
      record {
        types = well.types;
        context = at_site (FunctionFits m) (λ i g is_g. at_position (FunctionFits m) m.functions i g fit.functions is_g)
            (λ i entry is_entry. at_position (EntryPointFits m) m.entry_points i entry fit.entry_points is_entry) at f is;
        operands = at_site PointsBackwards (λ i g is_g. earlier.expressions i g is_g)
            (λ i entry is_entry. earlier.entry_expressions i entry is_entry) at f is;
        handles = at_site (FunctionInRange m) (λ i g is_g. within.functions i g is_g)
            (λ i entry is_entry. at_position (λ (x : EntryPoint). FunctionInRange m x.function) m.entry_points i entry within.entry_points
            is_entry) at f is;
        filters = well.filters;
        stored = stored;
      }

  same_function : (at : AnalysisLocation) (f g : Function) → IsFunctionAt m at f → IsFunctionAt m at g → f ≡ g
  same_function (site.ConstExpression e) f g is other = absurd is
  same_function (site.Function i) f g is other = same_Some f g (sym is ∙ other)
  same_function (site.EntryPoint i) f g is other =
      sym is.2 ∙ (ap (λ (entry : EntryPoint). entry.function) (same_Some is.0 other.0 (sym is.1 ∙ other.1)) ∙ other.2)

  -- a property of the infos taken and the function returned holds of the infos before the location and the function at it
  pub reported_at : (P : List FunctionInfo → Function → Type 0) (recorded : Recorded) (at : AnalysisLocation) (infos : List FunctionInfo)
      (f : Function) →
      infos ≡ infos_before m recorded at → IsFunctionAt m at f → P infos f → (g : Function) → IsFunctionAt m at g →
      P (infos_before m recorded at) g
  reported_at P recorded at infos f same is_f reported g is_g =
      subst (λ x. P (infos_before m recorded at) x) (same_function at f g is_f is_g) (subst (λ v. P v f) same reported)

use Rattle.std.proofs.Common.{[], ap, arith, length, subst, sym, ◌∙◌}
use Rattle.shader_analysis_spec.specs.Derivable.{AreTypes}
use Rattle.shader_resolve.specs.Context.{context_of}
use Rattle.shader_passes.specs.Causes.{settings_of}
use Rattle.shader_analysis.specs.Analyzed.{FunctionsAnalyzed}
use Rattle.shader_analysis.specs.Recorded.{Recorded}
use Rattle.shader_analysis.proofs.valid.analyze.add_entry_points.Goals as goal

pub loop-index-preserved : goal.loop-index-preserved
loop-index-preserved c =
    let before = c.loop-index.invariant in
    let reported = c.in_ok-analyze_entry_point.ensures in
    let same = ap (λ (v : Recorded). v.functions) reported.rest in
    record {
      next = omega (arith, reported.one, before.next);
      rest = reported.rest ∙ ap (λ (v : Recorded). record v { entry_points = c.analyze_entry_point.new.info.entry_points }) before.rest;
      types = subst (λ v. AreTypes (context_of c.args.module.now [] []) c.args.module.now.global_expressions v)
          (sym (ap (λ (v : Recorded). v.global_expressions) reported.rest)) before.types;
      all = ap length same ∙ before.all;
      functions = subst (λ v. FunctionsAnalyzed c.args.module.now (settings_of c.args.flags c.args.capabilities) v) (sym same)
          before.functions;
      found = reported.found;
    }

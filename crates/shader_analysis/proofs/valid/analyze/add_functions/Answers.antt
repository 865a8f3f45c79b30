use Rattle.std.proofs.Common.{◌≡◌, ◌<◌, ◌++◌, ◌∷◌, [], List, ap, length, rules, subst, sym, ◌∙◌}
use Rattle.shader_analysis_spec.specs.Derivable.{AreTypes}
use Rattle.shader_analysis_spec.specs.Faults.{IsFirstFault}
use Rattle.shader_info.specs.declared.info.FunctionInfo.{FunctionInfo}
use Rattle.shader_resolve.specs.Context.{context_of}
use Rattle.shader_passes.specs.Causes.{IsNamed, settings_of}
use Rattle.shader_analysis.proofs.NextLemmas.{function_added, function_is_reached, function_refused}
use Rattle.shader_analysis.proofs.PositionLemmas.{passed_on}
use Rattle.shader_analysis.specs.Processed.{site_of}
use Rattle.shader_analysis.specs.Reached.{IsReached}
use Rattle.shader_analysis.specs.Recorded.{Recorded}
use Rattle.shader_analysis.proofs.valid.analyze.add_functions.Goals as goal

pub loop-flags-preserved : goal.loop-flags-preserved
loop-flags-preserved c =
    let before = c.loop-flags.invariant in
    let adds = c.in_ok-add_next.ensures.added in
    let more : length c.loop-flags.info.functions < length c.args.module.now.functions = search rules in
    let longer = c.loop-flags.info.functions ++ adds.info ∷ [] in
    let now : c.add_next.new.self.functions ≡ longer = ap (λ (v : Recorded). v.functions) adds.added in
    record {
      rest = adds.added ∙ (ap (λ (v : Recorded). record v { functions = longer }) before.rest
          ∙ ap (λ (v : List FunctionInfo). record c.args.info.now { functions = v }) (sym now));
      types = subst (λ v. AreTypes (context_of c.args.module.now [] []) c.args.module.now.global_expressions v)
          (sym (ap (λ (v : Recorded). v.global_expressions) adds.added)) before.types;
      found = function_added c.args.module.now (settings_of c.args.flags c.args.capabilities) c.requires.well_formed c.loop-flags.info
          before.types before.found more c.add_next.new.self adds;
    }

pub returns-in_err-add_next-clause-reached : goal.returns-in_err-add_next-clause-reached
returns-in_err-add_next-clause-reached c =
    let before = c.loop-flags.invariant in
    let more : length c.loop-flags.info.functions < length c.args.module.now.functions = search rules in
    passed_on _ c.from_residual.result c.from_residual.ensures.1
    (subst (λ v. IsReached c.args.module.now (settings_of c.args.flags c.args.capabilities) (site_of v))
    (sym c.in_err-add_next.ensures.place)
    (function_is_reached c.args.module.now (settings_of c.args.flags c.args.capabilities) c.requires.well_formed c.loop-flags.info
    before.types before.found more))

pub returns-in_err-add_next-clause-refused : goal.returns-in_err-add_next-clause-refused
returns-in_err-add_next-clause-refused c =
    let before = c.loop-flags.invariant in
    let more : length c.loop-flags.info.functions < length c.args.module.now.functions = search rules in
    passed_on _ c.from_residual.result c.from_residual.ensures.1
    (subst (λ v. IsNamed (IsFirstFault c.args.module.now (settings_of c.args.flags c.args.capabilities) (site_of v))
    c.in_err-add_next.field-0.0.cause)
    (sym c.in_err-add_next.ensures.place)
    (function_refused c.args.module.now (settings_of c.args.flags c.args.capabilities) c.requires.well_formed c.loop-flags.info
    before.types before.found more c.in_err-add_next.field-0.0.cause c.in_err-add_next.ensures.fault))

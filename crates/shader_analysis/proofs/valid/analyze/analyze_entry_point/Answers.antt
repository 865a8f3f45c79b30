use Rattle.std.proofs.Common.{ap, subst, sym}
use Rattle.std.proofs.lemmas.Result.{IfErr-weaker, on_ok_weaker}
use Rattle.shader_analysis_spec.specs.Faults.{IsFirstFault}
use Rattle.shader_passes.specs.Causes.{IsNamed, settings_of}
use Rattle.shader_analysis.proofs.NextLemmas.{can_process_entry_point, entry_point_found, entry_point_is_reached, entry_point_refused}
use Rattle.shader_analysis.proofs.PositionLemmas.{passed_on}
use Rattle.shader_analysis.specs.Processed.{site_of}
use Rattle.shader_analysis.specs.Reached.{IsReached}
use Rattle.shader_analysis.specs.Recorded.{Recorded}
use Rattle.shader_analysis.proofs.valid.analyze.analyze_entry_point.Goals as goal

pub process_function-requires-clause-stored : goal.process_function-requires-clause-stored
process_function-requires-clause-stored c =
    can_process_entry_point c.args.module.now (settings_of c.args.flags c.args.capabilities) c.requires.well_formed c.args.info.now
    c.requires.types c.requires.functions c.requires.all c.requires.found c.args.index c.requires.next c.requires.there

pub returns-in_err-found-clause-reached : goal.returns-in_err-found-clause-reached
returns-in_err-found-clause-reached c =
    passed_on _ c.from_residual.result c.from_residual.ensures.1
    (subst (λ v. IsReached c.args.module.now (settings_of c.args.flags c.args.capabilities) (site_of v))
    (sym c.in_err-found.ensures.place)
    (entry_point_is_reached c.args.module.now (settings_of c.args.flags c.args.capabilities) c.requires.well_formed c.args.info.now
    c.requires.types c.requires.functions c.requires.all c.requires.found c.args.index c.requires.next c.requires.there))

pub returns-in_err-found-clause-refused : goal.returns-in_err-found-clause-refused
returns-in_err-found-clause-refused c =
    passed_on _ c.from_residual.result c.from_residual.ensures.1
    (subst (λ v. IsNamed (IsFirstFault c.args.module.now (settings_of c.args.flags c.args.capabilities) (site_of v))
    c.in_err-found.field-0.0.cause)
    (sym c.in_err-found.ensures.place)
    (entry_point_refused c.args.module.now (settings_of c.args.flags c.args.capabilities) c.requires.well_formed c.args.info.now
    c.requires.types c.requires.functions c.requires.all c.requires.found c.args.index c.requires.next c.requires.there
    c.in_err-found.field-0.0.cause c.in_err-found.ensures.fault))

pub returns-clause-found : goal.returns-clause-found
returns-clause-found c = on_ok_weaker c.add_entry_point.result (λ is.
    entry_point_found c.args.module.now (settings_of c.args.flags c.args.capabilities) c.requires.well_formed c.args.info.now
    c.requires.types c.requires.functions c.requires.all c.requires.found c.args.index c.requires.next c.requires.there
    c.in_ok-found.found c.in_ok-found.ensures.steps c.in_ok-found.ensures.with_arguments
    (record { stages = c.in_ok-found.ensures.stages; one_source = c.in_ok-found.ensures.one_source }) c.in_ok-found.ensures.fits
    c.in_ok-found.ensures.clean c.add_entry_point.new.info.entry_points (ap (λ (v : Recorded). v.entry_points) is))
    c.add_entry_point.ensures.ok

pub returns-clause-reached : goal.returns-clause-reached
returns-clause-reached c = IfErr-weaker c.add_entry_point.result _ _ (λ error is.
    subst (λ v. IsReached c.args.module.now (settings_of c.args.flags c.args.capabilities) (site_of v)) (sym is)
    (entry_point_is_reached c.args.module.now (settings_of c.args.flags c.args.capabilities) c.requires.well_formed c.args.info.now
    c.requires.types c.requires.functions c.requires.all c.requires.found c.args.index c.requires.next c.requires.there))
    c.add_entry_point.ensures.place

pub returns-clause-refused : goal.returns-clause-refused
returns-clause-refused c = IfErr-weaker c.add_entry_point.result _ _ (λ error reported.
    reported c.args.module.now (settings_of c.args.flags c.args.capabilities)) c.add_entry_point.ensures.refused

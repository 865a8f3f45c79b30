use Rattle.std.proofs.Common.{[], ap, subst, sym}
use Rattle.shader_analysis_spec.specs.Derivable.{AreTypes}
use Rattle.shader_resolve.specs.Context.{context_of}
use Rattle.shader_passes.specs.Causes.{settings_of}
use Rattle.shader_analysis.proofs.NextLemmas.{all_found}
use Rattle.shader_analysis.proofs.PositionLemmas.{passed_on}
use Rattle.shader_analysis.specs.Recorded.{Recorded}
use Rattle.shader_analysis.proofs.valid.analyze.analyze_module.Goals as goal

pub add_entry_points-requires-clause-types : goal.add_entry_points-requires-clause-types
add_entry_points-requires-clause-types c =
    subst (λ v. AreTypes (context_of c.args.module.now [] []) c.args.module.now.global_expressions v)
    (sym (ap (λ (v : Recorded). v.global_expressions) c.in_ok-add_functions.ensures.rest)) c.in_ok-add_types.ensures.types

pub returns-clause-exact : goal.returns-clause-exact
returns-clause-exact c =
    (all_found c.args.module.now (settings_of c.args.flags c.args.capabilities) c.requires c.add_types.new.info c.add_functions.new.info
    c.add_entry_points.new.info
    c.in_ok-add_types.ensures.types c.in_ok-add_functions.ensures.rest c.in_ok-add_functions.ensures.all c.in_ok-add_functions.ensures.found
    c.in_ok-add_entry_points.ensures.rest c.in_ok-add_entry_points.ensures.all c.in_ok-add_entry_points.ensures.found).0

pub returns-clause-pairs : goal.returns-clause-pairs
returns-clause-pairs c =
    (all_found c.args.module.now (settings_of c.args.flags c.args.capabilities) c.requires c.add_types.new.info c.add_functions.new.info
    c.add_entry_points.new.info
    c.in_ok-add_types.ensures.types c.in_ok-add_functions.ensures.rest c.in_ok-add_functions.ensures.all c.in_ok-add_functions.ensures.found
    c.in_ok-add_entry_points.ensures.rest c.in_ok-add_entry_points.ensures.all c.in_ok-add_entry_points.ensures.found).1

pub returns-clause-accepted : goal.returns-clause-accepted
returns-clause-accepted c =
    (all_found c.args.module.now (settings_of c.args.flags c.args.capabilities) c.requires c.add_types.new.info c.add_functions.new.info
    c.add_entry_points.new.info
    c.in_ok-add_types.ensures.types c.in_ok-add_functions.ensures.rest c.in_ok-add_functions.ensures.all c.in_ok-add_functions.ensures.found
    c.in_ok-add_entry_points.ensures.rest c.in_ok-add_entry_points.ensures.all c.in_ok-add_entry_points.ensures.found).2

pub returns-clause-fit : goal.returns-clause-fit
returns-clause-fit c =
    (all_found c.args.module.now (settings_of c.args.flags c.args.capabilities) c.requires c.add_types.new.info c.add_functions.new.info
    c.add_entry_points.new.info
    c.in_ok-add_types.ensures.types c.in_ok-add_functions.ensures.rest c.in_ok-add_functions.ensures.all c.in_ok-add_functions.ensures.found
    c.in_ok-add_entry_points.ensures.rest c.in_ok-add_entry_points.ensures.all c.in_ok-add_entry_points.ensures.found).3

pub returns-clause-unrestricted : goal.returns-clause-unrestricted
returns-clause-unrestricted c =
    (all_found c.args.module.now (settings_of c.args.flags c.args.capabilities) c.requires c.add_types.new.info c.add_functions.new.info
    c.add_entry_points.new.info
    c.in_ok-add_types.ensures.types c.in_ok-add_functions.ensures.rest c.in_ok-add_functions.ensures.all c.in_ok-add_functions.ensures.found
    c.in_ok-add_entry_points.ensures.rest c.in_ok-add_entry_points.ensures.all c.in_ok-add_entry_points.ensures.found).4

pub returns-in_err-add_types-clause-reached : goal.returns-in_err-add_types-clause-reached
returns-in_err-add_types-clause-reached c =
    passed_on _ c.from_residual.result c.from_residual.ensures.1
    (c.in_err-add_types.ensures.reached (settings_of c.args.flags c.args.capabilities))

pub returns-in_err-add_types-clause-refused : goal.returns-in_err-add_types-clause-refused
returns-in_err-add_types-clause-refused c =
    passed_on _ c.from_residual.result c.from_residual.ensures.1
    (c.in_err-add_types.ensures.refused (settings_of c.args.flags c.args.capabilities))

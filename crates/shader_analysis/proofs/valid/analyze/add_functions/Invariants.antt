use Rattle.std.proofs.Common.{◌≡◌, ◌-◌, [], length}
use Rattle.shader_analysis_spec.specs.Derivable.{AreTypes}
use Rattle.shader_resolve.specs.Context.{context_of}
use Rattle.shader_passes.specs.Causes.{settings_of}
use Rattle.shader_analysis.specs.Analyzed.{FunctionsAnalyzed}
use Rattle.shader_analysis.proofs.valid.analyze.add_functions.Given as goal

abbrev pub invariant-loop-flags : goal.invariant-loop-flags
invariant-loop-flags l = record {
  rest : l.info ≡ record l.fn.info { functions = l.info.functions };
  types : AreTypes (context_of l.«module» [] []) l.«module».global_expressions l.info.global_expressions;
  found : FunctionsAnalyzed l.«module» (settings_of l.flags l.capabilities) l.info.functions;
}

abbrev pub decreases-loop-flags : goal.decreases-loop-flags
decreases-loop-flags l = length l.«module».functions - length l.info.functions

use Rattle.std.proofs.Common.{◌≡◌, [], length}
use Rattle.shader_analysis_spec.specs.Derivable.{AreTypes}
use Rattle.shader_resolve.specs.Context.{context_of}
use Rattle.shader_passes.specs.Causes.{settings_of}
use Rattle.shader_analysis.specs.Analyzed.{EntryPointsAnalyzed, FunctionsAnalyzed}
use Rattle.shader_analysis.proofs.valid.analyze.add_entry_points.Given as goal

abbrev pub invariant-loop-index : goal.invariant-loop-index
invariant-loop-index l = record {
  next : l.index ≡ length l.info.entry_points;
  rest : l.info ≡ record l.fn.info { entry_points = l.info.entry_points };
  types : AreTypes (context_of l.«module» [] []) l.«module».global_expressions l.info.global_expressions;
  all : length l.info.functions ≡ length l.«module».functions;
  functions : FunctionsAnalyzed l.«module» (settings_of l.flags l.capabilities) l.info.functions;
  found : EntryPointsAnalyzed l.«module» (settings_of l.flags l.capabilities) l.info.entry_points;
}

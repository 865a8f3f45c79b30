use Rattle.shader_uniformity_trace.proofs.TraceLemmas.{trace_is}
use Rattle.shader_uniformity_trace.proofs.trace.trace_of.Goals as goal

pub returns : goal.returns
returns c =
    trace_is c.args.module.now c.args.location.now c.function_at-function.result.now c.args.traces.now _ c.requires.well_formed
    c.requires.traces
    c.function_at-function.ensures c.in_ok-trace.ensures.expressions c.in_ok-trace.ensures.result

use Rattle.shader_uniformity_causes.proofs.CallerLemmas.{found_point}
use Rattle.shader_uniformity_causes.proofs.callers.find_in_points.Goals as goal

pub loop-index-preserved : goal.loop-index-preserved
loop-index-preserved c = record {
  all = c.loop-index.invariant.all;
  limit = c.loop-index.invariant.limit;
  found = found_point c.args.module.now c.args.known.now c.loop-index.index c.len-limit.result c.loop-index.callers.items
      c.find_in.new.callers.items c.loop-index.invariant.limit c.in_ok-find_in.ensures c.loop-index.invariant.found;
}

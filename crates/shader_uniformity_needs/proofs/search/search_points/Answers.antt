use Rattle.std.proofs.Common.{◌-◌, refl}
use Rattle.shader_uniformity_needs.proofs.SearchLemmas.{searched_point}
use Rattle.shader_uniformity_needs.proofs.search.search_points.Goals as goal

pub loop-step-preserved : goal.loop-step-preserved
loop-step-preserved c = record {
  all = c.loop-step.invariant.all;
  searched = searched_point c.args.module.now c.args.known.now c.len-count.result c.loop-step.step
      (c.len-count.result - 1 - c.loop-step.step) c.loop-step.search c.search_body.new.search c.loop-step-test.true refl
      c.in_ok-search_body.ensures c.loop-step.invariant.searched;
}

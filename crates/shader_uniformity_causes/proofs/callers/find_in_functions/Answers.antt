use Rattle.std.proofs.Common.{◌-◌, ◌∙◌, ap, refl, List}
use Rattle.shader_uniformity_causes.proofs.CallerLemmas.{found_function}
use Rattle.shader_uniformity_causes.specs.Callers.{firsts_of}
use Rattle.shader_uniformity_causes.specs.declared.causes.PassedBy.{PassedBy}
use Rattle.shader_uniformity_causes.proofs.callers.find_in_functions.Goals as goal

pub loop-step-preserved : goal.loop-step-preserved
loop-step-preserved c = record {
  all = c.loop-step.invariant.all;
  found = found_function c.args.module.now c.args.known.now c.len-count.result c.loop-step.step
      (c.len-count.result - 1 - c.loop-step.step) c.index.result.now c.deref.result.now c.loop-step.callers.items
      c.find_in.new.callers.items c.loop-step-test.true refl c.loop-step.invariant.all c.index.ensures
      (c.deref.ensures.value ∙ c.in_ok-firsts.ensures ∙ ap (λ (v : List PassedBy). firsts_of v) c.as_slice.ensures.value)
      c.in_ok-find_in.ensures c.loop-step.invariant.found;
}

use Rattle.shader_passes.proofs.FilterLemmas.{leads_to_parent, parent_within}
use Rattle.shader_passes.proofs.filters.derivative_severity.Goals as goal

pub loop-next-preserved : goal.loop-next-preserved
loop-next-preserved c =
    let filter = c.index-filter.result.now in
    record {
      within = parent_within c.args.filters.now c.in-Some.handle filter c.requires.parents c.index-filter.ensures;
      leads = leads_to_parent c.args.filters.now c.args.leaf c.loop-next.next c.in-Some.handle filter c.loop-next.invariant.leads
          c.in-Some.is c.index-filter.ensures c.in-Other.is;
    }

use Rattle.shader_uniformity_needs.proofs.SearchLemmas.{violations_in_order}
use Rattle.shader_uniformity_needs.proofs.search.find_violations.Goals as goal

pub returns : goal.returns
returns c =
    violations_in_order c.args.module.now c.args.known.now c.search_functions.new.search.found.items c.reverse.new.self.items
    c.reverse.ensures.permutation c.in_ok-search_functions.ensures

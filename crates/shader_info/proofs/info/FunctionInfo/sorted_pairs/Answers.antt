use Rattle.std.proofs.Common.{◌≡◌, ◌∙◌, sym, subst, Ok, rules, tests}
use Rattle.std.specs.BTreeSet.{IsFromIterResult}
use Rattle.std.proofs.lemmas.Iterator.{YieldsList-from_map, items_from_collect}
use Rattle.std.proofs.lemmas.Iterator.Adapters.{fact_from_collect}
use Rattle.std.proofs.lemmas.Iterator.Consumers.{YieldsList-at, YieldsList-from_rest}
use Rattle.shader_info.specs.Recorded.{ArePairsOf, pair_cmp}
use Rattle.shader_info.proofs.PairLemmas.{key_numbers, pairs_reported}
use Rattle.shader_info.proofs.info.FunctionInfo.sorted_pairs.Goals as goal

pub returns : goal.returns
returns c =
    let info = c.args.self.now in
    let rest : c.into_iter.result ≡ c.in_ok-pairs.pairs.keys = search rules in
    let numbers =
    YieldsList-from_map _ key_numbers (YieldsList-at c.map.ensures.source (YieldsList-from_rest info.sampling_set.keys c.iter.ensures.rest))
    c.map.ensures.closure (λ x r q k. search (rules, tests)) in
    let built = fact_from_collect {E = Unit {0}} (IsFromIterResult pair_cmp) (Ok c.in_ok-pairs.pairs) c.in_ok-pairs.ensures.ran numbers in
    let is : c.in_ok-pairs-2.pairs.items ≡ c.in_ok-pairs.pairs.keys =
    items_from_collect {E = Unit {0}} (Ok c.in_ok-pairs-2.pairs) c.in_ok-pairs-2.ensures.ran
    (YieldsList-from_rest c.in_ok-pairs.pairs.keys rest) in
    subst (ArePairsOf info) (sym (c.from.ensures ∙ is)) (pairs_reported info c.in_ok-pairs.pairs built)

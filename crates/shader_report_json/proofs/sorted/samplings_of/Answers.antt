use Rattle.std.proofs.Common.{◌≡◌, ◌∙◌, sym, subst, Ok, rules, tests}
use Rattle.std.specs.BTreeSet.{IsFromIterResult}
use Rattle.std.proofs.lemmas.Iterator.{YieldsList-from_map, items_from_collect}
use Rattle.std.proofs.lemmas.Iterator.Adapters.{fact_from_collect}
use Rattle.std.proofs.lemmas.Iterator.Consumers.{YieldsList-at, YieldsList-from_rest}
use Rattle.shader_report_json.specs.Sorted.{AreSamplingsOf, sampling_cmp}
use Rattle.shader_report_json.proofs.PairLemmas.{sampling_numbers, samplings_reported}
use Rattle.shader_report_json.proofs.sorted.samplings_of.Goals as goal

pub returns : goal.returns
returns c =
    let info = c.args.info.now in
    let rest : c.into_iter.result ≡ c.in_ok-pairs.pairs.keys = search rules in
    let numbers =
    YieldsList-from_map _ sampling_numbers
    (YieldsList-at c.map.ensures.source (YieldsList-from_rest info.sampling.keys c.iter.ensures.rest))
    c.map.ensures.closure (λ x r q k. search (rules, tests)) in
    let built =
    fact_from_collect {E = Unit {0}} (IsFromIterResult sampling_cmp) (Ok c.in_ok-pairs.pairs) c.in_ok-pairs.ensures.ran
    numbers in
    let is : c.in_ok-pairs-2.pairs.items ≡ c.in_ok-pairs.pairs.keys =
    items_from_collect {E = Unit {0}} (Ok c.in_ok-pairs-2.pairs) c.in_ok-pairs-2.ensures.ran
    (YieldsList-from_rest c.in_ok-pairs.pairs.keys rest) in
    subst (AreSamplingsOf info) (sym (c.from.ensures ∙ is)) (samplings_reported info c.in_ok-pairs.pairs built)

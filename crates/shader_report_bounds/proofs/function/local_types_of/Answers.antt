use Rattle.std.proofs.Common.{◌≡◌, ℕ, Ok, rules, tests}
use Rattle.std.specs.BTreeSet.{IsFromIterResult}
use Rattle.std.specs.Ordering.{nat_cmp}
use Rattle.std.proofs.lemmas.Iterator.{YieldsList-from_map, items_from_collect}
use Rattle.std.proofs.lemmas.Iterator.Adapters.{fact_from_collect}
use Rattle.std.proofs.lemmas.Iterator.Consumers.{YieldsList-at, YieldsList-from_rest}
use Rattle.shader_report_bounds.proofs.NumberLemmas.{types_listed}
use Rattle.shader_report_bounds.proofs.function.local_types_of.Goals as goal

pub returns : goal.returns
returns c =
    let found = c.in_ok-found.found in
    let rest : c.into_iter.result ≡ c.in_ok-sorted.sorted.keys = search rules in
    let numbers =
    YieldsList-from_map _ (λ (ty : ℕ). ty) (YieldsList-at c.map.ensures.source (YieldsList-from_rest found.keys c.iter.ensures.rest))
    c.map.ensures.closure (λ x r q k. search (rules, tests)) in
    let built = fact_from_collect {E = Unit {0}} (IsFromIterResult nat_cmp) (Ok c.in_ok-sorted.sorted) c.in_ok-sorted.ensures.ran numbers in
    let is : c.in_ok-types.types.items ≡ c.in_ok-sorted.sorted.keys =
    items_from_collect {E = Unit {0}} (Ok c.in_ok-types.types) c.in_ok-types.ensures.ran
    (YieldsList-from_rest c.in_ok-sorted.sorted.keys rest) in
    types_listed c.args.module.now c.args.function.now c.args.info.now c.args.policies found.keys c.in_ok-sorted.sorted
    c.in_ok-types.types.items c.in_ok-found.ensures.types built is

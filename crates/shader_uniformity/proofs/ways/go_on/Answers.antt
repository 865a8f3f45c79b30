use Rattle.std.proofs.Common.{arith}
use Rattle.shader_uniformity.proofs.SearchLemmas.{goes_on_by}
use Rattle.shader_uniformity.proofs.ways.go_on.Goals as goal

pub returns-in_ok-append : goal.returns-in_ok-append
returns-in_ok-append c =
    let search = c.args.search.now in
    let end = c.len.ensures in
    let at = c.if-index-len.true in
    record {
      goes_on = λ rules first last cells h.
          goes_on_by rules first last cells c.args.index search.cost c.in_ok-search.field-0 search.needs.items c.append.new.self.items
          search.next.items c.append.new.other.items search.found.items (omega (arith, end, at)) c.in_ok-search.ensures
          c.in_ok-append.ensures.items c.in_ok-append.ensures.other_items h;
      ends = λ come le. c.in_ok-append.ensures.other_items;
    }

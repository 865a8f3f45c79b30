use Rattle.std.proofs.Common.{◌∙◌, ◌≤◌, sym, refl, subst, length, List, arith}
use Rattle.std.specs.Global.{Vec}
use Rattle.shader_uniformity.specs.Ways.{AreBackward, AreWithin, Expands, LeadsBack}
use Rattle.shader_uniformity.specs.declared.facts.Rule.{Rule}
use Rattle.shader_uniformity.specs.declared.ways.Need.{Need}
use Rattle.shader_uniformity.proofs.ReachLemmas.{effects_within}
use Rattle.shader_uniformity.proofs.SearchLemmas.{begins_by}
use Rattle.shader_uniformity.proofs.WayLemmas.{is_shortest, nothing_follows, read_at}
use Rattle.shader_uniformity.proofs.ways.shortest_trace.Goals as goal

pub by_effects-requires : goal.by_effects-requires
by_effects-requires c = effects_within c.args.last.now c.args.rules.now c.width.result c.width.ensures

pub loop-index-init : goal.loop-index-init
loop-index-init c =
    let long = c.len.ensures in
    begins_by c.args.rules.now c.args.first.now c.args.last.now c.in_ok-cells.cells.items c.len.result c.in_ok-search.search
    c.in_ok-cells.ensures (omega (arith, long)) c.in_ok-search.ensures

pub trace_back-requires-clause-backward : goal.trace_back-requires-clause-backward
trace_back-requires-clause-backward c =
    let now = c.in_ok-go_on.ensures.goes_on c.args.rules.now c.args.first.now c.args.last.now c.in_ok-cells.cells.items
    c.loop-index.invariant in
    let P : List Need → Type 0 = λ xs. AreBackward xs in
    subst P (sym c.deref-then-covers.ensures.value) now.backward

pub returns-then-covers : goal.returns-then-covers
returns-then-covers c =
    let rules = c.args.rules.now in
    let first = c.args.first.now in
    let last = c.args.last.now in
    let search = c.go_on.new.search in
    let cells = c.in_ok-cells.cells.items in
    let trace = c.in_ok-trace_back-in-Some.field-0.items in
    let now = c.in_ok-go_on.ensures.goes_on rules first last cells c.loop-index.invariant in
    let read = c.in-Some.ensures.lookup in
    let at = read_at c.deref.result.now search.needs.items c.loop-index.index c.in-Some.need.now c.deref.ensures.value read.3.0 read.1 in
    let P : List Need → Type 0 = λ xs. LeadsBack xs c.loop-index.index trace in
    let way = is_shortest rules first last cells c.loop-index.index search.cost search.needs.items search.next.items search.found.items now
    c.in-Some.need.now trace at (sym c.covers.ensures ∙ c.if-covers.true)
    (subst P c.deref-then-covers.ensures.value c.in_ok-trace_back-in-Some.ensures) in
    record { found = way.0; shortest = way.1 }

pub expand-requires-clause-within : goal.expand-requires-clause-within
expand-requires-clause-within c =
    let search = c.go_on.new.search in
    let now = c.in_ok-go_on.ensures.goes_on c.args.rules.now c.args.first.now c.args.last.now c.in_ok-cells.cells.items
    c.loop-index.invariant in
    let P : List (Vec Rule) → Type 0 = λ xs. AreWithin xs search.found.items in
    subst P (sym c.deref-in-Some.ensures.value) now.within

pub returns-in-None-clause-found : goal.returns-in-None-clause-found
returns-in-None-clause-found c =
    let rules = c.args.rules.now in
    let first = c.args.first.now in
    let last = c.args.last.now in
    let search = c.go_on.new.search in
    let cells = c.in_ok-cells.cells.items in
    let now = c.in_ok-go_on.ensures.goes_on rules first last cells c.loop-index.invariant in
    let past = c.in-None.ensures.lookup.3 in
    let P : List Need → Type 0 = λ xs. length xs ≤ c.loop-index.index in
    let end : P search.needs.items = subst P c.deref.ensures.value past in
    nothing_follows rules first last cells c.loop-index.index search.cost search.needs.items search.next.items search.found.items now
    end (c.in_ok-go_on.ensures.ends c.loop-index.invariant.come end)

pub loop-index-preserved : goal.loop-index-preserved
loop-index-preserved c =
    let rules = c.args.rules.now in
    let first = c.args.first.now in
    let last = c.args.last.now in
    let search = c.go_on.new.search in
    let cells = c.in_ok-cells.cells.items in
    let need = c.in-Some.need.now in
    let now = c.in_ok-go_on.ensures.goes_on rules first last cells c.loop-index.invariant in
    let read = c.in-Some.ensures.lookup in
    let at = read_at c.deref.result.now search.needs.items c.loop-index.index need c.deref.ensures.value read.3.0 read.1 in
    let P : List (Vec Rule) → Type 0 = λ xs. Expands xs c.loop-index.index need.fact search c.expand.new.search in
    let expanded : P cells = subst P c.deref-in-Some.ensures.value c.in_ok-expand-in-Some.ensures in
    expanded.expands rules first last need now at refl (sym c.covers.ensures ∙ c.if-covers.false)

use Rattle.std.proofs.Common.{◌≡◌, ◌∙◌, ◌-◌, ap, sym, refl, subst, false, arith, List, drop, take, slice_index}
use Rattle.std.proofs.lemmas.List.{get_or_default}
use Rattle.shader_uniformity.specs.Cells.{covers}
use Rattle.shader_uniformity.specs.declared.facts.Fact.{Fact}
use Rattle.shader_uniformity.specs.declared.facts.Rule.{Rule}
use Rattle.shader_uniformity.proofs.EffectLemmas.{read_in}
use Rattle.shader_uniformity.proofs.SearchLemmas.{expands_by, expands_nowhere}
use Rattle.shader_uniformity.proofs.ways.expand.Goals as goal

pub returns-in_ok-add_needs : goal.returns-in_ok-add_needs
returns-in_ok-add_needs c =
    let adds = c.in_ok-add_needs.ensures in
    let old = c.args.search.now in
    let cells = c.args.cells.now in
    let count = c.count_until.ensures in
    let long = c.requires.within.0 in
    let inside = c.if-place-cells.true in
    let from : c.index-start.result.now ≡ slice_index old.found.items c.cell-place.result =
    c.index-start.ensures ∙ get_or_default old.found.items c.cell-place.result c.index-start.result.now 0 (omega (arith, long, inside)) in
    let is = c.index-cells-place.is in
    let second = c.deref-then-place-cells.ensures.value in
    let end = c.max-end.ensures in
    let first_read = c.deref.ensures.value in
    record {
      expands = λ rules first last need h at e later.
          let P : Fact → Type 0 = λ x. covers first x ≡ false in
          expands_by rules first last cells c.args.index old.cost old.needs.items old.next.items old.found.items need h at
          (subst P (sym e) later) c.args.fact.now c.cell-place.result c.count_until.result c.index-start.result.now c.max-end.result
          c.moment.result c.add_needs.new.search.cost c.deref.result.now
          (take (c.max-end.result - c.index-start.result.now) (drop c.index-start.result.now c.deref-then-place-cells.result.now))
          c.add_needs.new.search.needs.items
          c.add_needs.new.search.next.items c.add_needs.new.search.found.items _ e c.cell-place.ensures.cell c.if-place-cells.true
          c.moment.ensures (first_read ∙ read_in cells c.cell-place.result c.index-cells-place.result c.if-place-cells.true is) from end
          count.within count.until count.after
          (ap (λ (xs : List Rule). take (c.max-end.result - c.index-start.result.now) (drop c.index-start.result.now xs))
          (second ∙ sym first_read)) adds.cost adds.needs adds.next adds.found refl;
    }

pub returns-else-place-cells : goal.returns-else-place-cells
returns-else-place-cells c =
    let old = c.args.search.now in
    record {
      expands = λ rules first last need h at e later.
          let P : Fact → Type 0 = λ x. covers first x ≡ false in
          expands_nowhere rules first last c.args.cells.now c.args.index old.cost old.needs.items old.next.items old.found.items need h at
          (subst P (sym e) later) c.args.fact.now c.cell-place.result e c.cell-place.ensures.cell c.if-place-cells.false;
    }

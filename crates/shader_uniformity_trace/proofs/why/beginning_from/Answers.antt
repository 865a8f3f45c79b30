use Rattle.std.proofs.Common.{◌≡◌, ◌∙◌, ◌+◌, ◌++◌, ◌∷◌, [], inr, sym, subst, ap, arith, length, length-append, List}
use Rattle.shader_uniformity_trace.specs.Chains.{IsChain, one}
use Rattle.shader_uniformity_trace.specs.declared.link.Link.{Link}
use Rattle.shader_uniformity_trace.proofs.WalkLemmas.{longer}
use Rattle.shader_uniformity_trace.proofs.why.beginning_from.Goals as goal

pub loop-count-init : goal.loop-count-init
loop-count-init c =
    let first = c.args.start.now in
    let is : c.add.new.links.items ≡ first ∷ [] =
    c.in_ok-add.ensures ∙ ap (λ (links : List Link). links ++ first ∷ []) c.new-beginning.ensures.items in
    record {
      chain = subst (λ (links : List Link). IsChain c.args.reasons.now first links first) (sym is) one;
      count = ap length is;
      origin = c.requires.origin;
    }

pub loop-count-preserved : goal.loop-count-preserved
loop-count-preserved c =
    let m = c.args.reasons.now in
    let first = c.args.start.now in
    let next = c.in-Some.next in
    let more = c.loop-count.beginning.items ++ next ∷ [] in
    let longer_by_one : length more ≡ length c.loop-count.beginning.items + 1 = length-append c.loop-count.beginning.items (next ∷ []) in
    let count : length c.add-in-Some.new.links.items ≡ length more = ap length c.in_ok-add-in-Some.ensures in
    record {
      chain = subst (λ (links : List Link). IsChain m first links next) (sym c.in_ok-add-in-Some.ensures)
          (longer m c.loop-count.invariant.chain c.in-Some.ensures.0);
      count = omega (arith, count, longer_by_one, c.loop-count.invariant.count);
      origin = c.in-Some.ensures.1;
    }

pub returns : goal.returns
returns c = record {
  last = c.loop-count.last;
  chain = c.loop-count.invariant.chain;
  ends = inr (omega (arith, c.loop-count.invariant.count, c.requires.some), c.loop-count.invariant.origin);
}

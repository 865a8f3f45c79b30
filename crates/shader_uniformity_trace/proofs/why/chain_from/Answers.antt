use Rattle.std.proofs.Common.{rules, ◌≡◌, sym, subst, List, None}
use Rattle.shader_uniformity_trace.specs.declared.link.Link.{Link}
use Rattle.shader_uniformity_trace.proofs.WalkLemmas.{Walked, walk_ends, walk_falls, walk_goes_on}
use Rattle.shader_uniformity_trace.proofs.why.chain_from.Goals as goal

pub loop-next-smaller : goal.loop-next-smaller
loop-next-smaller c =
    walk_falls c.args.reasons.now c.args.start.now c.loop-next.links.items c.loop-next.link c.next_link.result c.next_link.ensures
    c.requires.well_formed c.in-Some.next c.in-Some.is

pub loop-next-preserved : goal.loop-next-preserved
loop-next-preserved c =
    let P : List Link → Type 0 = λ v. Walked c.args.reasons.now c.args.start.now v c.in-Some.next in
    subst P (sym c.in_ok-add.ensures) (walk_goes_on c.args.reasons.now c.args.start.now c.loop-next.links.items c.loop-next.link
    c.next_link.result c.next_link.ensures c.loop-next.invariant c.in-Some.next c.in-Some.is)

pub returns : goal.returns
returns c =
    let none : c.next_link.result ≡ None = search rules in
    walk_ends c.args.reasons.now c.args.start.now c.loop-next.links.items c.loop-next.link c.next_link.result c.next_link.ensures
    c.loop-next.invariant none c.add-2.new.links.items c.in_ok-add-2.ensures

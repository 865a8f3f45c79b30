use Rattle.std.proofs.Common.{arith}
use Rattle.shader_uniformity.proofs.WayLemmas.{meets_earlier, tail_step, tail_stops}
use Rattle.shader_uniformity.proofs.ways.trace_back.Goals as goal

pub loop-place-preserved : goal.loop-place-preserved
loop-place-preserved c =
    let inside = c.loop-place.invariant.inside in
    let needs = c.args.needs.now in
    let step = c.in-Some.step in
    let earlier = meets_earlier needs c.loop-place.place _ inside step c.requires.backward c.in-Some.is in
    record {
      inside = omega (arith, inside, earlier);
      tail = tail_step needs c.loop-place.place _ inside c.args.index c.loop-place.trace.items c.push.new.self.items step c.in-Some.is
          c.in_ok-push.ensures.items c.loop-place.invariant.tail;
    }

pub returns : goal.returns
returns c =
    tail_stops c.args.needs.now c.loop-place.place _ c.loop-place.invariant.inside c.args.index c.loop-place.trace.items
    c.reverse.new.self.items c.in_default.is c.reverse.ensures.items c.loop-place.invariant.tail

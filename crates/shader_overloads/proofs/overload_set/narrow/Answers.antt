use Rattle.std.proofs.Common.{◌∙◌, ap, sym}
use Rattle.std.specs.List.{filter}
use Rattle.std.proofs.lemmas.List.{drop_all}
use Rattle.shader_overloads.specs.Remaining.{remaining}
use Rattle.shader_overloads.proofs.NarrowLemmas.{narrowed, remaining-nil, fewer_fit}
use Rattle.shader_overloads.proofs.overload_set.narrow.Goals as goal
use Rattle.shader_overloads.proofs.overload_set.narrow.Goals.{in-Arg+in_ok-left-in-Arg, in-ConcreteOnly}

pub loop-call-preserved : goal.loop-call-preserved
loop-call-preserved g c =
    let rules = g.S.OverloadSet.rules in
    let accepting = g.S.OverloadSet.accepting in
    let is_free = g.S.OverloadSet.is_free in
    elim c.match-call.branch [
      | in-Arg+in_ok-left-in-Arg w ↦
          let step = ap rules w.left-is ∙ w.in_ok-left-in-Arg.ensures.rules
          ∙ ap (λ a. filter (a c.args.types.now w.in-Arg.i w.in-Arg.ty) (rules c.loop-call.left)) c.loop-call.invariant.kind in
          record {
            rest = narrowed (accepting c.args.set) c.args.types.now c.args.calls.now c.loop-call.call-index c.call-item.result _
                (rules c.loop-call.left) _ _ c.loop-call-test.true (sym c.call-item.is ∙ w.in-Arg.is) step c.loop-call.invariant.rest;
            kind = ap accepting w.left-is ∙ w.in_ok-left-in-Arg.ensures.kind ∙ c.loop-call.invariant.kind;
            free = ap is_free w.left-is ∙ w.in_ok-left-in-Arg.ensures.free ∙ c.loop-call.invariant.free;
            fits = fewer_fit c.args.types.now _ _ _ step c.loop-call.invariant.fits;
          }
      | in-ConcreteOnly w ↦
          let step = ap rules w.left-is ∙ w.concrete_only.ensures.rules in
          record {
            rest = narrowed (accepting c.args.set) c.args.types.now c.args.calls.now c.loop-call.call-index c.call-item.result _
                (rules c.loop-call.left) _ _ c.loop-call-test.true (sym c.call-item.is
                ∙ w.in-ConcreteOnly.is) step c.loop-call.invariant.rest;
            kind = ap accepting w.left-is ∙ w.concrete_only.ensures.kind ∙ c.loop-call.invariant.kind;
            free = ap is_free w.left-is ∙ w.concrete_only.ensures.free ∙ c.loop-call.invariant.free;
            fits = fewer_fit c.args.types.now _ _ _ step c.loop-call.invariant.fits;
          }
    ]

pub returns-clause-rules : goal.returns-clause-rules
returns-clause-rules g c =
    let rules = g.S.OverloadSet.rules in
    let accepting = g.S.OverloadSet.accepting in
    sym (remaining-nil (accepting c.args.set) c.args.types.now (rules c.loop-call.left))
    ∙ sym (ap (λ calls. remaining (accepting c.args.set) c.args.types.now calls (rules c.loop-call.left))
    (drop_all c.loop-call.call-index c.args.calls.now c.loop-call-test.false))
    ∙ c.loop-call.invariant.rest

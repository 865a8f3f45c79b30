use Rattle.std.proofs.Common.{ap, arith, length, subst, sym, ◌∙◌}
use Rattle.std.proofs.lemmas.Option.{slice_get_within}
use Rattle.shader_expression_types.proofs.ListLemmas.{IsLeft, next_left, none_left}
use Rattle.shader_analysis.specs.Recorded.{Recorded}
use Rattle.shader_analysis.proofs.valid.analyze.add_types.Goals as goal

pub add_type-requires-clause-next : goal.add_type-requires-clause-next
add_type-requires-clause-next c =
    let stored = c.loop-handle.info.global_expressions in
    let all = c.args.module.now.global_expressions in
    let next = next_left all (length stored) c.in-Some.handle c.in-Some.field-0-1.now c.next.new.self
    (subst (λ v. IsLeft all (length stored) v) c.in-Some.ensures.steps c.loop-handle.invariant.2) in
    next.0

pub add_type-requires-clause-there : goal.add_type-requires-clause-there
add_type-requires-clause-there c =
    let stored = c.loop-handle.info.global_expressions in
    let all = c.args.module.now.global_expressions in
    let next = next_left all (length stored) c.in-Some.handle c.in-Some.field-0-1.now c.next.new.self
    (subst (λ v. IsLeft all (length stored) v) c.in-Some.ensures.steps c.loop-handle.invariant.2) in
    omega (arith, next.0, slice_get_within all (length stored) c.in-Some.field-0-1.now next.1)

pub loop-handle-preserved : goal.loop-handle-preserved
loop-handle-preserved c =
    let stored = c.loop-handle.info.global_expressions in
    let all = c.args.module.now.global_expressions in
    let next = next_left all (length stored) c.in-Some.handle c.in-Some.field-0-1.now c.next.new.self
    (subst (λ v. IsLeft all (length stored) v) c.in-Some.ensures.steps c.loop-handle.invariant.2) in (
      tt,
      tt,
      subst (λ v. IsLeft all v c.next.new.self) (sym c.in_ok-add_type.ensures.one) next.2,
      c.in_ok-add_type.ensures.rest ∙ ap (λ (v : Recorded). record v { global_expressions = c.add_type.new.info.global_expressions })
          c.loop-handle.invariant.3,
      c.in_ok-add_type.ensures.found,
    )

pub returns-clause-types : goal.returns-clause-types
returns-clause-types c =
    let stored = c.loop-handle.info.global_expressions in
    let all = c.args.module.now.global_expressions in
    record {
      complete = none_left all (length stored)
          (subst (λ v. IsLeft all (length stored) v) c.in-None.ensures.steps.0 c.loop-handle.invariant.2);
      derived = c.loop-handle.invariant.4.derived;
    }

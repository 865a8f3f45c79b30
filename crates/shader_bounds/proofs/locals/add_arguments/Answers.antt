use Rattle.std.proofs.Common.{◌≡◌, ◌⊎◌, inl, inr, ℕ, length}
use Rattle.std.specs.Iterator.Adapters.{zip_first, zip_second}
use Rattle.std.specs.List.{Contains, zip}
use Rattle.std.specs.Slice.Iter.{iter_rest}
use Rattle.shader_bounds.proofs.AddLemmas.{brought_at, added_at, zip_ends, zip_step}
use Rattle.shader_bounds.specs.Locals.{PairsPass, PassesUnchecked}
use Rattle.shader_bounds.specs.Typed.{Records}
use Rattle.shader_ir.specs.declared.function.FunctionArgument.{FunctionArgument}
use Rattle.shader_bounds.proofs.locals.add_arguments.Goals as goal

pub loop-parameter-preserved : goal.loop-parameter-preserved
loop-parameter-preserved c =
    let W : FunctionArgument × ℕ → ℕ → Type 0 = λ pair ty. PassesUnchecked c.args.module.now c.args.function.now (Records c.args.info.now)
    ty pair.0 pair.1 in
    let before = c.loop-parameter.parameter-iterator in
    let after = c.next.new.self in
    let more = c.in-Some.ensures.steps in
    brought_at W (zip (iter_rest (zip_first before)) (iter_rest (zip_second before))) (
      c.in-Some.parameter.now,
      c.in-Some.argument.now,
    ) (zip (iter_rest (zip_first after)) (iter_rest (zip_second after)))
    (λ ty. Contains c.args.locals.now.keys ty ⊎ PairsPass c.args.module.now c.args.function.now (Records c.args.info.now)
    (zip c.args.parameters.now c.args.arguments.now) ty)
    (Contains c.loop-parameter.locals.keys) (Contains c.add_passed.new.locals.keys)
    (zip_step (iter_rest (zip_first before)) (iter_rest (zip_first after)) (iter_rest (zip_second before)) (iter_rest (zip_second after))
    c.in-Some.parameter.now c.in-Some.argument.now more.0 more.1)
    c.loop-parameter.invariant c.in_ok-add_passed.ensures

pub returns : goal.returns
returns c =
    let W : FunctionArgument × ℕ → ℕ → Type 0 = λ pair ty. PassesUnchecked c.args.module.now c.args.function.now (Records c.args.info.now)
    ty pair.0 pair.1 in
    let before = c.loop-parameter.parameter-iterator in
    let ended : (length (iter_rest (zip_first before)) ≡ 0) ⊎ (length (iter_rest (zip_second before)) ≡ 0) =
    elim c.in-None.ensures.steps [ inl first ↦ inl (first.1).0 | inr second ↦ inr (second.1).0 ] in
    added_at W (zip c.args.parameters.now c.args.arguments.now) (zip (iter_rest (zip_first before)) (iter_rest (zip_second before)))
    (Contains c.args.locals.now.keys) (Contains c.loop-parameter.locals.keys)
    (zip_ends (iter_rest (zip_first before)) (iter_rest (zip_second before)) ended) c.loop-parameter.invariant

use Rattle.std.proofs.Common.{sym, ◌∙◌}
use Rattle.std.specs.List.{Contains}
use Rattle.shader_bounds.proofs.SearchLemmas.{passes_add}
use Rattle.shader_bounds.specs.Typed.{Records}
use Rattle.shader_bounds.proofs.locals.add_passed.Goals as goal

pub returns-in_ok-add-in-Some : goal.returns-in_ok-add-in-Some
returns-in_ok-add-in-Some c =
    passes_add c.args.module.now c.args.function.now (Records c.args.info.now) c.in-Some.ty c.args.parameter.now c.args.argument
    (Contains c.args.locals.now.keys) (Contains c.add.new.locals.keys)
    (sym c.pointed_at.ensures ∙ c.in-Some.is) (c.chain_needs_check.ensures.0 c.if-chain_needs_check.true) c.in_ok-add-in-Some.ensures

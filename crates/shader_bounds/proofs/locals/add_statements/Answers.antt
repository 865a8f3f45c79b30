use Rattle.std.proofs.Common.{arith, ◌≡◌, ap, ◌⊎◌, ℕ, ◌+◌, drop, []}
use Rattle.std.proofs.Math.ListN.{drop_of_length-le}
use Rattle.std.specs.List.{Contains}
use Rattle.shader_analysis_spec.proofs.ListLemmas.{drop_item}
use Rattle.shader_analysis_spec.specs.Program.{Step}
use Rattle.shader_ir.specs.BodyOf.{step_of}
use Rattle.shader_bounds.proofs.AddLemmas.{brought_at, added_at, over_old}
use Rattle.shader_bounds.specs.Locals.{AllPass, StepPasses}
use Rattle.shader_bounds.specs.Typed.{Records}
use Rattle.shader_passes.specs.StatementLists.{steps_of}
use Rattle.shader_bounds.proofs.locals.add_statements.Goals as goal

pub loop-statement-init : goal.loop-statement-init
loop-statement-init c =
    let W : Step → ℕ → Type 0 = λ step ty. StepPasses c.args.module.now c.args.function.now (Records c.args.info.now) ty step in
    over_old W (steps_of c.args.all.now) (Contains c.args.locals.now.keys)

pub loop-statement-preserved : goal.loop-statement-preserved
loop-statement-preserved c =
    let W : Step → ℕ → Type 0 = λ step ty. StepPasses c.args.module.now c.args.function.now (Records c.args.info.now) ty step in
    brought_at W (steps_of (drop c.loop-statement.statement-index c.args.all.now)) (step_of c.statement-item.result.now)
    (steps_of (drop (c.loop-statement.statement-index + 1) c.args.all.now))
    (λ ty. Contains c.args.locals.now.keys ty ⊎ AllPass c.args.module.now c.args.function.now (Records c.args.info.now)
    (steps_of c.args.all.now) ty)
    (Contains c.loop-statement.locals.keys) (Contains c.add_statement.new.locals.keys)
    (ap steps_of (drop_item c.args.all.now c.loop-statement.statement-index c.statement-item.result c.loop-statement-test.true
    c.statement-item.is))
    c.loop-statement.invariant c.in_ok-add_statement.ensures

pub returns : goal.returns
returns c =
    let W : Step → ℕ → Type 0 = λ step ty. StepPasses c.args.module.now c.args.function.now (Records c.args.info.now) ty step in
    let last : drop c.loop-statement.statement-index c.args.all.now ≡ [] = drop_of_length-le c.args.all.now (omega arith) in
    added_at W (steps_of c.args.all.now) (steps_of (drop c.loop-statement.statement-index c.args.all.now)) (Contains c.args.locals.now.keys)
    (Contains c.loop-statement.locals.keys) (ap steps_of last)
    c.loop-statement.invariant

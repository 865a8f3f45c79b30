use Rattle.std.proofs.Common.{◌≡◌, ℕ, ◌+◌, ◌*◌, ◌<◌, ◌≤◌, List, [], ◌∷◌, Vec, Global, subst, sym, arith}
use Rattle.std.proofs.lemmas.Grind.{common_steps}
use Rattle.shader_arena.specs.declared.handle.Handle.{Handle}
use Rattle.shader_ir.specs.declared.mark.Expression.{Expression}
use Rattle.shader_ir.specs.declared.statement.Block.TheDeep.{deep-SwitchCase, size-Statement, size-SwitchCase}
use Rattle.shader_ir.specs.declared.statement.Statement.{Statement}
use Rattle.shader_ir.specs.declared.statement.Statement.TheVariants.{Switch}
use Rattle.shader_ir.specs.declared.statement.SwitchCase.{SwitchCase}
use Rattle.shader_passes.proofs.WalkLemmas.{walks}
use Rattle.shader_passes.proofs.walk.statements.Walk.+walk.Goals as goal
use denote.Param.Weighed.{most}

most_more : {X : Type 0} (depth : X → ℕ) (xs : List X) → most (λ x. 3 * depth x + 1) xs ≤ 3 * most depth xs + 1
most_more depth [] = omega arith
most_more depth (x ∷ xs) = let rest = most_more depth xs in omega arith

-- the cases of a switch are less deep than the switch
cases_fall : (statement : Statement) (selector : Handle Expression) (cases : Vec SwitchCase Global) (listed : List SwitchCase) (t : ℕ) →
    statement ≡ Switch selector cases → listed ≡ cases.items → 2 * size-Statement statement + 0 ≡ t →
    2 * most size-SwitchCase listed + 1 < t
cases_fall statement selector cases listed t is same deep =
    let below = most_more deep-SwitchCase cases.items in
    let whole : 2 * size-Statement (Switch selector cases) + 0 ≡ t = subst (λ v. 2 * size-Statement v + 0 ≡ t) is deep in
    subst (λ v. 2 * most size-SwitchCase v + 1 < t) (sym same) (omega (arith, below, whole))

pub walk_statement-walk_cases-requires : goal.walk_statement-walk_cases-requires
walk_statement-walk_cases-requires t c = (
  cases_fall c.args.statement.now c.in-Switch.selector c.in-Switch.cases c.deref.result.now t c.in-Switch.is
      c.deref.ensures.value c.decreases,
  c.count_statement-in-Switch.ensures.long,
)

pub walk_block-loop-statement-preserved : goal.walk_block-loop-statement-preserved
walk_block-loop-statement-preserved t c = record {
  ends = grind (arith, common_steps, walks);
  first = grind (arith, common_steps, walks);
  origin = grind (arith, common_steps, walks);
  needs = grind (arith, common_steps, walks);
  calls = grind (arith, common_steps, walks);
  counted = grind (arith, common_steps, walks);
  facts' = grind (arith, common_steps, walks);
  long = grind (arith, common_steps, walks);
  roots' = grind (arith, common_steps, walks);
}

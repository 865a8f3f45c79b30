use Rattle.std.proofs.Common.{◌≡◌, length}
use Rattle.std.specs.List.{Contains}
use Rattle.shader_arena.specs.Positions.{items_of}
use Rattle.shader_analysis_spec.specs.Program.{Expression}
use Rattle.shader_bounds.proofs.AddLemmas.{Brings}
use Rattle.shader_bounds.specs.Checked.{Checks, IsCheckedIndex}
use Rattle.shader_bounds.specs.Adds.{Adds, IsIn}
use Rattle.shader_bounds.specs.Typed.{Records}
use Rattle.shader_bounds.proofs.checked.find_checked_indexes.Given as goal

abbrev pub invariant-loop-expression : goal.invariant-loop-expression
invariant-loop-expression l = record {
  can_next : (goal.iterator-loop-expression).can_next l.expression-iterator;
  is_finite : (goal.iterator-loop-expression).is_finite l.expression-iterator;
  count : length l.checked ≡ length l.function.expressions;
  left : (x : Expression) → Contains (items_of l.expression-iterator) x → Contains l.function.expressions x;
  whole : Adds (Brings (Checks l.module l.function (Records l.info) l.policies) (items_of l.expression-iterator))
      (IsCheckedIndex l.module l.function (Records l.info) l.policies) (IsIn l.checked);
}

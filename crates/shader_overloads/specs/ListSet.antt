-- The meaning of a list set's fields.
use Rattle.std.specs.Prelude.{List, length}
use Rattle.std.specs.Rc.{rc_slice_items}
use Rattle.shader_overloads.specs.declared.rule.Rule.{Rule}
use Rattle.shader_overloads.specs.declared.list.List.TheInside.{Inside}
use Rattle.shader_overloads.specs.Masks.{IsBelow, rules_at}

abbrev pub member_rules : Inside → List Rule
member_rules it = rules_at it.set.mask (rc_slice_items it.set.table.rules)

-- no number is beyond the last of the rules
pub record IsListSet (it : Inside) : Type 0 where
  pub within : IsBelow it.set.mask (length (rc_slice_items it.set.table.rules))

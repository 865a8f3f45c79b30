-- The meaning of a regular set's fields.
use Rattle.std.specs.Prelude.{◌<◌, ◌^◌, List}
use Rattle.shader_ir.specs.Scalars.{named_scalars}
use Rattle.shader_overloads.specs.declared.regular.Regular.TheInside.{Inside}
use Rattle.shader_overloads.specs.declared.regular.RegularTable.{RegularTable}
use Rattle.shader_overloads.specs.declared.rule.Rule.{Rule}
use Rattle.shader_overloads.specs.Constructors.{all_constructors}
use Rattle.shader_overloads.specs.Masks.{rules_at}
use Rattle.shader_overloads.specs.Rules.{regular_rules}

-- the rules of all constructors and all scalars
abbrev pub all_rules : RegularTable → List Rule
all_rules table = regular_rules table.arity table.conclude all_constructors named_scalars

abbrev pub rules_inside : Inside → List Rule
rules_inside it = rules_at it.set.mask (all_rules it.set.table)

-- no number is beyond the last of the 156
pub record IsRegular (it : Inside) : Type 0 where
  pub last : it.set.mask.high < 2 ^ 28

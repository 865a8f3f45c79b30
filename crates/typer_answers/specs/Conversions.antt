-- Conversions between spelled types.
use Rattle.std.specs.Prelude.{Option}
use Rattle.shader_ir.specs.declared.scalar.Scalar.{Scalar}
use Rattle.shader_ir.specs.declared.types.ArraySize.TheVariants.{Constant}
use Rattle.shader_ir.specs.declared.types.TypeInner.TheVariants as inner
use Rattle.shader_ir.specs.Conversion.{conversion}
use Rattle.shader_ir.specs.TypeTree.{TypeTree, Node, NoTree, OneTree}
use Rattle.shader_type_text.specs.declared.types.SpelledType.{SpelledType}
use Rattle.shader_type_text.specs.declared.types.SpelledType.TheVariants.{Plain, Array}
use Rattle.shader_type_text.specs.declared.types.PlainType.{PlainType}
use Rattle.shader_type_text.specs.Types.{plain_inner}

abbrev pub plain_tree : PlainType → TypeTree
plain_tree plain = Node (plain_inner plain) NoTree

-- the tree of a type; the position of an array's base doesn't matter
abbrev pub tree_of_spelled : SpelledType → TypeTree
tree_of_spelled (Plain plain) = plain_tree plain
tree_of_spelled (Array base count stride) = Node (inner.Array 0 (Constant count) stride) (OneTree (plain_tree base) NoTree)

-- the leaf scalars, if the first type converts to the second
abbrev pub conversion_of : SpelledType → SpelledType → Option (Scalar × Scalar)
conversion_of from to = conversion (tree_of_spelled from) (tree_of_spelled to)

-- The trees of spelled types in an arena.
use Rattle.std.proofs.Common.{◌≡◌, ℕ, zero, suc, ◌∙◌, List, Some, length, refl, ap}
use Rattle.std.specs.Prelude.{slice_get}
use Rattle.shader_ir.specs.declared.types.ArraySize.TheVariants.{Constant}
use Rattle.shader_ir.specs.declared.types.«Type».{«Type»}
use Rattle.shader_ir.specs.declared.types.TypeInner.{TypeInner}
use Rattle.shader_ir.specs.declared.types.TypeInner.TheVariants as inners
use Rattle.shader_ir.specs.Conversion.{conversion}
use Rattle.shader_ir.specs.TypeTree.{Node, NoTree, OneTree, TypeTree, tree_of, tree_within}
use Rattle.shader_type_text.specs.declared.types.PlainType.{PlainType}
use Rattle.shader_type_text.specs.declared.types.PlainType.TheVariants.{Scalar, Vector, Matrix}
use Rattle.shader_type_text.specs.declared.types.SpelledType.{SpelledType}
use Rattle.shader_type_text.specs.declared.types.SpelledType.TheVariants.{Plain, Array}
use Rattle.shader_type_text.specs.Insertions.{IsInserted, PreservesTypes, unnamed}
use Rattle.shader_type_text.specs.Types.{plain_inner}
use Rattle.shader_type_text.proofs.InsertionLemmas.{stays_inserted}
use Rattle.typer_answers.specs.Conversions.{conversion_of, plain_tree}

no_trees : (depth : ℕ) (types : List «Type») (p : PlainType) → tree_within depth types (plain_inner p) ≡ plain_tree p
unfolding tree_within
no_trees zero types p = refl
no_trees (suc depth) types (Scalar t) = refl
no_trees (suc depth) types (Vector n t) = refl
no_trees (suc depth) types (Matrix c r t) = refl

pub plain_is : (types : List «Type») (p : PlainType) → tree_of types (plain_inner p) ≡ plain_tree p
plain_is types (Scalar t) = refl
plain_is types (Vector n t) = refl
plain_is types (Matrix c r t) = refl

-- the tree of an array over a base at a position
abbrev pub array_tree : ℕ → PlainType → ℕ → ℕ → TypeTree
array_tree position base count stride = Node (inners.Array position (Constant count) stride) (OneTree (plain_tree base) NoTree)

pub array_is : (types : List «Type») (position : ℕ) (base : PlainType) (count stride : ℕ) →
    slice_get types position ≡ Some (unnamed (plain_inner base))
    → tree_of types (inners.Array position (Constant count) stride) ≡ array_tree position base count stride
unfolding tree_within
array_is types position base count stride at = rw (at, no_trees (length types) types base) refl

-- the trees of an inserted type and of the spelled one agree, except for the position of an array's
-- base
inserted_tree : (types : List «Type») (spelled : SpelledType) (i : TypeInner) → IsInserted types spelled i → TypeTree
inserted_tree types (Plain p) i in_arena = plain_tree p
inserted_tree types (Array base count stride) i in_arena = array_tree in_arena.0 base count stride

tree_is : (types : List «Type») (spelled : SpelledType) (i : TypeInner) (in_arena : IsInserted types spelled i) →
    tree_of types i ≡ inserted_tree types spelled i in_arena
unfolding inserted_tree
tree_is types (Plain p) i in_arena = ap (tree_of types) in_arena ∙ plain_is types p
tree_is types (Array base count stride) i in_arena = ap (tree_of types) in_arena.2 ∙ array_is types in_arena.0 base count stride in_arena.1

same_conversion : (types : List «Type») (from to : SpelledType) (a b : TypeInner) (p : IsInserted types from a) (q : IsInserted types to b)
    → conversion (inserted_tree types from a p) (inserted_tree types to b q) ≡ conversion_of from to
unfolding inserted_tree
same_conversion types (Plain p) (Plain q) a b _ _ = refl
same_conversion types (Plain (Scalar t)) (Array base count stride) a b _ _ = refl
same_conversion types (Plain (Vector n t)) (Array base count stride) a b _ _ = refl
same_conversion types (Plain (Matrix c r t)) (Array base count stride) a b _ _ = refl
same_conversion types (Array base count stride) (Plain (Scalar t)) a b _ _ = refl
same_conversion types (Array base count stride) (Plain (Vector n t)) a b _ _ = refl
same_conversion types (Array base count stride) (Plain (Matrix c r t)) a b _ _ = refl
same_conversion types (Array base count stride) (Array goal n bytes) a b _ _ = refl

-- the conversion of two inserted types is that of the spelled ones
pub conversion_is : (old new : List «Type») (from to : SpelledType) (a b : TypeInner) → IsInserted old from a → PreservesTypes old new →
    IsInserted new to b
    → conversion (tree_of new a) (tree_of new b) ≡ conversion_of from to
conversion_is old new from to a b p preserves q =
    let p' = stays_inserted old new from a preserves p in
    ap (λ t. conversion t (tree_of new b)) (tree_is new from a p')
    ∙ ap (conversion (inserted_tree new from a p')) (tree_is new to b q)
    ∙ same_conversion new from to a b p' q

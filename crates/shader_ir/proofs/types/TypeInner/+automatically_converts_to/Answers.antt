use Rattle.std.proofs.Common.{◌∙◌, ap, sym, arith}
use Rattle.shader_ir.specs.TypeTree.{type_handles, tree_of}
use Rattle.shader_ir.specs.Conversion.{conversion}
use Rattle.shader_ir.proofs.ReachLemmas.{falls}
use Rattle.shader_ir.proofs.ConversionLemmas.{conversion-Array, conversion-leaf, conversion-other, conversion-unequal}
use Rattle.shader_ir.proofs.types.TypeInner.+automatically_converts_to.Goals as goal

-- the base comes before the array
pub automatically_converts_to-requires : goal.automatically_converts_to-requires
automatically_converts_to-requires t c =
    let backward = c.requires.backward in
    let from = c.in-Array in
    let to = c.in-Array-goal in
    let less = falls c.args.types.now backward c.args.self.now from.base c.index.result.now (ap type_handles from.is) c.index.ensures in (
      omega arith,
      (
        backward,
        (
          backward.in_range from.base c.index.result.now c.index.ensures,
          backward.in_range to.goal_base c.index-in-Array-goal.result.now c.index-in-Array-goal.ensures,
        ),
      ),
    )

pub returns-then-not-is_equal_size : goal.returns-then-not-is_equal_size
returns-then-not-is_equal_size t c =
    let types = c.args.types.now in
    let from = c.in-Array in
    let to = c.in-Array-goal in
    sym ((λ i. conversion (tree_of types (from.is i)) (tree_of types (to.is i)))
    ∙ conversion-unequal types from.base from.size from.stride to.goal_base to.goal_size to.stride (sym c.is_equal_size.ensures
    ∙ c.if-not-is_equal_size.true))

pub returns-else-not-is_equal_size : goal.returns-else-not-is_equal_size
returns-else-not-is_equal_size t c =
    let types = c.args.types.now in
    let from = c.in-Array in
    let to = c.in-Array-goal in
    let sizes = sym c.is_equal_size.ensures ∙ c.if-not-is_equal_size.false in
    c.automatically_converts_to.ensures
    ∙ sym ((λ i. conversion (tree_of types (from.is i)) (tree_of types (to.is i)))
    ∙ conversion-Array types c.requires.backward from.base from.size from.stride c.index.result.now to.goal_base to.goal_size to.stride
    c.index-in-Array-goal.result.now
    c.index.ensures c.index-in-Array-goal.ensures sizes)

pub returns-in_default-goal : goal.returns-in_default-goal
returns-in_default-goal t c =
    let types = c.args.types.now in
    let from = c.in-Array in
    sym (ap (λ s. conversion (tree_of types s) (tree_of types c.args.goal.now)) from.is
    ∙ conversion-other types from.base from.size from.stride c.args.goal.now c.in_default-goal.not-Array)

pub returns-in_default : goal.returns-in_default
returns-in_default t c =
    c.leaf_converts_to.ensures ∙ sym (conversion-leaf c.args.types.now c.args.self.now c.args.goal.now c.in_default.not-Array)

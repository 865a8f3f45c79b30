use Rattle.std.proofs.Common.{◌∙◌, ap, sym, refl, arith}
use Rattle.shader_ir.specs.declared.types.TypeInner.TheVariants.{Array}
use Rattle.shader_ir.specs.TypeTree.{type_handles, tree_of}
use Rattle.shader_ir.specs.Conversion.{leaf_of}
use Rattle.shader_ir.proofs.ReachLemmas.{falls}
use Rattle.shader_ir.proofs.TypeTreeLemmas.{tree_of-base}
use Rattle.shader_ir.proofs.types.TypeInner.+scalar_for_conversions.Goals as goal

-- the base comes before the array
pub scalar_for_conversions-requires : goal.scalar_for_conversions-requires
scalar_for_conversions-requires t c =
    let backward = c.requires.backward in
    let from = c.in-Array in
    let less = falls c.args.types.now backward c.args.self.now from.base c.index.result.now (ap type_handles from.is) c.index.ensures in
    (omega arith, (backward, backward.in_range from.base c.index.result.now c.index.ensures))

pub returns-in-Array : goal.returns-in-Array
returns-in-Array t c =
    let types = c.args.types.now in
    let from = c.in-Array in
    c.scalar_for_conversions.ensures
    ∙ sym (ap (λ inner. leaf_of (tree_of types inner)) from.is
    ∙ ap leaf_of (tree_of-base types c.requires.backward (Array from.base from.size from.stride) from.base c.index.result.now refl
    c.index.ensures))

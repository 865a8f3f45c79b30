use Rattle.std.proofs.Common.{◌∙◌, ap, sym, refl, arith}
use Rattle.shader_ir.specs.declared.types.TypeInner.TheVariants.{Array}
use Rattle.shader_ir.specs.TypeTree.{type_handles, tree_of}
use Rattle.shader_ir.specs.TreeQueries.{is_abstract}
use Rattle.shader_ir.proofs.ReachLemmas.{falls}
use Rattle.shader_ir.proofs.TypeTreeLemmas.{tree_of-base}
use Rattle.shader_ir.proofs.types.TypeInner.+is_abstract.Goals as goal

-- the base comes before the array
pub is_abstract-requires-in-Array : goal.is_abstract-requires-in-Array
is_abstract-requires-in-Array t c =
    let backward = c.requires.backward in
    let from = c.in-Array in
    let less = falls c.args.types.now backward c.args.self.now from.base c.index.result.now (ap type_handles from.is) c.index.ensures in
    (omega arith, (backward, backward.in_range from.base c.index.result.now c.index.ensures))

pub returns-in-Array : goal.returns-in-Array
returns-in-Array t c =
    let types = c.args.types.now in
    let from = c.in-Array in
    c.is_abstract-in-Array.ensures
    ∙ sym (ap (λ inner. is_abstract (tree_of types inner)) from.is
    ∙ ap is_abstract (tree_of-base types c.requires.backward (Array from.base from.size from.stride) from.base c.index.result.now refl
    c.index.ensures))

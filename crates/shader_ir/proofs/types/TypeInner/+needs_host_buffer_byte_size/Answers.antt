use Rattle.std.proofs.Common.{◌≡◌, ◌∙◌, ◌-◌, ◌<◌, ap, sym, refl, arith, false, Some, option_copied, length, slice_get}
use Rattle.std.proofs.lemmas.Option.{slice_get_within}
use Rattle.shader_ir.specs.declared.types.TypeInner.TheVariants.{BindingArray}
use Rattle.shader_ir.specs.TypeTree.{type_handles, root_of, tree_of}
use Rattle.shader_ir.specs.TreeQueries.{is_runtime_array, ends_in_runtime_array, needs_host_buffer_byte_size}
use Rattle.shader_ir.proofs.MemberLemmas.{last_member}
use Rattle.shader_ir.proofs.ReachLemmas.{falls}
use Rattle.shader_ir.proofs.TypeTreeLemmas.{tree_of-base}
use Rattle.shader_ir.proofs.types.TypeInner.+needs_host_buffer_byte_size.Goals as goal

-- the base comes before the array of bindings
pub needs_host_buffer_byte_size-requires : goal.needs_host_buffer_byte_size-requires
needs_host_buffer_byte_size-requires t c =
    let backward = c.requires.backward in
    let from = c.in-BindingArray in
    let less = falls c.args.types.now backward c.args.self.now from.base c.index-in-BindingArray.result.now (ap type_handles from.is)
    c.index-in-BindingArray.ensures in
    (omega arith, (backward, backward.in_range from.base c.index-in-BindingArray.result.now c.index-in-BindingArray.ensures))

pub returns-in-BindingArray : goal.returns-in-BindingArray
returns-in-BindingArray t c =
    let types = c.args.types.now in
    let from = c.in-BindingArray in
    c.needs_host_buffer_byte_size.ensures
    ∙ sym (ap (λ inner. needs_host_buffer_byte_size (tree_of types inner)) from.is
    ∙ ap needs_host_buffer_byte_size (tree_of-base types c.requires.backward (BindingArray from.base from.size) from.base
    c.index-in-BindingArray.result.now refl c.index-in-BindingArray.ensures))

pub returns-in-Some : goal.returns-in-Some
returns-in-Some t c =
    let types = c.args.types.now in
    let members = c.in-Struct.members in
    let member = c.in-Some.member.now in
    let found : slice_get members (length members - 1) ≡ Some member =
    ap (λ list. slice_get list (length list - 1)) (sym c.as_slice.ensures) ∙ sym c.last.ensures.value ∙ ap option_copied c.in-Some.is in
    let inside : length members - 1 < length members = slice_get_within members (length members - 1) member found in
    c.is_runtime_array-in-Some.ensures
    ∙ sym (ap (λ inner. needs_host_buffer_byte_size (tree_of types inner)) c.in-Struct.is
    ∙ last_member types c.requires.backward ends_in_runtime_array (λ tree. is_runtime_array (root_of tree)) (λ answer. refl)
    (λ answer tree trees. refl)
    members (length members - 1) member c.index.result.now (omega arith) found c.index.ensures false)

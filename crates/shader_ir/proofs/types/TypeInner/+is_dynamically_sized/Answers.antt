use Rattle.std.proofs.Common.{◌≡◌, ◌∙◌, ◌-◌, ◌<◌, ap, sym, refl, arith, false, Some, option_copied, length, slice_get}
use Rattle.std.proofs.lemmas.Option.{slice_get_within}
use Rattle.shader_ir.specs.TypeTree.{tree_of}
use Rattle.shader_ir.specs.TreeQueries.{is_dynamically_sized, is_last_dynamically_sized}
use Rattle.shader_ir.proofs.MemberLemmas.{last_member}
use Rattle.shader_ir.proofs.ReachLemmas.{reach, member_falls}
use Rattle.shader_ir.proofs.types.TypeInner.+is_dynamically_sized.Goals as goal

-- the type of the last member comes before the struct
pub is_dynamically_sized-requires : goal.is_dynamically_sized-requires
is_dynamically_sized-requires t c =
    let backward = c.requires.backward in
    let members = c.in-Struct.members in
    let member = c.in-Some.member.now in
    let found : slice_get members (length members - 1) ≡ Some member =
    ap (λ list. slice_get list (length list - 1)) (sym c.as_slice.ensures) ∙ sym c.last.ensures.value ∙ ap option_copied c.in-Some.is in
    let less = member_falls c.args.types.now backward members c.in-Struct.span (length members - 1) member c.index.result.now found
    c.index.ensures in
    let whole = ap reach c.in-Struct.is in
    (omega arith, (backward, backward.in_range member.ty c.index.result.now c.index.ensures))

pub returns-in-Some : goal.returns-in-Some
returns-in-Some t c =
    let types = c.args.types.now in
    let members = c.in-Struct.members in
    let member = c.in-Some.member.now in
    let found : slice_get members (length members - 1) ≡ Some member =
    ap (λ list. slice_get list (length list - 1)) (sym c.as_slice.ensures) ∙ sym c.last.ensures.value ∙ ap option_copied c.in-Some.is in
    let inside : length members - 1 < length members = slice_get_within members (length members - 1) member found in
    c.is_dynamically_sized.ensures
    ∙ sym (ap (λ inner. is_dynamically_sized (tree_of types inner)) c.in-Struct.is
    ∙ last_member types c.requires.backward is_last_dynamically_sized is_dynamically_sized (λ answer. refl) (λ answer tree trees. refl)
    members (length members - 1) member c.index.result.now (omega arith) found c.index.ensures false)

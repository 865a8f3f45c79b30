use Rattle.std.proofs.Common.{◌≡◌, ◌∙◌, ◌<◌, ◌&&◌, ap, sym, refl, subst, ◌+◌, arith, Bool, true, false, Some, drop, length, slice_get}
use Rattle.std.proofs.lemmas.List.{drop_all}
use Rattle.std.proofs.lemmas.Option.{slice_get_read}
use Rattle.shader_ir.specs.declared.types.TypeInner.TheVariants.{Array}
use Rattle.shader_ir.specs.declared.types.ArraySize.TheVariants.{Constant}
use Rattle.shader_ir.specs.TypeTree.{type_handles, PointsBelow, tree_of}
use Rattle.shader_ir.specs.TreeQueries.{is_constructible, are_constructible}
use Rattle.shader_ir.proofs.MemberLemmas.{member_trees, constructible_from}
use Rattle.shader_ir.proofs.ReachLemmas.{reach, falls, member_below, member_falls}
use Rattle.shader_ir.proofs.TypeTreeLemmas.{tree_of-base}
use Rattle.shader_ir.proofs.types.TypeInner.+is_constructible.Goals as goal

-- the base comes before the array
pub is_constructible-requires : goal.is_constructible-requires
is_constructible-requires t c =
    let backward = c.requires.backward in
    let from = c.in-Array in
    let less = falls c.args.types.now backward c.args.self.now from.base c.index.result.now (ap type_handles from.is) c.index.ensures in
    (omega arith, (backward, backward.in_range from.base c.index.result.now c.index.ensures))

and_true : (b : Bool) → (b && true) ≡ b
and_true true = refl
and_true false = refl

pub returns-in-Constant : goal.returns-in-Constant
returns-in-Constant t c =
    let types = c.args.types.now in
    let from = c.in-Array in
    let whole = from.is ∙ ap (λ size. Array from.base size from.stride) c.in-Constant.is in
    c.is_constructible.ensures
    ∙ sym (ap (λ inner. is_constructible (tree_of types inner)) whole
    ∙ ap is_constructible (tree_of-base types c.requires.backward (Array from.base (Constant c.in-Constant.field-0) from.stride) from.base
    c.index.result.now refl c.index.ensures)
    ∙ and_true (is_constructible (tree_of types c.index.result.now.inner)))

pub index-requires-in-loop-member : goal.index-requires-in-loop-member
index-requires-in-loop-member t c =
    let list = c.as_slice-member-items.result.now in
    let members = c.in-Struct.members in
    let index = c.loop-member.member-index in
    let member = c.member-item.result in
    let inside : index < length list = omega arith in
    let found : slice_get members index ≡ Some member = ap (λ l. slice_get l index) (sym c.as_slice-member-items.ensures)
    ∙ slice_get_read list (length list) index member refl inside c.member-item.is in
    let below = subst (PointsBelow (length c.args.types.now)) c.in-Struct.is c.requires.self_in in
    member_below (length c.args.types.now) members c.in-Struct.span index member below found

-- the types of the members come before the struct
pub is_constructible-requires-in-loop-member : goal.is_constructible-requires-in-loop-member
is_constructible-requires-in-loop-member t c =
    let backward = c.requires.backward in
    let list = c.as_slice-member-items.result.now in
    let members = c.in-Struct.members in
    let index = c.loop-member.member-index in
    let member = c.member-item.result in
    let inside : index < length list = omega arith in
    let found : slice_get members index ≡ Some member = ap (λ l. slice_get l index) (sym c.as_slice-member-items.ensures)
    ∙ slice_get_read list (length list) index member refl inside c.member-item.is in
    let type = c.index-in-loop-member.result.now in
    let less = member_falls c.args.types.now backward members c.in-Struct.span index member type found c.index-in-loop-member.ensures in
    let whole = ap reach c.in-Struct.is in
    (omega arith, (backward, backward.in_range member.ty type c.index-in-loop-member.ensures))

pub loop-member-preserved : goal.loop-member-preserved
loop-member-preserved t c =
    let types = c.args.types.now in
    let list = c.as_slice-member-items.result.now in
    let index = c.loop-member.member-index in
    let rest = are_constructible (member_trees types (drop (index + 1) list)) in
    c.loop-member.invariant
    ∙ constructible_from types c.requires.backward list index c.member-item.result c.index-in-loop-member.result.now (omega arith)
    c.member-item.is c.index-in-loop-member.ensures
    ∙ ap (λ b. b && rest) (sym c.is_constructible-in-loop-member.ensures ∙ c.if-not-is_constructible.false)

pub returns-then-not-is_constructible : goal.returns-then-not-is_constructible
returns-then-not-is_constructible t c =
    let types = c.args.types.now in
    let list = c.as_slice-member-items.result.now in
    let index = c.loop-member.member-index in
    let rest = are_constructible (member_trees types (drop (index + 1) list)) in
    sym (ap (λ inner. is_constructible (tree_of types inner)) c.in-Struct.is
    ∙ ap (λ l. are_constructible (member_trees types l)) (sym c.as_slice-member-items.ensures)
    ∙ c.loop-member.invariant
    ∙ constructible_from types c.requires.backward list index c.member-item.result c.index-in-loop-member.result.now (omega arith)
    c.member-item.is c.index-in-loop-member.ensures
    ∙ ap (λ b. b && rest) (sym c.is_constructible-in-loop-member.ensures ∙ c.if-not-is_constructible.true))

pub returns-after-loop-member : goal.returns-after-loop-member
returns-after-loop-member t c =
    let types = c.args.types.now in
    let list = c.as_slice-member-items.result.now in
    let index = c.loop-member.member-index in
    sym (ap (λ inner. is_constructible (tree_of types inner)) c.in-Struct.is
    ∙ ap (λ l. are_constructible (member_trees types l)) (sym c.as_slice-member-items.ensures)
    ∙ c.loop-member.invariant
    ∙ ap (λ l. are_constructible (member_trees types l)) (drop_all index list (omega arith)))

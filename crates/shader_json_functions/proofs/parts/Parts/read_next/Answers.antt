use Rattle.std.proofs.Common.{◌≡◌, Some, None, refl, subst, sym, arith}
use Rattle.json.specs.Json.{read_key}
use Rattle.json.proofs.Trees.{view-Object}
use Rattle.shader_json_functions.proofs.NextLemmas.{MembersSoFar, all_members, first_read, next_is_shorter, no_member_yet, nothing_yet}
use Rattle.shader_json_functions.proofs.NextLemmas.{other_name, other_read, second_read, turn_is_shorter, value_is_shorter}
use Rattle.shader_json_functions.proofs.parts.Parts.read_next.Goals as goal

pub loop-rest-init : goal.loop-rest-init
loop-rest-init g c =
    subst (MembersSoFar g.A.ReadNext.stands g.B.ReadNext.stands c.args.first_name.now c.args.second_name.now c.in_ok-inside.inside
    c.open_object.new.reader c.open_object.new.reader None None) (sym c.new-rest.ensures.items)
    (no_member_yet g.A.ReadNext.stands g.B.ReadNext.stands c.args.first_name.now c.args.second_name.now c.in_ok-inside.inside
    c.open_object.new.reader)

pub loop-rest-smaller-then-eq : goal.loop-rest-smaller-then-eq
loop-rest-smaller-then-eq g c =
    let k = c.in-Some.name.now in
    let behind = c.next_name.new.reader in
    let key : read_key c.loop-rest.reader ≡ Some (Some k, behind) = grind arith in
    turn_is_shorter c.loop-rest.reader behind c.read_next.new.reader k key
    (next_is_shorter g.A.ReadNext.stands c.in_ok-inside.inside behind c.read_next.new.reader c.in_ok-read_next.field-0
    c.in_ok-read_next.ensures.next)

pub loop-rest-preserved-then-eq : goal.loop-rest-preserved-then-eq
loop-rest-preserved-then-eq g c =
    let k = c.in-Some.name.now in
    let behind = c.next_name.new.reader in
    let key : read_key c.loop-rest.reader ≡ Some (Some k, behind) = grind arith in
    first_read g.A.ReadNext.stands g.B.ReadNext.stands c.args.first_name.now c.args.second_name.now c.in_ok-inside.inside
    c.open_object.new.reader c.loop-rest.reader behind c.read_next.new.reader k c.loop-rest.first c.loop-rest.second c.loop-rest.rest.items
    c.loop-rest.invariant key c.in_ok-read_next.field-0 (nothing_yet c.loop-rest.first c.if-is_some.ensures) c.if-eq.ensures
    (other_name c.args.first_name.now c.args.second_name.now k c.requires c.if-eq.ensures) c.in_ok-read_next.ensures.next

pub loop-rest-smaller-then-eq-2 : goal.loop-rest-smaller-then-eq-2
loop-rest-smaller-then-eq-2 g c =
    let k = c.in-Some.name.now in
    let behind = c.next_name.new.reader in
    let key : read_key c.loop-rest.reader ≡ Some (Some k, behind) = grind arith in
    turn_is_shorter c.loop-rest.reader behind c.read_next-then-eq-2.new.reader k key
    (next_is_shorter g.B.ReadNext.stands c.in_ok-inside.inside behind c.read_next-then-eq-2.new.reader c.in_ok-read_next-2.field-0
    c.in_ok-read_next-2.ensures.next)

pub loop-rest-preserved-then-eq-2 : goal.loop-rest-preserved-then-eq-2
loop-rest-preserved-then-eq-2 g c =
    let k = c.in-Some.name.now in
    let behind = c.next_name.new.reader in
    let key : read_key c.loop-rest.reader ≡ Some (Some k, behind) = grind arith in
    second_read g.A.ReadNext.stands g.B.ReadNext.stands c.args.first_name.now c.args.second_name.now c.in_ok-inside.inside
    c.open_object.new.reader c.loop-rest.reader behind c.read_next-then-eq-2.new.reader k c.loop-rest.first c.loop-rest.second
    c.loop-rest.rest.items c.loop-rest.invariant key c.in_ok-read_next-2.field-0
    (nothing_yet c.loop-rest.second c.if-is_some-2.ensures) c.if-eq.ensures c.if-eq-2.ensures
    c.in_ok-read_next-2.ensures.next

pub loop-rest-smaller : goal.loop-rest-smaller
loop-rest-smaller g c =
    let k = c.in-Some.name.now in
    let behind = c.next_name.new.reader in
    let key : read_key c.loop-rest.reader ≡ Some (Some k, behind) = grind arith in
    turn_is_shorter c.loop-rest.reader behind c.next_value.new.reader k key
    (value_is_shorter c.in_ok-inside.inside c.in_ok-value.value behind c.next_value.new.reader c.in_ok-value.ensures)

pub loop-rest-preserved : goal.loop-rest-preserved
loop-rest-preserved g c =
    let k = c.in-Some.name.now in
    let behind = c.next_name.new.reader in
    let key : read_key c.loop-rest.reader ≡ Some (Some k, behind) = grind arith in
    other_read g.A.ReadNext.stands g.B.ReadNext.stands c.args.first_name.now c.args.second_name.now c.in_ok-inside.inside
    c.open_object.new.reader c.loop-rest.reader behind c.next_value.new.reader k c.loop-rest.first c.loop-rest.second c.loop-rest.rest.items
    c.loop-rest.invariant key (c.in-Some.name, c.in_ok-value.value) c.push.new.self.items refl c.if-eq.ensures c.if-eq-2.ensures
    c.in_ok-value.ensures c.in_ok-push.ensures.items

pub returns : goal.returns
returns g c =
    let rest = c.next_name.new.reader in
    let end : read_key c.loop-rest.reader ≡ Some (None, rest) = grind arith in
    let is_first : c.loop-rest.first ≡ Some c.in-Some-Some.first = grind arith in
    let is_second : c.loop-rest.second ≡ Some c.in-Some-Some.second = grind arith in
    all_members g.A.ReadNext.stands g.B.ReadNext.stands c.args.first_name.now c.args.second_name.now c.in_ok-inside.inside
    c.open_object.new.reader c.args.depth c.args.reader.now c.loop-rest.reader rest c.loop-rest.first c.loop-rest.second
    c.in-Some-Some.first c.in-Some-Some.second c.loop-rest.rest.items _ c.in_ok-inside.ensures c.loop-rest.invariant is_first is_second end
    (view-Object c.loop-rest.rest)

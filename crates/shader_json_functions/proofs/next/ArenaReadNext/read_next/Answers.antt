use Rattle.std.proofs.Common.{◌≡◌, ◌<◌, List, Some, None, arith, length, subst}
use Rattle.json.specs.Json.{after_end_array}
use Rattle.json.specs.Token.{Token}
use Rattle.shader_json_declarations.proofs.ArenaLemmas.{room_left}
use Rattle.shader_json_functions.specs.Next.{IsNext}
use Rattle.shader_json_functions.proofs.NextLemmas.{all_items, few_enough, next_is_shorter, one_more_item}
use Rattle.shader_json_functions.proofs.next.ArenaReadNext.read_next.Goals as goal

pub loop-context-smaller : goal.loop-context-smaller
loop-context-smaller g c =
    let going : (after_end_array c.loop-context.reader ≡ None) × (c.take_end_array.new.self ≡ c.loop-context.reader) = grind arith in
    subst (λ (ts : List Token). length c.read_next.new.reader < length ts) going.1
    (next_is_shorter g.T.ReadNext.stands c.in_ok-inside.inside c.take_end_array.new.self c.read_next.new.reader c.in_ok-item.item
    c.in_ok-item.ensures.next)

pub loop-context-preserved : goal.loop-context-preserved
loop-context-preserved g c =
    let going : (after_end_array c.loop-context.reader ≡ None) × (c.take_end_array.new.self ≡ c.loop-context.reader) = grind arith in
    let read = subst (λ (ts : List Token). IsNext g.T.ReadNext.stands c.in_ok-inside.inside ts c.read_next.new.reader c.in_ok-item.item)
    going.1 c.in_ok-item.ensures.next in
    record {
      so_far = one_more_item g.T.ReadNext.stands c.in_ok-inside.inside c.open_array.new.reader c.loop-context.reader
          c.read_next.new.reader c.loop-context.arena c.in_ok-item.item c.append.new.self c.loop-context.invariant.so_far going.0 read
          c.in_ok-append.ensures.appended;
      few = room_left c.loop-context.arena c.in_ok-item.item c.append.new.self c.in_ok-append.ensures.appended (omega arith);
    }

pub returns : goal.returns
returns g c =
    let end : after_end_array c.loop-context.reader ≡ Some c.take_end_array.new.self = grind arith in
    let all = all_items g.T.ReadNext.stands c.in_ok-inside.inside c.open_array.new.reader c.args.depth c.args.reader.now
    c.loop-context.reader c.take_end_array.new.self c.loop-context.arena c.in_ok-inside.ensures c.loop-context.invariant.so_far end in
    record {
      next = few_enough g.T.ReadNext.stands c.args.depth c.args.reader.now c.take_end_array.new.self c.loop-context.arena
          c.loop-context.invariant.few all;
    }

use Rattle.std.proofs.Common.{◌≡◌, ◌<◌, List, Some, None, arith, length, subst, sym}
use Rattle.json.specs.Json.{after_end_array}
use Rattle.json.specs.Token.{Token}
use Rattle.shader_json_reader.specs.Shapes.{IsList}
use Rattle.shader_json_functions.specs.Next.{IsNext}
use Rattle.shader_json_functions.proofs.NextLemmas.{all_items, next_is_shorter, one_more_item}
use Rattle.shader_json_functions.proofs.next.ItemsReadNext.read_next.Goals as goal

pub loop-context-smaller : goal.loop-context-smaller
loop-context-smaller g c =
    let going : (after_end_array c.loop-context.reader ≡ None) × (c.take_end_array.new.self ≡ c.loop-context.reader) = grind arith in
    subst (λ (ts : List Token). length c.read_next.new.reader < length ts) going.1
    (next_is_shorter g.T.ReadNext.stands c.in_ok-inside.inside c.take_end_array.new.self c.read_next.new.reader c.in_ok-item.item
    c.in_ok-item.ensures.next)

pub loop-context-preserved : goal.loop-context-preserved
loop-context-preserved g c =
    let going : (after_end_array c.loop-context.reader ≡ None) × (c.take_end_array.new.self ≡ c.loop-context.reader) = grind arith in
    let read = subst (λ (ts : List Token). IsNext g.T.ReadNext.stands c.in_ok-inside.inside ts c.read_next.new.reader c.in_ok-item.item)
    going.1 c.in_ok-item.ensures.next in
    one_more_item g.T.ReadNext.stands c.in_ok-inside.inside c.open_array.new.reader c.loop-context.reader c.read_next.new.reader c.loop-context.items.items
    c.in_ok-item.item c.push.new.self.items c.loop-context.invariant going.0 read c.in_ok-push.ensures.items

pub returns : goal.returns
returns g c =
    let end : after_end_array c.loop-context.reader ≡ Some c.take_end_array.new.self = grind arith in
    let all = all_items g.T.ReadNext.stands c.in_ok-inside.inside c.open_array.new.reader c.args.depth c.args.reader.now c.loop-context.reader
    c.take_end_array.new.self c.loop-context.items.items c.in_ok-inside.ensures c.loop-context.invariant end in
    record {
      next = subst (λ (xs : List _). IsNext (IsList g.T.ReadNext.stands) c.args.depth c.args.reader.now c.take_end_array.new.self xs)
          (sym c.from.ensures) all;
    }

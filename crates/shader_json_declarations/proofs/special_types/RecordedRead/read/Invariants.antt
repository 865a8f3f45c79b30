use Rattle.std.proofs.Common.{take}
use Rattle.std.specs.Map.{keys_of}
use Rattle.json.specs.Value.{items_view}
use Rattle.shader_json_reader.specs.Shapes.{AreDistinct, Each}
use Rattle.shader_json_declarations.specs.SpecialTypes.{IsDroppedEntry, IsEntry, recorded, unrecorded}
use Rattle.shader_json_declarations.proofs.special_types.RecordedRead.read.Given as goal

abbrev pub invariant-loop-index : goal.invariant-loop-index
invariant-loop-index l = record {
  entries : Each IsEntry (recorded (items_view (take l.index l.pair-items))) l.types.stored;
  dropped : Each IsDroppedEntry (unrecorded (items_view (take l.index l.pair-items))) l.types.dropped.keys;
  keys : AreDistinct (keys_of l.types.stored);
  scalars : AreDistinct l.types.dropped.keys;
}

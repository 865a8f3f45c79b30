use Rattle.std.proofs.Common.{◌≡◌, ap, arith, length}
use Rattle.shader_typing.proofs.Growing.{entry_can_be_processed}
use Rattle.shader_typing.specs.ModuleRecorded.{Recorded}
use Rattle.shader_uses.proofs.processed.entry_point_of_two.Goals as goal

pub process_function-requires-clause-stored : goal.process_function-requires-clause-stored
process_function-requires-clause-stored c =
    let none : length c.new-info.result.functions ≡ 0 = ap (λ (v : Recorded). length v.functions) c.new-info.ensures in
    let one = c.in_ok-add_next.ensures.one in
    let two = c.in_ok-add_next-2.ensures.one in
    entry_can_be_processed c.args.module.now c.add_next-2.new.self 0 (omega (arith, none, one, two, c.requires.functions))
    c.requires.entry_points c.in_ok-add_next-2.ensures.stored

use Rattle.shader_report_resources.proofs.UsesLemmas.{none_yet, one_more}
use Rattle.shader_report_resources.proofs.entries.uses_of.Goals as goal

pub loop-index-init : goal.loop-index-init
loop-index-init c = none_yet c.args.module.now.entry_points c.args.infos.now.entry_points c.new-uses.result.items c.new-uses.ensures.items

pub loop-index-preserved : goal.loop-index-preserved
loop-index-preserved c =
    one_more c.args.module.now.entry_points c.args.infos.now.entry_points c.loop-index.index c.index-entry.result.now
    c.get_entry_point.result.now c.loop-index.uses.items c.add_uses.new.uses.items c.loop-index.invariant c.index-entry.ensures
    c.get_entry_point.ensures c.in_ok-add_uses.ensures

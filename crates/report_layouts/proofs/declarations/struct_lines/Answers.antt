use Rattle.std.proofs.Common.{◌+◌, drop}
use Rattle.report_layouts.specs.Declarations.{is_open, last_padding}
use Rattle.report_layouts.proofs.LineLemmas.{drop_item, one_more}
use Rattle.report_layouts.proofs.declarations.struct_lines.Goals as goal

pub loop-index-preserved : goal.loop-index-preserved
loop-index-preserved c =
    let m = c.args.module.now in
    let members = c.args.found.now.members.now in
    let index = c.loop-index.index in
    let member = c.index-members-index.result in
    let last = last_padding (is_open m members) c.args.found.now.span in
    one_more c.args.layouts.now m last index c.loop-index.end c.end_of-end.result member (drop index members) (drop (index + 1) members)
    c.loop-index.lines.items c.add_padding.new.lines.items c.push-in-loop-index.new.self.items _ c.in_ok-member_line.field-0
    (drop_item members index member c.loop-index-test.true c.index-members-index.is)
    c.in_ok-add_padding.ensures c.in_ok-push-2.ensures.items c.in_ok-member_line.ensures c.end_of-end.ensures c.loop-index.invariant

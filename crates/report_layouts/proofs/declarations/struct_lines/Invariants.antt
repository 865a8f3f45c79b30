use Rattle.std.proofs.Common.{◌≡◌, ◌++◌, drop}
use Rattle.report_layouts.specs.Declarations.{is_open, last_padding, member_lines, struct_lines}
use Rattle.report_layouts.proofs.declarations.struct_lines.Given as goal

-- the lines so far, and those of the members that are left
abbrev pub invariant-loop-index : goal.invariant-loop-index
invariant-loop-index l =
    let last = last_padding (is_open l.module l.members) l.found.span in
    l.lines.items ++ member_lines l.layouts l.module last l.index l.end (drop l.index l.members)
    ≡ struct_lines l.layouts l.module l.found.ty l.found.name.now l.members l.found.span

use Rattle.std.proofs.Common.{◌≡◌, drop, fold}
use Rattle.shader_ir.specs.Slots.{reads}
use Rattle.shader_ir.proofs.proc.visitor.visit_list.Given as goal

-- the visits made and those left are all
abbrev pub invariant-loop-operand : goal.invariant-loop-operand
invariant-loop-operand g l =
    fold g.V.Visitor.step l.visitor (reads (drop l.operand-index l.operands)) ≡ fold g.V.Visitor.step l.fn.visitor (reads l.operands)

use Rattle.std.proofs.Common.{◌≡◌, ◌≤◌, All, take, length}
use Rattle.shader_ir.specs.Layout.{AreFaultless, AreFirstLayouts, HasStride}
use Rattle.shader_ir.specs.StoredLayouts.{AreLaidOver}
use Rattle.shader_ir.proofs.proc.layouter.Layouter.update_added.Given as goal

-- the layouts computed so far come after those stored before
abbrev pub invariant-loop-position : goal.invariant-loop-position
invariant-loop-position l = record {
  reached : length l.self-inside.layouts ≡ l.position;
  behind : length l.fn.self ≤ l.position;
  strides : All HasStride l.self-inside.layouts;
  retained : take (length l.fn.self) l.self-inside.layouts ≡ l.fn.self;
  added : AreLaidOver l.ctx (length l.fn.self) l.self-inside.layouts;
  faultless : AreFaultless l.ctx (length l.fn.self) (length l.self-inside.layouts);
  laid_out : AreFirstLayouts l.ctx l.fn.self → AreFirstLayouts l.ctx l.self-inside.layouts;
}

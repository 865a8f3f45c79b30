use Rattle.std.proofs.Common.{◌≡◌, ℕ, Some, length, slice_get}
use Rattle.shader_info.specs.Recorded.{SameInfo}
use Rattle.shader_info.specs.declared.info.FunctionInfo.{FunctionInfo}
use Rattle.shader_analysis.proofs.valid.copies.copy_infos.Given as goal

abbrev pub invariant-loop-info : goal.invariant-loop-info
invariant-loop-info l = record {
  as_many : length l.copies.items ≡ l.info-index;
  each : (i : ℕ) (copy info : FunctionInfo) → slice_get l.copies.items i ≡ Some copy → slice_get l.infos i ≡ Some info →
      SameInfo info copy;
}

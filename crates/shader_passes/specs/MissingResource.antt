-- Images and samplers that are no resource.
use Rattle.std.specs.Prelude.{ℕ, List, Option, Some, None, slice_get, fold}
use Rattle.std.specs.Option.{option_or}
use Rattle.shader_analysis_spec.specs.Infos.{Resource, InGlobal, InArgument}
use Rattle.shader_analysis_spec.specs.Pairs.{resource, in_caller, sampled_operands}
use Rattle.shader_analysis_spec.specs.Program.{Function, Expression, Step, Leaf, Call}
use Rattle.shader_info.specs.declared.info.FunctionInfo.{FunctionInfo}
use Rattle.shader_passes.specs.RecordedPairs.{recorded_pairs}

-- the expression to report if there is no resource
abbrev pub missed_of : Option Resource → Option ℕ → Option ℕ
missed_of (Some p) e = None
missed_of None e = e

-- the expression passed for a callee's resource
abbrev pub passed_for : List ℕ → Resource → Option ℕ
passed_for arguments (InGlobal g) = None
passed_for arguments (InArgument i) = slice_get arguments i

-- the first expression without a resource, after those before
abbrev pub operands_missed : Function → Option ℕ → ℕ → Option (ℕ × ℕ) → Option ℕ
operands_missed f o e (Some operands) = option_or (option_or o (missed_of (resource f operands.0) (Some e)))
    (missed_of (resource f operands.1) (Some e))
operands_missed f o e None = o

abbrev pub sample_missed : Function → Option ℕ → ℕ × Expression → Option ℕ
sample_missed f o item = operands_missed f o item.0 (sampled_operands item.1)

abbrev pub pair_missed : Function → List ℕ → Option ℕ → Resource × Resource → Option ℕ
pair_missed f arguments o pair = option_or (option_or o (missed_of (in_caller f arguments pair.0) (passed_for arguments pair.0)))
    (missed_of (in_caller f arguments pair.1) (passed_for arguments pair.1))

abbrev pub call_missed : List FunctionInfo → Function → Option ℕ → Step → Option ℕ
call_missed infos f o (Leaf (Call c arguments result)) = fold (pair_missed f arguments) o (recorded_pairs infos c)
call_missed infos f o _ = o

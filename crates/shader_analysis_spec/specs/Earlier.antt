-- Backward references in a well-formed module.
use Rattle.std.specs.Prelude.{◌≡◌, ℕ, ◌<◌, List, Some, slice_get, length}
use Rattle.std.specs.List.{Contains}
use Rattle.shader_ir.specs.declared.function.EntryPoint.{EntryPoint}
use Rattle.shader_resolve.specs.WellFormed.{IsWellFormed}
use Rattle.shader_analysis_spec.specs.Filters.{HaveEarlierParents}
use Rattle.shader_analysis_spec.specs.Program.{Function, Module, Expression, Label, expression_operands}
use Rattle.shader_analysis_spec.specs.Infos.{IsOrdered, NamesEarlier}

-- the operands of each expression are earlier expressions
abbrev pub PointsBackwards : List Expression → Type 0
PointsBackwards expressions = (e : ℕ) (x : Expression) (o : ℕ × Label) → slice_get expressions e ≡ Some x →
    Contains (expression_operands x) o → o.0 < e

pub record NamesBackwards (m : Module) : Type 0 where
  pub functions : IsOrdered m
  pub entry_points : (i : ℕ) (entry : EntryPoint) → slice_get m.entry_points i ≡ Some entry →
      NamesEarlier (length m.functions) entry.function
  pub expressions : (i : ℕ) (f : Function) → slice_get m.functions i ≡ Some f → PointsBackwards f.expressions
  pub entry_expressions : (i : ℕ) (entry : EntryPoint) → slice_get m.entry_points i ≡ Some entry →
      PointsBackwards entry.function.expressions
  pub global_expressions : PointsBackwards m.global_expressions
  pub filters : HaveEarlierParents m.diagnostic_filters

-- a well-formed module refers to earlier functions and expressions only, as the interprocedural laws require
abbrev pub WellFormedModulesPointBackwards : Type 0
WellFormedModulesPointBackwards = (m : Module) → IsWellFormed m → NamesBackwards m

-- Sources of non-uniform values, i.e. values that differ among invocations, interprocedurally.
use Rattle.std.specs.Prelude.{◌≡◌, ℕ, Bool, true, false, Option, Some, None, slice_get, IsTrue}
use Rattle.std.specs.List.{Contains}
use Rattle.shader_ir.specs.Access.{allows_store}
use Rattle.shader_ir.specs.declared.binding.Binding.{Binding}
use Rattle.shader_ir.specs.declared.binding.Binding.TheVariants as binding
use Rattle.shader_ir.specs.declared.binding.BuiltIn.{BuiltIn}
use Rattle.shader_ir.specs.declared.binding.BuiltIn.TheVariants as built_in
use Rattle.shader_ir.specs.declared.expression.CooperativeData.{CooperativeData}
use Rattle.shader_ir.specs.declared.expression.Expression.TheVariants as form
use Rattle.shader_ir.specs.declared.function.FunctionArgument.{FunctionArgument}
use Rattle.shader_ir.specs.declared.module.GlobalVariable.{GlobalVariable}
use Rattle.shader_ir.specs.declared.types.AddressSpace.{AddressSpace}
use Rattle.shader_ir.specs.declared.types.AddressSpace.TheVariants as space
use Rattle.shader_analysis_spec.specs.Program.{Function, Module, Expression, Label, Leaf, Return, CooperativeStore}
use Rattle.shader_analysis_spec.specs.Program.{simple_operands, expression_operands, statements, IsExpressionAt}
use Rattle.shader_analysis_spec.specs.Calls.{CallPath}

-- e is h, or depends on h through operands
pub data DependsOn (f : Function) : ℕ → ℕ → Type 0 where
  itself : {e : ℕ} → DependsOn f e e
  through : {e h : ℕ} {x : Expression} {o : ℕ × Label} → IsExpressionAt f e x → Contains (expression_operands x) o → DependsOn f o.0 h →
      DependsOn f e h

-- the value of e is a result of f: f returns it, or stores a cooperative matrix by means of it
pub data HasResultValue (f : Function) (e : ℕ) : Type 0 where
  returned : Contains (statements f.body) (Leaf (Return (Some e))) → HasResultValue f e
  stored : {target : ℕ} {tile : CooperativeData} {label : Label} → Contains (statements f.body) (Leaf (CooperativeStore target tile)) →
      Contains (simple_operands (CooperativeStore target tile)) (e, label) → HasResultValue f e

-- true if invocations of one work group may be given different values
abbrev pub built_in_varies : BuiltIn → Bool
built_in_varies built_in.WorkGroupId = false
built_in_varies built_in.WorkGroupSize = false
built_in_varies built_in.NumWorkGroups = false
built_in_varies (built_in.Other case_number) = true

abbrev pub binding_varies : Option Binding → Bool
binding_varies (Some (binding.BuiltIn built_in)) = built_in_varies built_in
binding_varies _ = true

abbrev pub argument_varies : Option FunctionArgument → Bool
argument_varies (Some argument) = binding_varies argument.binding
argument_varies None = true

-- true if values read from the address space vary; a storage buffer varies if it may be written
abbrev pub space_varies : AddressSpace → Bool
space_varies space.Function = true
space_varies space.Private = true
space_varies space.WorkGroup = false
space_varies space.Uniform = false
space_varies (space.Storage access) = allows_store access
space_varies space.Handle = true
space_varies space.Immediate = false
space_varies space.TaskPayload = false
space_varies space.RayPayload = true
space_varies space.IncomingRayPayload = true

abbrev pub global_varies : Option GlobalVariable → Bool
global_varies (Some variable) = space_varies variable.space
global_varies None = false

-- true if the expression is a non-uniform source by its own variant; a CallResult is none
abbrev pub is_source : Module → Function → Expression → Bool
is_source m f (form.FunctionArgument index) = argument_varies (slice_get f.arguments index)
is_source m f (form.GlobalVariable variable) = global_varies (slice_get m.global_variables variable)
is_source m f (form.LocalVariable variable) = true
is_source m f (form.AtomicResult ty comparison) = true
is_source m f form.RayQueryProceedResult = true
is_source m f form.SubgroupBallotResult = true
is_source m f (form.SubgroupOperationResult ty) = true
is_source m f _ = false

-- expression h of f is a non-uniform source
pub record IsSource (m : Module) (f : Function) (h : ℕ) : Type 0 where
  pub expression : Expression
  pub is_there : IsExpressionAt f h expression
  pub source : IsTrue (is_source m f expression)

module _ (m : Module) where
  mutual
    -- expression h of r is an origin of expression e of f
    pub data Origin : Function → ℕ → Function → ℕ → Type 0 where
      source : {f : Function} {e h : ℕ} → DependsOn f e h → IsSource m f h → Origin f e f h
      result : {f : Function} {e k c : ℕ} {d r : Function} {h : ℕ} → DependsOn f e k → IsExpressionAt f k (form.CallResult c) →
          slice_get m.functions c ≡ Some d → ResultOrigin d r h → Origin f e r h

    -- expression h of r is an origin of a result of f
    pub data ResultOrigin : Function → Function → ℕ → Type 0 where
      of_value : {f s r : Function} {e h : ℕ} → CallPath m f s → HasResultValue s e → Origin s e r h → ResultOrigin f r h

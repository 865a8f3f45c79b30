-- Laws on the checks of a function with derivable types.
use Rattle.std.specs.Prelude.{◌↔◌, ℕ, IsOk}
use Rattle.shader_analysis_spec.specs.Derivable.{AreTypes, Derives, function_context}
use Rattle.shader_analysis_spec.specs.Program.{Function, Module, IsExpressionAt}
use Rattle.shader_info.specs.declared.info.FunctionInfo.{FunctionInfo}
use Rattle.shader_ir.specs.declared.expression.Expression.TheVariants.{Access, AccessIndex}
use Rattle.shader_ir.specs.declared.proc.type_resolution.TypeResolution.{TypeResolution}
use Rattle.shader_bounds.specs.Lengths.{AreSizesKnown, base_length}
use Rattle.shader_bounds.specs.Checked.{IsCheckedIndex, IsNoMember}
use Rattle.shader_bounds.specs.Locals.{IsOutOfBoundsType}
use Rattle.shader_bounds.specs.Typed.{Records}
use Rattle.shader_bounds.specs.declared.policies.BoundsCheckPolicies.{BoundsCheckPolicies}
use Rattle.shader_passes.specs.InfoOf.{info_of}

-- the info records the derivable types
abbrev pub RecordsDerived : Module → Function → FunctionInfo → Type 0
RecordsDerived m f info = AreTypes (function_context m f) f.expressions (info_of info).types

-- the checks by the recorded types are those by the derivable types
abbrev pub ChecksAreOfDerived : Type 0
ChecksAreOfDerived = (m : Module) (f : Function) (info : FunctionInfo) (policies : BoundsCheckPolicies) → RecordsDerived m f info →
    ((e : ℕ) → IsCheckedIndex m f (Records info) policies e ↔ IsCheckedIndex m f (Derives (function_context m f) f.expressions) policies e)
    × ((ty : ℕ) → IsOutOfBoundsType m f (Records info) policies ty
    ↔ IsOutOfBoundsType m f (Derives (function_context m f) f.expressions) policies ty)

module _ (m : Module) (f : Function) (info : FunctionInfo) where
  -- the base of each access has a length, except for accesses to members of structs
  pub record HaveLengths : Type 0 where
    pub computed : (e base index : ℕ) (resolution : TypeResolution) → IsExpressionAt f e (Access base index) →
        Records info base resolution →
        IsOk (base_length m resolution)
    pub numbered : (e base index : ℕ) (resolution : TypeResolution) → IsExpressionAt f e (AccessIndex base index) →
        Records info base resolution →
        IsNoMember m.types resolution → IsOk (base_length m resolution)

-- if moreover all sizes are known, each access has a length with which its index can be compared
abbrev pub AccessesHaveLengths : Type 0
AccessesHaveLengths = (m : Module) (f : Function) (info : FunctionInfo) → RecordsDerived m f info → AreSizesKnown m → HaveLengths m f info

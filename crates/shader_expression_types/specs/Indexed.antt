-- Errors of accesses to binding arrays.
use Rattle.std.specs.Prelude.{◌==◌, ℕ, List, Option, Some, None, slice_get, bit_and, if◌then◌else◌}
use Rattle.std.specs.Option.{option_and_then, option_map}
use Rattle.shader_ir.specs.declared.expression.Expression.TheVariants as form
use Rattle.shader_ir.specs.declared.proc.type_resolution.TypeResolution.{TypeResolution}
use Rattle.shader_ir.specs.declared.types.«Type».{«Type»}
use Rattle.shader_ir.specs.declared.types.TypeInner.{TypeInner}
use Rattle.shader_ir.specs.declared.types.TypeInner.TheVariants as type
use Rattle.shader_ir.specs.Key.{found_inner, inner_of}
use Rattle.shader_analysis_spec.specs.Faults.{Capability, element_capability}
use Rattle.shader_analysis_spec.specs.Program.{Expression}
use Rattle.shader_info.specs.declared.error.ExpressionError.{ExpressionError}
use Rattle.shader_info.specs.declared.error.ExpressionError.TheVariants as expression
use Rattle.shader_info.specs.declared.flags.Capabilities.{Capabilities}
use Rattle.shader_passes.specs.Causes.{number_of}
use Rattle.shader_passes.specs.Facts.{Fact}
use Rattle.shader_passes.specs.Facts.{origin_at}

abbrev pub alone : Capability → Capabilities
alone capability = record { 0 = number_of capability }

-- the capability that is needed to index a binding array of these elements by an index that differs among invocations, if there is one
abbrev pub needed_for : Option TypeInner → Option Capabilities
needed_for element = option_map alone (element_capability element)

module _ (capabilities : Capabilities) where
  -- the error for an index with this origin, if it has one, into elements that need this capability
  abbrev pub index_refusal : Option ℕ → Option Capabilities → Option ExpressionError
  index_refusal origin None = Some expression.BindingArrayElement
  index_refusal None (Some needed) = None
  index_refusal (Some source) (Some needed) = if bit_and capabilities.0 needed.0 == needed.0 then None else Some
      (expression.MissingCapabilities needed)

  -- the error for indexing a base of this type, if it is a binding array
  abbrev pub base_refusal : List «Type» → Option ℕ → Option TypeInner → Option ExpressionError
  base_refusal types origin (Some (type.BindingArray element size)) =
      index_refusal origin (needed_for (found_inner (slice_get types element)))
  base_refusal types origin _ = None

  -- the error for an expression, by the types and the origins of those before it
  abbrev pub access_refusal : List «Type» → List Fact → List TypeResolution → Expression → Option ExpressionError
  access_refusal types facts stored (form.Access base index) =
      base_refusal types (origin_at facts index) (option_and_then (inner_of types) (slice_get stored base))
  access_refusal types facts stored _ = None

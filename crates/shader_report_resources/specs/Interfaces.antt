-- What entry points take and return, as JSON.
use Rattle.std.specs.Prelude.{ℕ, List, [], ◌∷◌, ◌++◌, Option, Some, None, codes, flat_map, slice_get}
use Rattle.std.specs.List.{enumerate_from}
use Rattle.json.specs.Json.{Json}
use Rattle.json.specs.Token.{Token, begin_object, end_object}
use Rattle.shader_interface.specs.Interface.{argument_binding_at, blend_source_of, builtin_of, interpolation_of, location_of}
use Rattle.shader_interface.specs.Interface.{member_binding_at, result_binding_at, sampling_of}
use Rattle.shader_ir.specs.declared.«module».Module.{Module}
use Rattle.shader_ir.specs.declared.function.Function.{Function}
use Rattle.shader_ir.specs.declared.function.FunctionArgument.{FunctionArgument}
use Rattle.shader_ir.specs.declared.function.FunctionResult.{FunctionResult}
use Rattle.shader_ir.specs.declared.types.«Type».{«Type»}
use Rattle.shader_ir.specs.declared.types.StructMember.{StructMember}
use Rattle.shader_ir.specs.declared.types.TypeInner.{TypeInner}
use Rattle.shader_ir.specs.declared.types.TypeInner.TheVariants.{Struct}
use Rattle.shader_report_resources.specs.Tables.{type_members}
use Rattle.shader_report_resources.specs.Written.{number_member, text_member}

-- where a location is shared, and how its value is interpolated
unfoldable pub location_members : Option Json → List Token
location_members binding =
    number_member (codes "location") (location_of binding) ++ (number_member (codes "blend_src") (blend_source_of binding)
    ++ (text_member (codes "interpolation") (interpolation_of binding) ++ text_member (codes "sampling") (sampling_of binding)))

-- a value that is bound
unfoldable pub value_tokens : Module → Option (List ℕ) → ℕ → Option Json → List Token
value_tokens m name ty binding =
    begin_object ∷ (text_member (codes "name") name ++ (type_members m ty
    ++ (text_member (codes "builtin") (builtin_of binding) ++ (location_members binding ++ end_object ∷ []))))

module _ (j : Json) (m : Module) where
  abbrev pub member_value : ℕ → ℕ × StructMember → List Token
  member_value ty entry = value_tokens m entry.1.name entry.1.ty (member_binding_at j ty entry.0)

  -- a struct is bound member by member
  abbrev pub bound_tokens : Option (List ℕ) → ℕ → Option Json → Option «Type» → List Token
  bound_tokens name ty binding None = value_tokens m name ty binding
  bound_tokens name ty binding (Some type) = by_inner type.inner
    where
      by_inner : TypeInner → List Token
      by_inner (Struct span members) = flat_map (member_value ty) (enumerate_from 0 members)
      by_inner _ = value_tokens m name ty binding

  -- an argument
  abbrev pub input_tokens : ℕ → ℕ × FunctionArgument → List Token
  input_tokens place entry =
      bound_tokens entry.1.name entry.1.ty (argument_binding_at j place entry.0) (slice_get m.types entry.1.ty)

  -- the arguments of the entry point at a place
  abbrev pub inputs_tokens : ℕ → Function → List Token
  inputs_tokens place function = flat_map (input_tokens place) (enumerate_from 0 function.arguments)

  abbrev pub outputs_of : ℕ → Option FunctionResult → List Token
  outputs_of place None = []
  outputs_of place (Some result) = bound_tokens None result.ty (result_binding_at j place) (slice_get m.types result.ty)

  -- the result of the entry point at a place
  abbrev pub outputs_tokens : ℕ → Function → List Token
  outputs_tokens place function = outputs_of place function.result

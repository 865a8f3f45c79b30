-- What entry points take and return, as text for people.
use Rattle.std.specs.Prelude.{ℕ, List, [], ◌∷◌, ◌++◌, Option, Some, None, codes, flat_map, map, slice_get}
use Rattle.std.specs.Fmt.{decimal}
use Rattle.std.specs.List.{enumerate_from}
use Rattle.json.specs.Json.{Json}
use Rattle.report_columns.specs.Columns.{Row, row}
use Rattle.report_names.specs.Items.{item_text}
use Rattle.report_names.specs.Types.{type_text}
use Rattle.report_names.specs.declared.items.ItemKind.{ItemKind}
use Rattle.report_names.specs.declared.items.ItemKind.TheVariants as kinds
use Rattle.shader_interface.specs.Interface.{argument_binding_at, blend_source_of, builtin_of, interpolation_of, location_of}
use Rattle.shader_interface.specs.Interface.{member_binding_at, result_binding_at, sampling_of}
use Rattle.shader_ir.specs.declared.«module».Module.{Module}
use Rattle.shader_ir.specs.declared.function.Function.{Function}
use Rattle.shader_ir.specs.declared.function.FunctionArgument.{FunctionArgument}
use Rattle.shader_ir.specs.declared.function.FunctionResult.{FunctionResult}
use Rattle.shader_ir.specs.declared.types.«Type».{«Type»}
use Rattle.shader_ir.specs.declared.types.StructMember.{StructMember}
use Rattle.shader_ir.specs.declared.types.TypeInner.{TypeInner}
use Rattle.shader_ir.specs.declared.types.TypeInner.TheVariants.{Struct}
use Rattle.shader_report_resources.specs.Builtins.{builtin_text, flow_text}

-- ---- bindings

abbrev pub builtin_words : Option (List ℕ) → List ℕ
builtin_words (Some builtin) = codes "@builtin(" ++ (builtin_text builtin ++ codes ") ")
builtin_words None = []

abbrev pub number_words : List ℕ → Option ℕ → List ℕ
number_words attribute (Some number) = codes "@" ++ (attribute ++ (codes "(" ++ (decimal number ++ codes ") ")))
number_words attribute None = []

-- attributes, each with a blank behind it
unfoldable pub attribute_words : Option Json → List ℕ
attribute_words binding =
    builtin_words (builtin_of binding) ++ (number_words (codes "location") (location_of binding)
    ++ number_words (codes "blend_src") (blend_source_of binding))

-- how and where in a pixel a value is interpolated
abbrev pub flow_words : Option (List ℕ) → Option (List ℕ) → List ℕ
flow_words (Some interpolation) (Some sampling) = flow_text interpolation ++ (codes ", " ++ flow_text sampling)
flow_words (Some interpolation) None = flow_text interpolation
flow_words None (Some sampling) = flow_text sampling
flow_words None None = []

-- ---- values

abbrev pub name_part : ItemKind → Option (List ℕ) → ℕ → List ℕ
name_part kind name position = item_text kind name position ++ codes ": "

-- the way, how a value is bound, its name and its type; then how it is interpolated
unfoldable pub value_row : Module → List ℕ → List ℕ → ℕ → Option Json → Row
value_row m way name ty binding =
    row (way ++ (codes " " ++ (attribute_words binding ++ (name ++ type_text m 4 ty))))
    (flow_words (interpolation_of binding) (sampling_of binding))

module _ (j : Json) (m : Module) where
  abbrev pub member_row : List ℕ → ℕ → ℕ × StructMember → Row
  member_row way ty entry = value_row m way (name_part kinds.Member entry.1.name entry.0) entry.1.ty (member_binding_at j ty entry.0)

  -- a struct is bound member by member
  abbrev pub bound_rows : List ℕ → List ℕ → ℕ → Option Json → Option «Type» → List Row
  bound_rows way name ty binding None = value_row m way name ty binding ∷ []
  bound_rows way name ty binding (Some type) = by_inner type.inner
    where
      by_inner : TypeInner → List Row
      by_inner (Struct span members) = map (member_row way ty) (enumerate_from 0 members)
      by_inner _ = value_row m way name ty binding ∷ []

  module _ (place : ℕ) where
    -- an argument of the entry point at a place
    abbrev pub input_rows : ℕ × FunctionArgument → List Row
    input_rows entry = bound_rows (codes "in ") (name_part kinds.Argument entry.1.name entry.0) entry.1.ty
        (argument_binding_at j place entry.0) (slice_get m.types entry.1.ty)

    abbrev pub inputs_rows : List FunctionArgument → List Row
    inputs_rows arguments = flat_map input_rows (enumerate_from 0 arguments)

    -- the result, which has no name
    abbrev pub output_rows : Option FunctionResult → List Row
    output_rows None = []
    output_rows (Some result) =
        bound_rows (codes "out") [] result.ty (result_binding_at j place) (slice_get m.types result.ty)

    -- a line for each input, and for each output
    abbrev pub value_rows : Function → List Row
    value_rows function = inputs_rows function.arguments ++ output_rows function.result

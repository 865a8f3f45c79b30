-- Modules in JSON.
use Rattle.std.specs.Prelude.{◌≡◌, ℕ, List, MatchOption, Some, codes}
use Rattle.std.specs.Str.{IsUtf8}
use Rattle.json.specs.Json.{Json, Members, document}
use Rattle.shader_ir.specs.declared.module.Module.{Module}
use Rattle.shader_json_reader.specs.Errors.{IsAccurate, IsOfModule}
use Rattle.shader_json_reader.specs.Shapes.{IsObject, IsList, HasField}
use Rattle.shader_json_reader.specs.declared.error.ReadError.{ReadError}
use Rattle.shader_json_declarations.specs.Arenas.{IsArena}
use Rattle.shader_json_declarations.specs.Declarations.{IsConstant, IsGlobal, IsOverride}
use Rattle.shader_json_declarations.specs.Filters.{IsFilterNode}
use Rattle.shader_json_declarations.specs.SpecialTypes.{AreSpecialTypes}
use Rattle.shader_json_declarations.specs.Types.{AreTypes}
use Rattle.shader_json_expressions.specs.Expressions.{IsExpression}
use Rattle.shader_json_functions.specs.Functions.{IsEntryPoint, IsFunction}

abbrev pub HasDeclarations : Members → Module → Type 0
HasDeclarations ms m =
    HasField AreSpecialTypes (codes "special_types") ms m.special_types × HasField (IsArena IsConstant) (codes "constants") ms m.constants
    × HasField (IsArena IsOverride) (codes "overrides") ms m.overrides
    × HasField (IsArena IsGlobal) (codes "global_variables") ms m.global_variables
    × HasField (IsArena IsFilterNode) (codes "diagnostic_filters") ms m.diagnostic_filters

abbrev pub HasCode : Members → Module → Type 0
HasCode ms m =
    HasField AreTypes (codes "types") ms m.types
    × HasField (IsArena IsExpression) (codes "global_expressions") ms m.global_expressions
    × HasField (IsArena IsFunction) (codes "functions") ms m.functions
    × HasField (IsList IsEntryPoint) (codes "entry_points") ms m.entry_points

-- what a module has beside its functions and entry points
abbrev pub HasBesideCode : Members → Module → Type 0
HasBesideCode ms m =
    HasField AreTypes (codes "types") ms m.types
    × HasField (IsArena IsExpression) (codes "global_expressions") ms m.global_expressions
    × HasField AreSpecialTypes (codes "special_types") ms m.special_types × HasField (IsArena IsConstant) (codes "constants") ms m.constants
    × HasField (IsArena IsOverride) (codes "overrides") ms m.overrides
    × HasField (IsArena IsGlobal) (codes "global_variables") ms m.global_variables
    × HasField (IsArena IsFilterNode) (codes "diagnostic_filters") ms m.diagnostic_filters

-- the value stands for the module
abbrev pub IsModule : Json → Module → Type 0
IsModule j m = IsObject j (λ ms. HasCode ms m × HasDeclarations ms m)

-- the text is JSON, and its value stands for the module
abbrev pub IsTextOf : List ℕ → Module → Type 0
IsTextOf text m = MatchOption (document text) ⊥ (λ j. IsModule j m)

-- the consequence of an error for a value: each text that spells the value is JSON, and it stands for no module
pub record IsOfValue (j : Json) (error : ReadError) : Type 0 where
  pub accurate : (text : List ℕ) → IsUtf8 text → document text ≡ Some j → IsAccurate text error
  pub no_module : IsOfModule error → (m : Module) → IsModule j m → ⊥

-- the consequence of an error for a text: the text is too long, is no JSON, nests too deep, or stands for no module
pub record IsErrorOf (text : List ℕ) (error : ReadError) : Type 0 where
  pub accurate : IsAccurate text error
  pub no_module : IsOfModule error → (m : Module) → IsTextOf text m → ⊥

-- Modules whose functions and entry points are read apart from the rest of their JSON.
use Rattle.std.proofs.Common.{◌≡◌, ◌∙◌, ap, refl, sym, subst, ℕ, List, [], false, Option, ◌||◌}
use Rattle.std.specs.Prelude.{MatchOption, codes, option_and_then}
use Rattle.std.specs.Str.{IsUtf8, bytes_eq}
use Rattle.json.specs.Json.{Json, Members, if_last, max_depth, object}
use Rattle.json.specs.Lex.{tokens}
use Rattle.json.specs.Token.{Token}
use Rattle.shader_ir.specs.declared.module.Module.{Module}
use Rattle.shader_json_declarations.specs.Arenas.{IsArena}
use Rattle.shader_json_declarations.specs.Declarations.{IsConstant, IsGlobal, IsOverride}
use Rattle.shader_json_declarations.specs.Filters.{IsFilterNode}
use Rattle.shader_json_declarations.specs.SpecialTypes.{AreSpecialTypes}
use Rattle.shader_json_declarations.specs.Types.{AreTypes}
use Rattle.shader_json_expressions.specs.Expressions.{IsExpression}
use Rattle.shader_json_functions.specs.Functions.{IsEntryPoint, IsFunction}
use Rattle.shader_json_functions.specs.Next.{AreParts}
use Rattle.shader_json_functions.proofs.PartsLemmas.{same_members, still_has}
use Rattle.shader_json_reader.specs.Shapes.{HasField, IsList, Reading}
use Rattle.shader_json_module.specs.Modules.{HasBesideCode, IsModule, IsTextOf}
use Rattle.shader_json_module.specs.Parts.{AreModuleParts, IsNextModule, beside_code}

has : {A : Type 0} (R : Reading A) (name : List ℕ) (ms : Members) (x : A)
    → (bytes_eq name (codes "functions") || bytes_eq name (codes "entry_points")) ≡ false → HasField R name (beside_code ms) x
    → HasField R name ms x
has R name ms x apart field = still_has (codes "functions") (codes "entry_points") R name ms x apart field

pub next_module : (now rest : List Token) (left : Json) (others : Members) (m : Module)
    → AreParts (IsArena IsFunction) (IsList IsEntryPoint) (codes "functions") (codes "entry_points") max_depth now rest m.functions
    m.entry_points left
    → left ≡ object others → HasBesideCode others m → IsNextModule now rest m left
next_module now rest left others m parts is beside =
    let ms = parts.ms in
    let same : others ≡ beside_code ms = same_members _ _ (sym is ∙ parts.left) in
    let all : HasBesideCode (beside_code ms) m = subst (λ ns. HasBesideCode ns m) same beside in
    record {
      ms = ms;
      next = parts.next;
      stands = (
        (
          has AreTypes (codes "types") ms m.types refl all.0,
          has (IsArena IsExpression) (codes "global_expressions") ms m.global_expressions refl all.1,
          parts.has_first,
          parts.has_second,
        ),
        (
          has AreSpecialTypes (codes "special_types") ms m.special_types refl all.2,
          has (IsArena IsConstant) (codes "constants") ms m.constants refl all.3,
          has (IsArena IsOverride) (codes "overrides") ms m.overrides refl all.4,
          has (IsArena IsGlobal) (codes "global_variables") ms m.global_variables refl all.5,
          has (IsArena IsFilterNode) (codes "diagnostic_filters") ms m.diagnostic_filters refl all.6,
        ),
      );
      beside = parts.left;
    }

-- a text of which nothing is left behind the module
pub parts_of_text : (text : List ℕ) (rest : List Token) (m : Module) (left : Json) → IsUtf8 text → IsNextModule (tokens text) rest m left
    → rest ≡ [] → AreModuleParts text m left
parts_of_text text rest m left utf8 is end = record {
  utf8 = utf8;
  ms = is.ms;
  parses = ap (option_and_then (λ p. if_last p.0 p.1)) is.next ∙ ap (if_last (object is.ms)) end;
  stands = is.stands;
  beside = is.beside;
}

-- what a text stands for whose parts are read
pub text_of_parts : (text : List ℕ) (m : Module) (left : Json) → AreModuleParts text m left → IsTextOf text m
text_of_parts text m left parts = subst (λ (found : Option Json). MatchOption found ⊥ (λ j. IsModule j m)) (sym parts.parses) parts.stands

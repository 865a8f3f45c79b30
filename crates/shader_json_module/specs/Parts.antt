-- Modules whose functions and entry points are read apart from the rest of their JSON.
use Rattle.std.specs.Prelude.{◌≡◌, ℕ, List, Some, codes}
use Rattle.std.specs.Str.{IsUtf8}
use Rattle.json.specs.Json.{Json, Members, document, max_depth, object, value}
use Rattle.json.specs.Token.{Token}
use Rattle.shader_ir.specs.declared.module.Module.{Module}
use Rattle.shader_json_functions.specs.Next.{without}
use Rattle.shader_json_module.specs.Modules.{IsModule}

-- the members of a module's JSON but for its functions and entry points
abbrev pub beside_code : Members → Members
beside_code ms = without (codes "functions") (codes "entry_points") ms

-- the next value of the tokens stands for the module, and its JSON without functions and entry points is left
pub record IsNextModule (tokens rest : List Token) (m : Module) (left : Json) : Type 0 where
  pub ms : Members
  pub next : value max_depth tokens ≡ Some (object ms, rest)
  pub stands : IsModule (object ms) m
  pub beside : left ≡ object (beside_code ms)

-- the text stands for the module, and its JSON without functions and entry points is left
pub record AreModuleParts (text : List ℕ) (m : Module) (left : Json) : Type 0 where
  pub utf8 : IsUtf8 text
  pub ms : Members
  pub parses : document text ≡ Some (object ms)
  pub stands : IsModule (object ms) m
  pub beside : left ≡ object (beside_code ms)

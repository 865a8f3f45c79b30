-- Diagnostic filters in the JSON of modules.
use Rattle.std.specs.Prelude.{◌≡◌, ◌⊎◌, ℕ, List, Option, IsSome, codes}
use Rattle.json.specs.Find.{as_str}
use Rattle.json.specs.Json.{Json, string}
use Rattle.shader_ir.specs.declared.module.DiagnosticFilterNode.{DiagnosticFilterNode}
use Rattle.shader_ir.specs.declared.module.DiagnosticRule.{DiagnosticRule}
use Rattle.shader_ir.specs.declared.module.DiagnosticRule.TheVariants as diagnostics
use Rattle.shader_ir.specs.declared.module.Severity.{Severity}
use Rattle.shader_json_reader.specs.Numbers.{IsHandle}
use Rattle.shader_json_reader.specs.Shapes.{IsArray, IsObject, IsPair, IsVariant, IsNewtype, IsOnly, HasField, MayHaveField, values_of}
use Rattle.shader_json_declarations.specs.Names.{severity_name}

abbrev pub IsSeverity : Json → Severity → Type 0
IsSeverity j severity = j ≡ string (severity_name severity)

-- a rule that the language defines
abbrev pub IsStandardRule : Json → DiagnosticRule → Type 0
IsStandardRule j diagnostics.DerivativeUniformity = j ≡ string (codes "DerivativeUniformity")
IsStandardRule j diagnostics.Other = ⊥

-- any text
abbrev pub IsAnyText : Json → Type 0
IsAnyText j = IsSome (as_str j)

-- a rule of users has two names
abbrev pub IsUserRule : Json → Type 0
IsUserRule j = IsArray j (IsPair (λ first second. IsAnyText first × IsAnyText second))

-- Rules that the language doesn't define, of users or unknown ones, are one here.
abbrev pub IsRuleOf : List ℕ → Option Json → DiagnosticRule → Type 0
IsRuleOf name payload diagnostics.DerivativeUniformity =
    IsNewtype (codes "Standard") name payload (λ j. IsStandardRule j diagnostics.DerivativeUniformity)
IsRuleOf name payload diagnostics.Other =
    IsNewtype (codes "Unknown") name payload IsAnyText ⊎ IsNewtype (codes "User") name payload IsUserRule

abbrev pub IsRule : Json → DiagnosticRule → Type 0
IsRule j rule = IsVariant j (λ name payload. IsRuleOf name payload rule)

-- a filter without its parent
abbrev pub IsFilter : Json → Severity → DiagnosticRule → Type 0
IsFilter j severity rule =
    IsObject j (λ ms. HasField IsSeverity (codes "new_severity") ms severity × HasField IsRule (codes "triggering_rule") ms rule)

abbrev pub IsFilterNode : Json → DiagnosticFilterNode → Type 0
IsFilterNode j node =
    IsObject j (λ ms. IsOnly (λ inner. IsFilter inner node.severity node.rule) (values_of (codes "inner") ms)
    × MayHaveField IsHandle (codes "parent") ms node.parent)

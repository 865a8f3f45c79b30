-- Functions and entry points in the JSON of modules.
use Rattle.std.specs.Prelude.{codes}
use Rattle.json.specs.Json.{Json, Members}
use Rattle.shader_ir.specs.declared.function.EntryPoint.{EntryPoint}
use Rattle.shader_ir.specs.declared.function.Function.{Function}
use Rattle.shader_json_reader.specs.Numbers.{IsHandle, IsText, IsU32}
use Rattle.shader_json_reader.specs.Shapes.{IsObject, IsList, IsNullable, IsTriple, HasField, MayHave, MayHaveField}
use Rattle.shader_json_declarations.specs.Arenas.{IsArena}
use Rattle.shader_json_declarations.specs.Declarations.{IsArgument, IsLocal, IsResult, IsStage}
use Rattle.shader_json_declarations.specs.NamedExpressions.{AreNamedExpressions}
use Rattle.shader_json_expressions.specs.Expressions.{IsExpression}
use Rattle.shader_json_functions.specs.Statements.{IsBlock}

-- what a function has beside its code
abbrev pub HasSignature : Members → Function → Type 0
HasSignature ms f =
    MayHaveField IsText (codes "name") ms f.name × HasField (IsList IsArgument) (codes "arguments") ms f.arguments
    × MayHaveField IsResult (codes "result") ms f.result × HasField (IsArena IsLocal) (codes "local_variables") ms f.local_variables
    × MayHaveField IsHandle (codes "diagnostic_filter_leaf") ms f.diagnostic_filter_leaf
    × HasField AreNamedExpressions (codes "named_expressions") ms f.named_expressions

abbrev pub HasFunction : Members → Function → Type 0
HasFunction ms f =
    HasField (IsArena IsExpression) (codes "expressions") ms f.expressions × HasField IsBlock (codes "body") ms f.body
    × MayHaveField IsText (codes "name") ms f.name × HasField (IsList IsArgument) (codes "arguments") ms f.arguments
    × MayHaveField IsResult (codes "result") ms f.result × HasField (IsArena IsLocal) (codes "local_variables") ms f.local_variables
    × MayHaveField IsHandle (codes "diagnostic_filter_leaf") ms f.diagnostic_filter_leaf
    × HasField AreNamedExpressions (codes "named_expressions") ms f.named_expressions

abbrev pub IsFunction : Json → Function → Type 0
IsFunction j f = IsObject j (λ ms. HasFunction ms f)

-- the size of an entry point's work groups, and the expressions that give it instead, which the IR lacks
abbrev pub HasWorkgroupSize : Members → Type 0
HasWorkgroupSize ms =
    MayHave (IsTriple IsU32) (codes "workgroup_size") ms
    × MayHave (IsTriple (IsNullable IsHandle)) (codes "workgroup_size_overrides") ms

abbrev pub IsEntryPoint : Json → EntryPoint → Type 0
IsEntryPoint j e =
    IsObject j (λ ms. HasField IsFunction (codes "function") ms e.function × HasField IsText (codes "name") ms e.name
    × HasField IsStage (codes "stage") ms e.stage × HasWorkgroupSize ms)

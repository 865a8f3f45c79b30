-- Constants, overrides, variables, arguments and results in the JSON of modules.
use Rattle.std.specs.Prelude.{◌≡◌, codes}
use Rattle.json.specs.Json.{Json, string}
use Rattle.shader_ir.specs.declared.function.FunctionArgument.{FunctionArgument}
use Rattle.shader_ir.specs.declared.function.FunctionResult.{FunctionResult}
use Rattle.shader_ir.specs.declared.function.LocalVariable.{LocalVariable}
use Rattle.shader_ir.specs.declared.function.ShaderStage.{ShaderStage}
use Rattle.shader_ir.specs.declared.module.Constant.{Constant}
use Rattle.shader_ir.specs.declared.module.GlobalVariable.{GlobalVariable}
use Rattle.shader_ir.specs.declared.module.Override.{Override}
use Rattle.shader_json_reader.specs.Numbers.{IsHandle, IsText, IsU16}
use Rattle.shader_json_reader.specs.Shapes.{IsObject, HasField, MayHave, MayHaveField}
use Rattle.shader_json_declarations.specs.Interface.{IsResourceBinding}
use Rattle.shader_json_declarations.specs.Names.{stage_name}
use Rattle.shader_json_declarations.specs.Types.{IsBinding, IsSpace}

abbrev pub IsConstant : Json → Constant → Type 0
IsConstant j c =
    IsObject j (λ ms. MayHaveField IsText (codes "name") ms c.name × HasField IsHandle (codes "ty") ms c.ty
    × HasField IsHandle (codes "init") ms c.init)

abbrev pub IsOverride : Json → Override → Type 0
IsOverride j o =
    IsObject j (λ ms. MayHaveField IsText (codes "name") ms o.name × HasField IsHandle (codes "ty") ms o.ty
    × MayHaveField IsHandle (codes "init") ms o.init × MayHave IsU16 (codes "id") ms)

abbrev pub IsGlobal : Json → GlobalVariable → Type 0
IsGlobal j v =
    IsObject j (λ ms. MayHaveField IsText (codes "name") ms v.name × HasField IsSpace (codes "space") ms v.space
    × HasField IsHandle (codes "ty") ms v.ty × MayHaveField IsHandle (codes "init") ms v.init
    × MayHave IsResourceBinding (codes "binding") ms)

abbrev pub IsArgument : Json → FunctionArgument → Type 0
IsArgument j a =
    IsObject j (λ ms. MayHaveField IsText (codes "name") ms a.name × HasField IsHandle (codes "ty") ms a.ty
    × MayHaveField IsBinding (codes "binding") ms a.binding)

abbrev pub IsResult : Json → FunctionResult → Type 0
IsResult j r = IsObject j (λ ms. HasField IsHandle (codes "ty") ms r.ty × MayHaveField IsBinding (codes "binding") ms r.binding)

abbrev pub IsLocal : Json → LocalVariable → Type 0
IsLocal j v =
    IsObject j (λ ms. MayHaveField IsText (codes "name") ms v.name × HasField IsHandle (codes "ty") ms v.ty
    × MayHaveField IsHandle (codes "init") ms v.init)

abbrev pub IsStage : Json → ShaderStage → Type 0
IsStage j stage = j ≡ string (stage_name stage)

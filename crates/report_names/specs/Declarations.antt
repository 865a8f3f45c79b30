-- Global variables as WGSL declares them.
use Rattle.std.specs.Prelude.{◌++◌, ℕ, List, [], codes}
use Rattle.shader_ir.specs.declared.«module».GlobalVariable.{GlobalVariable}
use Rattle.shader_ir.specs.declared.«module».Module.{Module}
use Rattle.shader_ir.specs.declared.types.AddressSpace.{AddressSpace}
use Rattle.shader_ir.specs.declared.types.AddressSpace.TheVariants as spaces
use Rattle.report_names.specs.Images.{access_word}
use Rattle.report_names.specs.Items.{item_text}
use Rattle.report_names.specs.Types.{space_word, type_text}
use Rattle.report_names.specs.declared.items.ItemKind.TheVariants as kinds

-- the address space in brackets, with the access mode of a storage buffer; handles have none
abbrev pub space_part : AddressSpace → List ℕ
space_part spaces.Handle = []
space_part (spaces.Storage access) = codes "<storage, " ++ (access_word access ++ codes ">")
space_part space = codes "<" ++ (space_word space ++ codes ">")

abbrev pub declaration_text : Module → GlobalVariable → ℕ → List ℕ
declaration_text m variable i =
    codes "var" ++ (space_part variable.space ++ (codes " " ++ (item_text kinds.Global variable.name i
    ++ (codes ": " ++ type_text m 4 variable.ty))))

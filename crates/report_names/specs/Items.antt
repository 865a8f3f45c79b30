-- Items by their names, or by their numbers if they have none.
use Rattle.std.specs.Prelude.{◌==◌, ◌++◌, ℕ, List, Option, Some, None, codes, if◌then◌else◌, length, slice_get}
use Rattle.std.specs.Option.{option_and_then}
use Rattle.std.specs.Fmt.{decimal}
use Rattle.shader_ir.specs.declared.function.Function as f
use Rattle.shader_ir.specs.declared.«module».Module.{Module}
use Rattle.report_names.specs.Names.{name_text}
use Rattle.report_names.specs.declared.items.ItemKind.{ItemKind}
use Rattle.report_names.specs.declared.items.ItemKind.TheVariants as kinds

abbrev pub kind_word : ItemKind → List ℕ
kind_word kinds.Argument = codes "argument"
kind_word kinds.Constant = codes "constant"
kind_word kinds.Expression = codes "expression"
kind_word kinds.Function = codes "function"
kind_word kinds.Global = codes "global"
kind_word kinds.Local = codes "local"
kind_word kinds.Member = codes "member"
kind_word kinds.Override = codes "override"
kind_word kinds.Struct = codes "struct"
kind_word kinds.«Type» = codes "type"

abbrev pub number_text : ItemKind → ℕ → List ℕ
number_text kind index = kind_word kind ++ codes "#" ++ decimal index

-- the name, or the number where the name is absent or empty
abbrev pub item_text : ItemKind → Option (List ℕ) → ℕ → List ℕ
item_text kind (Some name) index = if length name == 0 then number_text kind index else name_text name
item_text kind None index = number_text kind index

abbrev pub argument_text : f.Function → ℕ → List ℕ
argument_text f i = item_text kinds.Argument (option_and_then (λ argument. argument.name) (slice_get f.arguments i)) i

abbrev pub local_text : f.Function → ℕ → List ℕ
local_text f i = item_text kinds.Local (option_and_then (λ variable. variable.name) (slice_get f.local_variables i)) i

abbrev pub global_text : Module → ℕ → List ℕ
global_text m i = item_text kinds.Global (option_and_then (λ variable. variable.name) (slice_get m.global_variables i)) i

abbrev pub constant_text : Module → ℕ → List ℕ
constant_text m i = item_text kinds.Constant (option_and_then (λ constant. constant.name) (slice_get m.constants i)) i

abbrev pub override_text : Module → ℕ → List ℕ
override_text m i = item_text kinds.Override (option_and_then (λ found. found.name) (slice_get m.overrides i)) i

abbrev pub function_text : Module → ℕ → List ℕ
function_text m i = item_text kinds.Function (option_and_then (λ function. function.name) (slice_get m.functions i)) i

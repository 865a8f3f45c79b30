-- What the JSON of a module determines.
use Rattle.std.specs.Prelude.{◌≡◌, ℕ, List}
use Rattle.shader_ir.specs.declared.«module».Module.{Module}
use Rattle.shader_json_module.specs.Modules.{IsTextOf}

-- a text stands for one module at most
abbrev pub TextDeterminesModule : Type 0
TextDeterminesModule = (bytes : List ℕ) (x y : Module) → IsTextOf bytes x → IsTextOf bytes y → x ≡ y

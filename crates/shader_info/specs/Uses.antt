-- Sets of uses of global variables.
use Rattle.std.specs.Prelude.{◌==◌, Bool, bit_and}
use Rattle.shader_info.specs.declared.flags.GlobalUse.{GlobalUse}

-- true if all uses of the other set are among the uses
abbrev pub includes : GlobalUse → GlobalUse → Bool
includes uses other = bit_and uses.0 other.0 == other.0

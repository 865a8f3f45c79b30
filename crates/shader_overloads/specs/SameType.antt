-- A decision procedure for the equality of types.
use Rattle.std.specs.Prelude.{◌==◌, Bool, true, false, ◌&&◌}
use Rattle.std.specs.Coded.{Coded, codes}
use base.Stored.{Gv, gnil, gnum, gcons}
use Rattle.shader_ir.specs.declared.types.TypeInner.{TypeInner}

abbrev pub same_code : Gv → Gv → Bool
same_code gnil gnil = true
same_code (gnum m) (gnum n) = m == n
same_code (gcons a b) (gcons c d) = same_code a c && same_code b d
same_code _ _ = false

-- an encoding that distinguishes types
pub inner_coded : Coded TypeInner
inner_coded = hlevel codes

-- whether two types are equal
abbrev pub same_type : TypeInner → TypeInner → Bool
same_type a b = same_code (inner_coded.code a) (inner_coded.code b)

-- The sizes of work groups.
use Rattle.std.specs.Prelude.{ℕ, zero, suc, List, [], ◌∷◌, ◌++◌, Option, Some, None}
use Rattle.json.specs.Json.{Json}
use Rattle.shader_interface.specs.Interface.{workgroup_override_of, workgroup_size_of}
use Rattle.shader_interface.specs.declared.workgroup.AxisSize.{AxisSize}
use Rattle.shader_interface.specs.declared.workgroup.AxisSize.TheVariants.{Count, Expression, Unknown}
use Rattle.shader_interface.specs.declared.workgroup.WorkgroupSize.{WorkgroupSize}

-- an expression counts, and else the number
abbrev pub axis_by : Option ℕ → Option ℕ → AxisSize
axis_by (Some expression) size = Expression expression
axis_by None (Some size) = Count size
axis_by None None = Unknown

abbrev pub axis_at : Json → ℕ → ℕ → AxisSize
axis_at root n axis = axis_by (workgroup_override_of root n axis) (workgroup_size_of root n axis)

abbrev pub workgroup_at : Json → ℕ → WorkgroupSize
workgroup_at root n = record { x = axis_at root n 0; y = axis_at root n 1; z = axis_at root n 2 }

-- those of the first entry points
abbrev pub workgroups_first : Json → ℕ → List WorkgroupSize
workgroups_first root zero = []
workgroups_first root (suc n) = workgroups_first root n ++ workgroup_at root n ∷ []

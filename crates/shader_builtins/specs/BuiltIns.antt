-- naga's built-in values: their names with the flag that is their payload, the value of each in the IR, and its name in WGSL.
use Rattle.std.specs.Prelude.{ℕ, List, [], ◌∷◌, map, Bool, true, false, not, ◌&&◌, Option, Some, None, codes, if◌then◌else◌}
use Rattle.std.specs.Borrow.{Bor}
use Rattle.std.specs.List.{list_any}
use Rattle.std.specs.Option.{option_eq, option_map}
use Rattle.std.specs.Str.{bytes_eq}
use Rattle.shader_ir.specs.contracts.binding.BuiltInPartialEq.TheImpl as equal
use Rattle.shader_ir.specs.declared.binding.BuiltIn.{BuiltIn}
use Rattle.shader_ir.specs.declared.binding.BuiltIn.TheVariants.{WorkGroupId, WorkGroupSize, NumWorkGroups, Other}

-- naga's name, the flag, the value in the IR, and the name in WGSL or in naga's extension of it
abbrev pub Row : Type 0
Row = List ℕ × Option Bool × BuiltIn × Option (List ℕ)

-- the built-in values of naga 30
abbrev pub built_ins : List Row
built_ins =
    (codes "Position", Some false, Other 0, Some (codes "position"))
    ∷ (codes "Position", Some true, Other 1, Some (codes "position"))
    ∷ (codes "ViewIndex", None, Other 2, Some (codes "view_index"))
    ∷ (codes "BaseInstance", None, Other 3, None)
    ∷ (codes "BaseVertex", None, Other 4, None)
    ∷ (codes "ClipDistance", None, Other 5, Some (codes "clip_distances"))
    ∷ (codes "CullDistance", None, Other 6, None)
    ∷ (codes "InstanceIndex", None, Other 7, Some (codes "instance_index"))
    ∷ (codes "PointSize", None, Other 8, None)
    ∷ (codes "VertexIndex", None, Other 9, Some (codes "vertex_index"))
    ∷ (codes "DrawIndex", None, Other 10, Some (codes "draw_index"))
    ∷ (codes "DrawID", None, Other 11, None)
    ∷ (codes "FragDepth", None, Other 12, Some (codes "frag_depth"))
    ∷ (codes "PointCoord", None, Other 13, None)
    ∷ (codes "FrontFacing", None, Other 14, Some (codes "front_facing"))
    ∷ (codes "PrimitiveIndex", None, Other 15, Some (codes "primitive_index"))
    ∷ (codes "Barycentric", Some true, Other 16, Some (codes "barycentric"))
    ∷ (codes "Barycentric", Some false, Other 17, Some (codes "barycentric_no_perspective"))
    ∷ (codes "SampleIndex", None, Other 18, Some (codes "sample_index"))
    ∷ (codes "SampleMask", None, Other 19, Some (codes "sample_mask"))
    ∷ (codes "GlobalInvocationId", None, Other 20, Some (codes "global_invocation_id"))
    ∷ (codes "LocalInvocationId", None, Other 21, Some (codes "local_invocation_id"))
    ∷ (codes "LocalInvocationIndex", None, Other 22, Some (codes "local_invocation_index"))
    ∷ (codes "WorkGroupId", None, WorkGroupId, Some (codes "workgroup_id"))
    ∷ (codes "WorkGroupSize", None, WorkGroupSize, Some (codes "workgroup_size"))
    ∷ (codes "NumWorkGroups", None, NumWorkGroups, Some (codes "num_workgroups"))
    ∷ (codes "NumSubgroups", None, Other 23, Some (codes "num_subgroups"))
    ∷ (codes "SubgroupId", None, Other 24, Some (codes "subgroup_id"))
    ∷ (codes "SubgroupSize", None, Other 25, Some (codes "subgroup_size"))
    ∷ (codes "SubgroupInvocationId", None, Other 26, Some (codes "subgroup_invocation_id"))
    ∷ (codes "MeshTaskSize", None, Other 27, Some (codes "mesh_task_size"))
    ∷ (codes "CullPrimitive", None, Other 28, Some (codes "cull_primitive"))
    ∷ (codes "PointIndex", None, Other 29, Some (codes "point_index"))
    ∷ (codes "LineIndices", None, Other 30, Some (codes "line_indices"))
    ∷ (codes "TriangleIndices", None, Other 31, Some (codes "triangle_indices"))
    ∷ (codes "VertexCount", None, Other 32, Some (codes "vertex_count"))
    ∷ (codes "Vertices", None, Other 33, Some (codes "vertices"))
    ∷ (codes "PrimitiveCount", None, Other 34, Some (codes "primitive_count"))
    ∷ (codes "Primitives", None, Other 35, Some (codes "primitives"))
    ∷ (codes "RayInvocationId", None, Other 36, Some (codes "ray_invocation_id"))
    ∷ (codes "NumRayInvocations", None, Other 37, Some (codes "num_ray_invocations"))
    ∷ (codes "InstanceCustomData", None, Other 38, Some (codes "instance_custom_data"))
    ∷ (codes "GeometryIndex", None, Other 39, Some (codes "geometry_index"))
    ∷ (codes "WorldRayOrigin", None, Other 40, Some (codes "world_ray_origin"))
    ∷ (codes "WorldRayDirection", None, Other 41, Some (codes "world_ray_direction"))
    ∷ (codes "ObjectRayOrigin", None, Other 42, Some (codes "object_ray_origin"))
    ∷ (codes "ObjectRayDirection", None, Other 43, Some (codes "object_ray_direction"))
    ∷ (codes "RayTmin", None, Other 44, Some (codes "ray_t_min"))
    ∷ (codes "RayTCurrentMax", None, Other 45, Some (codes "ray_t_current_max"))
    ∷ (codes "ObjectToWorld", None, Other 46, Some (codes "object_to_world"))
    ∷ (codes "WorldToObject", None, Other 47, Some (codes "world_to_object"))
    ∷ (codes "HitKind", None, Other 48, Some (codes "hit_kind")) ∷ []

-- a row as the code has it
abbrev pub row_of : Bor (List ℕ) × Option Bool × BuiltIn × Option (Bor (List ℕ)) → Row
row_of row = (row.0.now, row.1, row.2, option_map (λ word. word.now) row.3)

abbrev pub rows_of : List (Bor (List ℕ) × Option Bool × BuiltIn × Option (Bor (List ℕ))) → List Row
rows_of rows = map row_of rows

abbrev same_truth : Bool → Bool → Bool
same_truth true b = b
same_truth false b = not b

abbrev pub same_flag : Option Bool → Option Bool → Bool
same_flag = option_eq same_truth

-- the row is that of a name and a flag
abbrev pub is_named : (name : List ℕ) (flag : Option Bool) → Row → Bool
is_named name flag row = bytes_eq row.0 name && same_flag row.1 flag

-- the value of the first row with that name and flag
unfoldable pub named_in : List Row → (name : List ℕ) (flag : Option Bool) → Option BuiltIn
named_in [] name flag = None
named_in (row ∷ rows) name flag = if is_named name flag row then Some row.2 else named_in rows name flag

-- the name in WGSL of the first row with that value
unfoldable pub word_in : List Row → BuiltIn → Option (List ℕ)
word_in [] b = None
word_in (row ∷ rows) b = if equal.ghosts.eq row.2 b then row.3 else word_in rows b

-- the built-in value with that name, whose payload is that flag
unfoldable pub built_in_named : (name : List ℕ) (flag : Option Bool) → Option BuiltIn
built_in_named name flag = named_in built_ins name flag

-- the name of the flag that is the payload of a built-in value
unfoldable pub flag_named : (name : List ℕ) → Option (List ℕ)
flag_named name =
    if bytes_eq name (codes "Position") then Some (codes "invariant")
    else if bytes_eq name (codes "Barycentric") then Some (codes "perspective") else None

-- the name of a built-in value in WGSL
unfoldable pub wgsl_name : BuiltIn → Option (List ℕ)
wgsl_name b = word_in built_ins b

-- no two items are equal
abbrev are_distinct : {A : Type 0} → (A → A → Bool) → List A → Bool
are_distinct eq [] = true
are_distinct eq (x ∷ xs) = not (list_any (eq x) xs) && are_distinct eq xs

-- no two rows have a name and a flag in common
abbrev pub names_are_distinct : Bool
names_are_distinct = are_distinct (λ row. is_named row.0 row.1) built_ins

-- no two rows have a value in common
abbrev pub values_are_distinct : Bool
values_are_distinct = are_distinct (λ row other. equal.ghosts.eq row.2 other.2) built_ins

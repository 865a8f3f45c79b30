-- Built-in values, and ways to interpolate, as WGSL spells them.
use Rattle.std.specs.Prelude.{ℕ, List, Option, Some, None, codes, if◌then◌else◌}
use Rattle.std.specs.Option.{option_or}
use Rattle.std.specs.Str.{bytes_eq}
use Rattle.report_names.specs.Names.{name_text}

-- a built-in value that WGSL has, by naga's name
unfoldable pub common_word : List ℕ → Option (List ℕ)
common_word name =
    if bytes_eq name (codes "VertexIndex") then Some (codes "vertex_index") else (
    if bytes_eq name (codes "InstanceIndex") then Some (codes "instance_index") else (
    if bytes_eq name (codes "ClipDistance") then Some (codes "clip_distances") else (
    if bytes_eq name (codes "Position") then Some (codes "position") else (
    if bytes_eq name (codes "FrontFacing") then Some (codes "front_facing") else (
    if bytes_eq name (codes "FragDepth") then Some (codes "frag_depth") else (
    if bytes_eq name (codes "PrimitiveIndex") then Some (codes "primitive_index") else (
    if bytes_eq name (codes "SampleIndex") then Some (codes "sample_index") else (
    if bytes_eq name (codes "SampleMask") then Some (codes "sample_mask") else (
    if bytes_eq name (codes "LocalInvocationId") then Some (codes "local_invocation_id") else (
    if bytes_eq name (codes "LocalInvocationIndex") then Some (codes "local_invocation_index") else (
    if bytes_eq name (codes "GlobalInvocationId") then Some (codes "global_invocation_id") else (
    if bytes_eq name (codes "WorkGroupId") then Some (codes "workgroup_id") else (
    if bytes_eq name (codes "NumWorkGroups") then Some (codes "num_workgroups") else (
    if bytes_eq name (codes "SubgroupInvocationId") then Some (codes "subgroup_invocation_id") else (
    if bytes_eq name (codes "SubgroupSize") then Some (codes "subgroup_size") else (
    if bytes_eq name (codes "SubgroupId") then Some (codes "subgroup_id") else (
    if bytes_eq name (codes "NumSubgroups") then Some (codes "num_subgroups") else (
    None))))))))))))))))))

-- one that naga's extensions of WGSL have
unfoldable pub mesh_word : List ℕ → Option (List ℕ)
mesh_word name =
    if bytes_eq name (codes "ViewIndex") then Some (codes "view_index") else (
    if bytes_eq name (codes "Barycentric") then Some (codes "barycentric") else (
    if bytes_eq name (codes "MeshTaskSize") then Some (codes "mesh_task_size") else (
    if bytes_eq name (codes "CullPrimitive") then Some (codes "cull_primitive") else (
    if bytes_eq name (codes "PointIndex") then Some (codes "point_index") else (
    if bytes_eq name (codes "LineIndices") then Some (codes "line_indices") else (
    if bytes_eq name (codes "TriangleIndices") then Some (codes "triangle_indices") else (
    if bytes_eq name (codes "VertexCount") then Some (codes "vertex_count") else (
    if bytes_eq name (codes "Vertices") then Some (codes "vertices") else (
    if bytes_eq name (codes "PrimitiveCount") then Some (codes "primitive_count") else (
    if bytes_eq name (codes "Primitives") then Some (codes "primitives") else (
    None)))))))))))

-- how or where in a pixel a value is interpolated
unfoldable pub flow_word : List ℕ → Option (List ℕ)
flow_word name =
    if bytes_eq name (codes "Perspective") then Some (codes "perspective") else (
    if bytes_eq name (codes "Linear") then Some (codes "linear") else (
    if bytes_eq name (codes "Flat") then Some (codes "flat") else (
    if bytes_eq name (codes "PerVertex") then Some (codes "per_vertex") else (
    if bytes_eq name (codes "Center") then Some (codes "center") else (
    if bytes_eq name (codes "Centroid") then Some (codes "centroid") else (
    if bytes_eq name (codes "Sample") then Some (codes "sample") else (
    if bytes_eq name (codes "First") then Some (codes "first") else (
    if bytes_eq name (codes "Either") then Some (codes "either") else (
    None)))))))))

-- naga's name stands for what WGSL has no word for
abbrev pub or_name : Option (List ℕ) → List ℕ → List ℕ
or_name (Some word) name = word
or_name None name = name_text name

abbrev pub builtin_text : List ℕ → List ℕ
builtin_text name = or_name (option_or (common_word name) (mesh_word name)) name

abbrev pub flow_text : List ℕ → List ℕ
flow_text name = or_name (flow_word name) name

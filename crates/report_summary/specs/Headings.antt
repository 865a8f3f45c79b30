-- The first lines of blocks.
use Rattle.std.specs.Prelude.{◌++◌, ◌&&◌, ℕ, Bool, true, false, List, [], Option, Some, None, cond, codes, slice_get}
use Rattle.std.specs.Fmt.{decimal}
use Rattle.report_names.specs.Items.{number_text, override_text}
use Rattle.report_names.specs.declared.items.ItemKind.TheVariants as kinds
use Rattle.report_places.specs.Sites.{place_of_body}
use Rattle.report_places.specs.Words.{body_text}
use Rattle.shader_interface.specs.declared.workgroup.AxisSize.{AxisSize}
use Rattle.shader_interface.specs.declared.workgroup.AxisSize.TheVariants.{Count, Expression as OfExpression, Unknown}
use Rattle.shader_interface.specs.declared.workgroup.WorkgroupSize.{WorkgroupSize}
use Rattle.shader_ir.specs.declared.expression.Expression.{Expression}
use Rattle.shader_ir.specs.declared.expression.Expression.TheVariants.{Override}
use Rattle.shader_ir.specs.declared.function.EntryPoint.{EntryPoint}
use Rattle.shader_ir.specs.declared.function.ShaderStage.{ShaderStage}
use Rattle.shader_ir.specs.declared.function.ShaderStage.TheVariants as stages
use Rattle.shader_ir.specs.declared.module.Module.{Module}
use Rattle.shader_uniformity.specs.declared.facts.BodyLocation.{BodyLocation}
use Rattle.shader_uniformity.specs.declared.facts.BodyLocation.TheVariants as location

abbrev size_by : Module → Option Expression → ℕ → List ℕ
size_by m (Some (Override found)) e = override_text m found
size_by m _ e = number_text kinds.Expression e

-- an override that is a size, or another global expression by its number
abbrev pub expression_text : Module → ℕ → List ℕ
expression_text m e = size_by m (slice_get m.global_expressions e) e

abbrev pub axis_text : Module → AxisSize → List ℕ
axis_text m (Count count) = decimal count
axis_text m (OfExpression e) = expression_text m e
axis_text m Unknown = codes "?"

abbrev pub group_text : Module → WorkgroupSize → List ℕ
group_text m group =
    codes ", workgroups of " ++ (axis_text m group.x ++ (codes " x " ++ (axis_text m group.y ++ (codes " x " ++ axis_text m group.z))))

abbrev pub is_axis_known : AxisSize → Bool
is_axis_known (Count count) = true
is_axis_known (OfExpression e) = true
is_axis_known Unknown = false

-- the numbers along all axes are known
abbrev pub is_known : WorkgroupSize → Bool
is_known group = is_axis_known group.x && (is_axis_known group.y && is_axis_known group.z)

-- stages of vertices and fragments have no work groups
abbrev pub has_groups : ShaderStage → Bool
has_groups stages.Vertex = false
has_groups stages.Fragment = false
has_groups stages.Compute = true
has_groups stages.Mesh = true
has_groups stages.Task = true

abbrev point_groups : Module → Option EntryPoint → Option WorkgroupSize → List ℕ
point_groups m (Some point) (Some group) = cond (has_groups point.stage && is_known group) (group_text m group) []
point_groups m (Some point) None = []
point_groups m None group = []

-- the size of the work groups of an entry point, where it is known
abbrev pub group_part : Module → List WorkgroupSize → BodyLocation → List ℕ
group_part m groups (location.Function i) = []
group_part m groups (location.EntryPoint i) = point_groups m (slice_get m.entry_points i) (slice_get groups i)

-- an entry point with its stage, its name and the size of its work groups, or a function
abbrev pub heading : Module → List WorkgroupSize → BodyLocation → List ℕ
heading m groups location = body_text m (place_of_body location) ++ (group_part m groups location ++ codes "\n")

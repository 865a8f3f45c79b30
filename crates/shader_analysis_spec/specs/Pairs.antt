-- Pairs of an image and a sampler that are used together, interprocedurally.
use Rattle.std.specs.Prelude.{◌≡◌, ℕ, List, Option, Some, None, slice_get}
use Rattle.std.specs.Option.{option_and_then}
use Rattle.shader_ir.specs.declared.expression.Expression.TheVariants as form
use Rattle.shader_analysis_spec.specs.Program.{Function, Module, Expression}
use Rattle.shader_analysis_spec.specs.Calls.{CallPath, here, via}
use Rattle.shader_analysis_spec.specs.Infos.{Resource, InGlobal, InArgument}

abbrev pub global_resource : Option Expression → Option Resource
global_resource (Some (form.GlobalVariable g)) = Some (InGlobal g)
global_resource _ = None

-- the resource of an expression: a global, an argument, or a component directly of a global
abbrev pub expression_resource : Function → Option Expression → Option Resource
expression_resource f (Some (form.GlobalVariable g)) = Some (InGlobal g)
expression_resource f (Some (form.FunctionArgument i)) = Some (InArgument i)
expression_resource f (Some (form.Access base index)) = global_resource (slice_get f.expressions base)
expression_resource f (Some (form.AccessIndex base index)) = global_resource (slice_get f.expressions base)
expression_resource f _ = None

-- the resource of expression e of f, if it has one
abbrev pub resource : Function → ℕ → Option Resource
resource f e = expression_resource f (slice_get f.expressions e)

-- the image and the sampler that an expression samples
abbrev pub sampled_operands : Expression → Option (ℕ × ℕ)
sampled_operands (form.ImageSample image sampler gather clamp_to_edge coordinate array_index offset level depth_ref) = Some (image, sampler)
sampled_operands _ = None

-- the image and the sampler that expression e of f samples
abbrev pub samples : Function → ℕ → Option (ℕ × ℕ)
samples f e = option_and_then sampled_operands (slice_get f.expressions e)

-- the caller's resource for a resource of the callee: an argument becomes the resource of the value passed for it
abbrev pub in_caller : Function → List ℕ → Resource → Option Resource
in_caller f arguments (InGlobal g) = Some (InGlobal g)
in_caller f arguments (InArgument i) = option_and_then (resource f) (slice_get arguments i)

-- the resource at the first function of a call path for one at its last
abbrev pub back : {m : Module} {f r : Function} → CallPath m f r → Resource → Option Resource
back here p = Some p
back (via {f = f} call path) p = option_and_then (in_caller f call.arguments) (back path p)

-- the concatenation of two call paths
abbrev pub followed_by : {m : Module} {f r s : Function} → CallPath m f r → CallPath m r s → CallPath m f s
followed_by here second = second
followed_by (via call first) second = via call (followed_by first second)

-- a call path may be cut anywhere: a resource leads back along it by way of the resource at the cut
abbrev pub LeadingBackComposes : Type 0
LeadingBackComposes = (m : Module) (f r s : Function) (first : CallPath m f r) (second : CallPath m r s) (p : Resource) →
    back (followed_by first second) p ≡ option_and_then (back first) (back second p)

-- a function that f reaches by a call path samples an image with a sampler, and these are their resources back in f
pub record IsPair (m : Module) (f : Function) (image sampler : Resource) : Type 0 where
  pub reached : Function
  pub path : CallPath m f reached
  pub sample : ℕ
  pub image_operand : ℕ
  pub sampler_operand : ℕ
  pub is_there : samples reached sample ≡ Some (image_operand, sampler_operand)
  pub image_resource : option_and_then (back path) (resource reached image_operand) ≡ Some image
  pub sampler_resource : option_and_then (back path) (resource reached sampler_operand) ≡ Some sampler

-- The recorded pairs, as resources.
use Rattle.std.specs.Prelude.{◌≡◌, ℕ, List, [], ◌∷◌, ◌++◌, Option, Some, None, map, slice_get, unwrap_or}
use Rattle.std.specs.Option.{option_map}
use Rattle.std.specs.List.{Contains, flat_map}
use Rattle.shader_analysis_spec.specs.Infos.{Resource, InGlobal, InArgument}
use Rattle.shader_analysis_spec.specs.Pairs.{in_caller, resource, sampled_operands}
use Rattle.shader_analysis_spec.specs.Program.{Function, Expression, Step, Leaf, Call}
use Rattle.shader_info.specs.declared.info.FunctionInfo.{FunctionInfo}
use Rattle.shader_info.specs.declared.info.GlobalOrArgument.{GlobalOrArgument}
use Rattle.shader_info.specs.declared.info.GlobalOrArgument.TheVariants.{Global, Argument}
use Rattle.shader_info.specs.declared.info.Sampling.{Sampling}
use Rattle.shader_info.specs.declared.info.SamplingKey.{SamplingKey}
use Rattle.shader_passes.specs.declared.pairs.Pairs.{Pairs}

abbrev pub resource_view : GlobalOrArgument → Resource
resource_view (Global g) = InGlobal g
resource_view (Argument i) = InArgument i

abbrev pub key_pair : SamplingKey → Resource × Resource
key_pair k = (InGlobal k.image, InGlobal k.sampler)

abbrev pub sampling_pair : Sampling → Resource × Resource
sampling_pair s = (resource_view s.image, resource_view s.sampler)

abbrev pub pairs_in : List SamplingKey → List Sampling → List (Resource × Resource)
pairs_in known open_pairs = map key_pair known ++ map sampling_pair open_pairs

abbrev pub pairs_of : Pairs → List (Resource × Resource)
pairs_of p = pairs_in p.sampling_set.now.keys p.sampling.now.keys

-- the later one collects in the sets that the earlier one was lent
abbrev pub AreLent : Pairs → Pairs → Type 0
AreLent earlier later = (later.sampling_set ≡ record earlier.sampling_set { now = later.sampling_set.now })
    × (later.sampling ≡ record earlier.sampling { now = later.sampling.now })

-- one of the two resources is an argument
abbrev pub HasArgument : Resource → Resource → Type 0
HasArgument (InGlobal image) (InGlobal sampler) = ⊥
HasArgument image sampler = Unit {0}

-- each of the pairs has an argument
pub record HaveArguments (open_pairs : List Sampling) : Type 0 where
  pub each : (pair : Sampling) → Contains open_pairs pair → HasArgument (resource_view pair.image) (resource_view pair.sampler)

-- the two lists have the same members
pub record SameMembers {X : Type 0} (xs ys : List X) : Type 0 where
  pub to : (x : X) → Contains xs x → Contains ys x
  pub from : (x : X) → Contains ys x → Contains xs x

-- the pair of two resources, if both exist
abbrev pub pair_of : Option Resource → Option Resource → List (Resource × Resource)
pair_of (Some p) (Some q) = (p, q) ∷ []
pair_of _ _ = []

-- the caller's pairs for a pair of the callee
abbrev pub pair_in_caller : Function → List ℕ → Resource × Resource → List (Resource × Resource)
pair_in_caller f arguments pair = pair_of (in_caller f arguments pair.0) (in_caller f arguments pair.1)

abbrev pub pairs_in_caller : Function → List ℕ → List (Resource × Resource) → List (Resource × Resource)
pairs_in_caller f arguments pairs = flat_map (pair_in_caller f arguments) pairs

-- the pairs recorded of a function
abbrev pub info_pairs : FunctionInfo → List (Resource × Resource)
info_pairs info = pairs_in info.sampling_set.keys info.sampling.keys

abbrev pub recorded_pairs : List FunctionInfo → ℕ → List (Resource × Resource)
recorded_pairs infos c = unwrap_or (option_map info_pairs (slice_get infos c)) []

-- the pairs of the function that a statement calls
abbrev pub callee_pairs : List FunctionInfo → Function → Step → List (Resource × Resource)
callee_pairs infos f (Leaf (Call c arguments result)) = pairs_in_caller f arguments (recorded_pairs infos c)
callee_pairs infos f _ = []

-- the pair of the resources of an image and a sampler
abbrev pub resource_pair : Function → Option (ℕ × ℕ) → List (Resource × Resource)
resource_pair f (Some operands) = pair_of (resource f operands.0) (resource f operands.1)
resource_pair f None = []

-- the pair that an expression samples
abbrev pub sampled_resources : Function → Expression → List (Resource × Resource)
sampled_resources f x = resource_pair f (sampled_operands x)

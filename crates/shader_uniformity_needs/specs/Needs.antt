-- The needs of a body: which of its statements and expressions need uniform flow, and what violates that.
use Rattle.std.specs.Prelude.{ℕ, ◌+◌, Bool, true, false, if◌then◌else◌, List, [], ◌∷◌, ◌++◌, Option, Some, None, slice_get}
use Rattle.std.specs.List.{flat_map}
use Rattle.shader_ir.specs.declared.expression.Expression.TheVariants as form
use Rattle.shader_uniformity.specs.Words.{Body, End, Then, Step, Leaf, Nested, If, Switch, Loop, Cases, NoCase, Case, Simple, Emit}
use Rattle.shader_uniformity.specs.Words.{ControlBarrier, MemoryBarrier, WorkGroupUniformLoad, CooperativeStore}
use Rattle.shader_uniformity.specs.Words.{EntryPoint, Expression, Function, Module, SampleLevel, positions_between}
use Rattle.shader_uniformity.specs.Fault.{severity}
use Rattle.shader_uniformity.specs.Needs.{is_implicit}
use Rattle.shader_uniformity.specs.Positions.{step_end, block_end}
use Rattle.shader_uniformity.specs.declared.facts.BodyLocation.{BodyLocation}
use Rattle.shader_uniformity.specs.declared.facts.BodyLocation.TheVariants as body
use Rattle.shader_uniformity.specs.declared.facts.Fact.{Fact}
use Rattle.shader_uniformity.specs.declared.facts.Fact.TheVariants.{Apart, Differs}
use Rattle.shader_uniformity_needs.specs.declared.needs.Need.{Need}
use Rattle.shader_uniformity_needs.specs.declared.needs.NeedKind.{NeedKind}
use Rattle.shader_uniformity_needs.specs.declared.needs.NeedKind.TheVariants as kind

-- a derivative or an implicit level needs uniform flow only where the diagnostic filters leave that an error
abbrev pub if_severe : Bool → NeedKind → Option NeedKind
if_severe true kind = Some kind
if_severe false kind = None

abbrev pub sample_kind : (severe : Bool) → SampleLevel → Option NeedKind
sample_kind severe level = if is_implicit level then if_severe severe kind.ImplicitLevel else None

-- why an expression needs uniform flow, if it does
abbrev pub kind_of : (severe : Bool) → Expression → Option NeedKind
kind_of severe (form.Derivative axis ctrl expr) = if_severe severe kind.Derivative
kind_of severe (form.ImageSample image sampler gather clamp_to_edge coordinate array_index offset level depth_ref) =
    sample_kind severe level
kind_of severe (form.CooperativeLoad columns rows role tile) = Some kind.CooperativeOperation
kind_of severe (form.CooperativeMultiplyAdd a b c) = Some kind.CooperativeOperation
kind_of severe _ = None

-- a need at a position
abbrev pub need_at : ℕ → Option ℕ → NeedKind → Fact → Need
need_at n expression kind fact = record { position = n; expression = expression; kind = kind; violated_by = fact }

abbrev pub kind_needs : (position expression : ℕ) → Option NeedKind → List Need
kind_needs n h (Some kind) = need_at n (Some h) kind (Apart n) ∷ []
kind_needs n h None = []

-- that of an emitted expression, if it is there
abbrev pub emitted_needs : (severe : Bool) → (position expression : ℕ) → Option Expression → List Need
emitted_needs severe n h (Some expression) = kind_needs n h (kind_of severe expression)
emitted_needs severe n h None = []

-- `severe`: the filters leave what needs uniform flow an error
module _ (expressions : List Expression) (severe : Bool) where
  abbrev pub emit_needs : (position expression : ℕ) → List Need
  emit_needs n h = emitted_needs severe n h (slice_get expressions h)

  -- a statement without blocks, at n. Different pointers violate a uniform load too
  abbrev pub simple_needs : (position : ℕ) → Simple → List Need
  simple_needs n (Emit start finish) = flat_map (emit_needs n) (positions_between start finish)
  simple_needs n (ControlBarrier barrier) = need_at n None kind.Barrier (Apart n) ∷ []
  simple_needs n (MemoryBarrier barrier) = need_at n None kind.MemoryBarrier (Apart n) ∷ []
  simple_needs n (WorkGroupUniformLoad pointer result) =
      need_at n None kind.UniformLoad (Apart n) ∷ need_at n None kind.UniformLoad (Differs pointer) ∷ []
  simple_needs n (CooperativeStore target tile) = need_at n None kind.CooperativeOperation (Apart n) ∷ []
  simple_needs n _ = []

  -- a statement with blocks has no needs of its own
  abbrev pub own_needs : (position : ℕ) → Step → List Need
  own_needs n (Leaf simple) = simple_needs n simple
  own_needs n _ = []

  abbrev mutual
    -- a statement at n
    pub step_needs : (position : ℕ) → Step → List Need
    step_needs n (Leaf simple) = simple_needs n simple
    step_needs n (Nested x) = block_needs (n + 1) x
    step_needs n (If c x y) = block_needs (n + 1) x ++ block_needs (block_end (n + 1) x) y
    step_needs n (Switch e cs) = cases_needs ((n + 1) + 1) cs
    step_needs n (Loop x y k) = block_needs ((n + 1) + 1) x ++ block_needs (block_end ((n + 1) + 1) x) y

    -- the statements from n on
    pub block_needs : (position : ℕ) → Body → List Need
    block_needs n End = []
    block_needs n (Then s b) = step_needs n s ++ block_needs (step_end n s) b

    -- the cases from p on
    pub cases_needs : (position : ℕ) → Cases → List Need
    cases_needs p NoCase = []
    cases_needs p (Case v x fall cs) = block_needs p x ++ cases_needs (block_end p x) cs

module _ (m : Module) where
  abbrev pub function_needs : Function → List Need
  function_needs f = block_needs f.expressions (severity m f) 1 f.body

  abbrev pub needs_of_function : Option Function → List Need
  needs_of_function (Some f) = function_needs f
  needs_of_function None = []

  abbrev pub needs_of_point : Option EntryPoint → List Need
  needs_of_point (Some point) = function_needs point.function
  needs_of_point None = []

  -- those of the body at a location
  abbrev pub needs_at : BodyLocation → List Need
  needs_at (body.Function i) = needs_of_function (slice_get m.functions i)
  needs_at (body.EntryPoint i) = needs_of_point (slice_get m.entry_points i)

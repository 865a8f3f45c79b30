-- The rules of a function, what is known of it, and where an entry point is at fault.
use Rattle.std.specs.Prelude.{◌≡◌, ◌↔◌, ℕ, ◌+◌, ◌<◌, Bool, true, false, IsTrue, List, [], ◌∷◌, ◌++◌, Option, Some, None, length}
use Rattle.std.specs.Prelude.{slice_get, take}
use Rattle.std.specs.List.{Contains, enumerate_from, flat_map}
use Rattle.shader_uniformity.specs.Words.{Module, Function, FunctionArgument, EntryPoint}
use Rattle.shader_uniformity.specs.Apart.{block_rules}
use Rattle.shader_uniformity.specs.Differs.{pointees_from, shared_rule, source_rules}
use Rattle.shader_uniformity.specs.Filters.{is_severe}
use Rattle.shader_uniformity.specs.Marks.{leads, Marked}
use Rattle.shader_uniformity.specs.Places.{places}
use Rattle.shader_uniformity.specs.Positions.{block_end}
use Rattle.shader_uniformity.specs.declared.facts.BodyLocation.{BodyLocation}
use Rattle.shader_uniformity.specs.declared.facts.BodyLocation.TheVariants as body
use Rattle.shader_uniformity.specs.declared.facts.Fact.{Fact}
use Rattle.shader_uniformity.specs.declared.facts.Fact.TheVariants.{Always, Flow, Argument, Behind, Apart, Holds, Must, Gives, Left}
use Rattle.shader_uniformity.specs.declared.facts.Place.TheVariants.{Pointee}
use Rattle.shader_uniformity.specs.declared.facts.Rule.{Rule}

-- what the arguments from i on point to, when a call ends at a moment
abbrev pub left_from : (moment i : ℕ) → List FunctionArgument → List Rule
left_from moment i [] = []
left_from moment i (argument ∷ arguments) = leads (Holds (Pointee i) moment) (Left i) ∷ left_from moment (i + 1) arguments

-- the rules of a function, or of an entry point, with what is known of its callees
abbrev pub function_rules : Module → List (List Rule) → (severe entry : Bool) → Function → List Rule
function_rules m callees severe entry f =
    (shared_rule ∷ pointees_from 0 f.arguments) ++ flat_map (source_rules entry f.arguments) (enumerate_from 0 f.expressions)
    ++ (leads Flow (Apart 1) ∷ block_rules f.expressions (places m f.expressions) callees severe 1 1 None f.body)
    ++ left_from (block_end 1 f.body) 0 f.arguments

-- the facts with which a call begins
abbrev pub arguments_from : ℕ → List FunctionArgument → List Fact
arguments_from i [] = []
arguments_from i (argument ∷ arguments) = Argument i ∷ Behind i ∷ arguments_from (i + 1) arguments

abbrev pub beginnings : List FunctionArgument → List Fact
beginnings arguments = Always ∷ Flow ∷ arguments_from 0 arguments

-- and those with which it ends
abbrev pub lefts_from : ℕ → List FunctionArgument → List Fact
lefts_from i [] = []
lefts_from i (argument ∷ arguments) = Left i ∷ lefts_from (i + 1) arguments

abbrev pub endings : List FunctionArgument → List Fact
endings arguments = Must ∷ Gives ∷ lefts_from 0 arguments

-- `known` tells which last facts each first one leads to
pub record IsKnown (firsts lasts : List Fact) (rules known : List Rule) : Type 0 where
  pub complete : (first last : Fact) → Contains firsts first → Contains lasts last → Marked rules first last →
      Contains known (leads first last)
  pub sound : (first last : Fact) → Contains known (leads first last) →
      Contains firsts first × Contains lasts last × Marked rules first last

-- what is known of a module's first functions, each by those before it
module _ (m : Module) where
  abbrev pub severity : Function → Bool
  severity f = is_severe m.diagnostic_filters m.diagnostic_filters f.diagnostic_filter_leaf

  abbrev pub IsKnownBy : List (List Rule) → Function → List Rule → Type 0
  IsKnownBy callees f known =
      IsKnown (beginnings f.arguments) (endings f.arguments) (function_rules m callees (severity f) false f) known

  pub data AreKnown : List (List Rule) → Type 0 where
    none : AreKnown []
    next : {callees : List (List Rule)} {f : Function} {known : List Rule} → AreKnown callees →
        slice_get m.functions (length callees) ≡ Some f →
        IsKnownBy callees f known → AreKnown (callees ++ known ∷ [])

  -- of each function
  abbrev pub AreAllKnown : List (List Rule) → Type 0
  AreAllKnown known = AreKnown known × (length known ≡ length m.functions)

  -- an entry point lets some invocations alone pass what needs all of them
  abbrev pub IsFault : List (List Rule) → Function → Type 0
  IsFault callees f = Marked (function_rules m callees (severity f) true f) Always Must

  -- which of some entry points do
  pub data AreFaulty (callees : List (List Rule)) : List EntryPoint → List Bool → Type 0 where
    none : AreFaulty callees [] []
    next : {points : List EntryPoint} {faulty : List Bool} (point : EntryPoint) (fault : Bool) → AreFaulty callees points faulty →
        IsTrue fault ↔ IsFault callees point.function → AreFaulty callees (points ++ point ∷ []) (faulty ++ fault ∷ [])

  -- the function or entry point at a location does so by itself, whoever calls it. A function knows those before it
  abbrev pub IsFaultAt : List (List Rule) → BodyLocation → Type 0
  IsFaultAt known (body.Function i) =
      (f : Function) × (slice_get m.functions i ≡ Some f) × Marked (function_rules m (take i known) (severity f) false f) Always Must
  IsFaultAt known (body.EntryPoint i) = (point : EntryPoint) × (slice_get m.entry_points i ≡ Some point) × IsFault known point.function

  -- none does
  abbrev pub IsAccepted : List (List Rule) → Type 0
  IsAccepted known = (place : BodyLocation) → IsFaultAt known place → ⊥

  -- functions come before entry points
  abbrev pub IsBefore : BodyLocation → BodyLocation → Type 0
  IsBefore (body.Function i) (body.Function k) = i < k
  IsBefore (body.Function i) (body.EntryPoint k) = Unit {0}
  IsBefore (body.EntryPoint i) (body.Function k) = ⊥
  IsBefore (body.EntryPoint i) (body.EntryPoint k) = i < k

  -- the verdict: the first that does, or none
  abbrev pub IsVerdict : List (List Rule) → Option BodyLocation → Type 0
  IsVerdict known None = IsAccepted known
  IsVerdict known (Some place) = IsFaultAt known place × ((earlier : BodyLocation) → IsBefore earlier place → IsFaultAt known earlier → ⊥)

-- What a call makes of the facts of the called function.
use Rattle.std.specs.Prelude.{ℕ, List, [], ◌∷◌, ◌++◌, Option, Some, None, slice_get}
use Rattle.std.specs.List.{flat_map}
use Rattle.shader_uniformity.specs.Marks.{leads}
use Rattle.shader_uniformity.specs.Places.{place_at}
use Rattle.shader_uniformity.specs.Positions.{reads_at, writes_at}
use Rattle.shader_uniformity.specs.declared.facts.Fact.{Fact}
use Rattle.shader_uniformity.specs.declared.facts.Fact.TheVariants.{Always, Flow, Argument, Behind, Apart, Differs, Holds, Must, Gives}
use Rattle.shader_uniformity.specs.declared.facts.Fact.TheVariants.{Left}
use Rattle.shader_uniformity.specs.declared.facts.Place.{Place}
use Rattle.shader_uniformity.specs.declared.facts.Rule.{Rule}

-- a result that differs, where there is one
abbrev pub gives_to : Fact → Option ℕ → List Rule
gives_to cause (Some expression) = leads cause (Differs expression) ∷ []
gives_to cause None = []

-- the call at n, with `around`, passes `arguments` and has `value` for its result
module _ (places : List Place) (n : ℕ) (around : Option ℕ) (arguments : List ℕ) (value : Option ℕ) where
  -- an argument that isn't passed may be anything
  abbrev pub passed_differs : Option ℕ → Fact
  passed_differs (Some expression) = Differs expression
  passed_differs None = Always

  abbrev pub passed_holds : Option ℕ → Fact
  passed_holds (Some expression) = Holds (place_at places expression) (reads_at n around)
  passed_holds None = Always

  -- the caller's fact for one with which the called function begins
  abbrev pub cause_of : Fact → Fact
  cause_of Flow = Apart n
  cause_of (Argument i) = passed_differs (slice_get arguments i)
  cause_of (Behind i) = passed_holds (slice_get arguments i)
  cause_of _ = Always

  abbrev pub leaves_to : Fact → Option ℕ → List Rule
  leaves_to cause (Some expression) = leads cause (Holds (place_at places expression) (writes_at n around)) ∷ []
  leaves_to cause None = []

  -- and for one with which it ends
  abbrev pub effect_rules : Fact → Fact → List Rule
  effect_rules cause Must = leads cause Must ∷ []
  effect_rules cause Gives = gives_to cause value
  effect_rules cause (Left i) = leaves_to cause (slice_get arguments i)
  effect_rules cause _ = []

  abbrev pub filled : Rule → List Rule
  filled rule = effect_rules (cause_of rule.cause) rule.effect

  -- by what is known of the called function. Of one that isn't decided the worst is taken
  abbrev pub known_rules : Option (List Rule) → List Rule
  known_rules (Some known) = flat_map filled known
  known_rules None = leads Always Must ∷ []

  -- the result differs where the call is apart, whatever is known
  abbrev pub call_rules : Option (List Rule) → List Rule
  call_rules known = gives_to (Apart n) value ++ known_rules known

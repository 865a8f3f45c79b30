-- What needs all invocations together.
use Rattle.std.specs.Prelude.{ℕ, Bool, true, false, List, [], ◌∷◌}
use Rattle.shader_ir.specs.declared.expression.SampleLevel.TheVariants as level
use Rattle.shader_uniformity.specs.Words.{SampleLevel}
use Rattle.shader_uniformity.specs.Marks.{leads}
use Rattle.shader_uniformity.specs.declared.facts.Fact.TheVariants.{Apart, Must}
use Rattle.shader_uniformity.specs.declared.facts.Rule.{Rule}

-- the level is computed from neighbouring invocations
abbrev pub is_implicit : SampleLevel → Bool
is_implicit level.Auto = true
is_implicit (level.Bias bias) = true
is_implicit _ = false

-- a need at a position
abbrev pub need : ℕ → List Rule
need n = leads (Apart n) Must ∷ []

-- a need of a derivative or an implicit level, which a diagnostic filter may lift
abbrev pub emitted_need : Bool → ℕ → List Rule
emitted_need true n = need n
emitted_need false n = []

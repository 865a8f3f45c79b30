-- Which jumps leave a block or statement.
use Rattle.std.specs.Prelude.{ℕ, Bool, true, false, ◌||◌, List, [], ◌∷◌}
use Rattle.shader_uniformity.specs.Words.{Body, End, Then, Step, Leaf, Nested, If, Switch, Loop, Cases, NoCase, Case, Simple, Continue}
use Rattle.shader_uniformity.specs.Words.{Return}
use Rattle.shader_uniformity.specs.Marks.{leads}
use Rattle.shader_uniformity.specs.declared.facts.Fact.TheVariants.{Apart, Leaves}
use Rattle.shader_uniformity.specs.declared.facts.Jump.{Jump}
use Rattle.shader_uniformity.specs.declared.facts.Jump.TheVariants as jump
use Rattle.shader_uniformity.specs.declared.facts.Rule.{Rule}

-- a jump that leaves `inner` leaves the block `outer` around it, and parts what stands `behind` the statement that holds `inner`
abbrev pub pass_rules : (inner outer behind : ℕ) → Jump → List Rule
pass_rules inner outer behind j = leads (Leaves j inner) (Leaves j outer) ∷ leads (Leaves j inner) (Apart behind) ∷ []

-- whatever the jump
abbrev pub all_pass_rules : (inner outer behind : ℕ) → List Rule
all_pass_rules inner outer behind =
    leads (Leaves jump.Break inner) (Leaves jump.Break outer) ∷ leads (Leaves jump.Break inner) (Apart behind) ∷
    leads (Leaves jump.Continue inner) (Leaves jump.Continue outer) ∷ leads (Leaves jump.Continue inner) (Apart behind) ∷
    leads (Leaves jump.Return inner) (Leaves jump.Return outer) ∷ leads (Leaves jump.Return inner) (Apart behind) ∷ []

-- each jump that leaves a block parts what stands at a position
abbrev pub part_rules : (inner behind : ℕ) → List Rule
part_rules inner behind =
    leads (Leaves jump.Break inner) (Apart behind) ∷ leads (Leaves jump.Continue inner) (Apart behind) ∷
    leads (Leaves jump.Return inner) (Apart behind) ∷ []

-- each jump that leaves a case leaves the cases
abbrev pub case_rules : (inner cases : ℕ) → List Rule
case_rules inner cases =
    leads (Leaves jump.Break inner) (Leaves jump.Break cases) ∷ leads (Leaves jump.Continue inner) (Leaves jump.Continue cases) ∷
    leads (Leaves jump.Return inner) (Leaves jump.Return cases) ∷ []

abbrev pub simple_escapes : Bool → Simple → Bool
simple_escapes continues Continue = continues
simple_escapes continues (Return value) = true
simple_escapes continues _ = false

-- whether a Return, or a Continue where those count, leaves
abbrev mutual
  pub step_escapes : Bool → Step → Bool
  step_escapes continues (Leaf simple) = simple_escapes continues simple
  step_escapes continues (Nested x) = block_escapes continues x
  step_escapes continues (If c x y) = block_escapes continues x || block_escapes continues y
  step_escapes continues (Switch e cs) = cases_escape continues cs
  step_escapes continues (Loop x y k) = block_escapes false x || block_escapes false y

  pub block_escapes : Bool → Body → Bool
  block_escapes continues End = false
  block_escapes continues (Then s b) = step_escapes continues s || block_escapes continues b

  pub cases_escape : Bool → Cases → Bool
  cases_escape continues NoCase = false
  cases_escape continues (Case v x fall cs) = block_escapes continues x || cases_escape continues cs

-- What a trace costs.
use Rattle.std.specs.Prelude.{ℕ, Bool, true, false, if◌then◌else◌}
use Rattle.shader_uniformity.specs.declared.facts.Fact.{Fact}
use Rattle.shader_uniformity.specs.declared.facts.Fact.TheVariants.{Flow, Behind, Left, Apart, Leaves, Holds}
use Rattle.shader_uniformity.specs.declared.facts.Rule.{Rule}

-- from the cause to the effect it is only a step in time, or from block to block
abbrev pub moves_on : (cause effect : Fact) → Bool
moves_on (Apart n) (Apart m) = true
moves_on (Leaves j n) (Leaves k m) = true
moves_on (Leaves j n) (Apart m) = true
moves_on Flow (Apart m) = true
moves_on (Behind i) (Holds p t) = true
moves_on (Holds p t) (Left i) = true
moves_on _ _ = false

-- such a rule costs nothing, and any other one
abbrev pub is_free : Rule → Bool
is_free rule = moves_on rule.cause rule.effect

abbrev pub cost : Rule → ℕ
cost rule = if is_free rule then 0 else 1

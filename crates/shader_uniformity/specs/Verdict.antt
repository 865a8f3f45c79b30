-- The verdict by what is known of the functions and by which entry points are at fault.
use Rattle.std.specs.Prelude.{ℕ, ◌+◌, Bool, true, false, List, [], ◌∷◌, Option, Some, None}
use Rattle.std.specs.List.{list_any}
use Rattle.shader_uniformity.specs.declared.facts.BodyLocation.{BodyLocation}
use Rattle.shader_uniformity.specs.declared.facts.BodyLocation.TheVariants as body
use Rattle.shader_uniformity.specs.declared.facts.Fact.{Fact}
use Rattle.shader_uniformity.specs.declared.facts.Fact.TheVariants.{Always, Must}
use Rattle.shader_uniformity.specs.declared.facts.Rule.{Rule}

abbrev pub is_fault_pair : Fact → Fact → Bool
is_fault_pair Always Must = true
is_fault_pair _ _ = false

-- each call has a fault
abbrev pub is_fault_rule : Rule → Bool
is_fault_rule rule = is_fault_pair rule.cause rule.effect

abbrev pub faults_alone : List Rule → Bool
faults_alone known = list_any is_fault_rule known

-- the first entry point at fault, of those from number i on
abbrev pub point_from : ℕ → List Bool → Option BodyLocation
point_from i [] = None
point_from i (true ∷ faulty) = Some (body.EntryPoint i)
point_from i (false ∷ faulty) = point_from (i + 1) faulty

abbrev pub function_or : Bool → ℕ → Option BodyLocation → Option BodyLocation
function_or true i rest = Some (body.Function i)
function_or false i rest = rest

-- the first function at fault, of those from number i on, or else the first entry point
abbrev pub verdict_from : ℕ → List Bool → List (List Rule) → Option BodyLocation
verdict_from i faulty [] = point_from 0 faulty
verdict_from i faulty (rules ∷ known) = function_or (faults_alone rules) i (verdict_from (i + 1) faulty known)

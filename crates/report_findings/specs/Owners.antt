-- Statements with blocks, and where they stand.
use Rattle.std.specs.Prelude.{◌≡◌, ℕ, ⊤, List, [], ◌∷◌}
use Rattle.shader_ir.specs.Body.{Body, If}
use Rattle.shader_uniformity.specs.Positions.{step_end}
use Rattle.report_places.specs.Ways.{Leads}
use Rattle.report_places.specs.declared.paths.PathStep.{PathStep}
use Rattle.report_places.specs.declared.paths.PathStep.TheVariants as to
use Rattle.report_findings.specs.declared.owners.Found.{Found}
use Rattle.report_findings.specs.declared.owners.Found.TheVariants.{Entered, Behind}

-- a search that found nothing ends there
abbrev pub IsBehind : Found → ℕ → Type 0
IsBehind (Entered entry) end = ⊤
IsBehind (Behind position) end = position ≡ end

-- the statement of that index of a body's own statements is an `if`, from one position up to before another one
pub record IsIfAt (b : Body) (index begin end : ℕ) : Type 0 where
  pub condition : ℕ
  pub accept : Body
  pub reject : Body
  pub leads : Leads 0 1 b (to.Statement index ∷ []) begin (If condition accept reject)
  pub behind : end ≡ step_end begin (If condition accept reject)

-- a way leads to one of the statements in the blocks of that `if`
abbrev pub IsInIf : (index : ℕ) → List PathStep → Type 0
IsInIf index (to.Statement i ∷ to.Accept ∷ to.Statement j ∷ []) = i ≡ index
IsInIf index (to.Statement i ∷ to.Reject ∷ to.Statement j ∷ []) = i ≡ index
IsInIf index way = ⊥

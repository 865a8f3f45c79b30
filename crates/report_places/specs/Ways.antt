-- Which statement a way leads to.
use Rattle.std.specs.Prelude.{◌≡◌, ℕ, ◌+◌, Bool, true, List, ◌∷◌, [], Option, Some, None}
use Rattle.shader_ir.specs.Body.{Body, Then, Step, Nested, If, Switch, Loop, Cases, Case}
use Rattle.shader_ir.specs.declared.statement.SwitchValue.{SwitchValue}
use Rattle.shader_uniformity.specs.Positions.{block_end, step_end}
use Rattle.report_places.specs.Paths.{is_wanted}
use Rattle.report_places.specs.declared.paths.PathStep.{PathStep}
use Rattle.report_places.specs.declared.paths.PathStep.TheVariants as to
use Rattle.report_places.specs.declared.paths.Wanted.{Wanted}

mutual
  -- from the statements of a block from number i on, of which the first is at n, to the statement t at p
  pub data Leads : (i n : ℕ) → Body → List PathStep → (p : ℕ) → (t : Step) → Type 0 where
    here : {i n : ℕ} {s : Step} {b : Body} → Leads i n (Then s b) (to.Statement i ∷ []) n s
    within : {i n p : ℕ} {s t : Step} {b : Body} {way : List PathStep} → LeadsInto n s way p t →
        Leads i n (Then s b) (to.Statement i ∷ way) p t
    later : {i n p : ℕ} {s t : Step} {b : Body} {way : List PathStep} → Leads (i + 1) (step_end n s) b way p t →
        Leads i n (Then s b) way p t

  -- from the statement at n, into one of its blocks
  pub data LeadsInto : (n : ℕ) → Step → List PathStep → (p : ℕ) → (t : Step) → Type 0 where
    nested : {n p : ℕ} {x : Body} {t : Step} {way : List PathStep} → Leads 0 (n + 1) x way p t →
        LeadsInto n (Nested x) (to.Block ∷ way) p t
    accept : {n c p : ℕ} {x y : Body} {t : Step} {way : List PathStep} → Leads 0 (n + 1) x way p t →
        LeadsInto n (If c x y) (to.Accept ∷ way) p t
    reject : {n c p : ℕ} {x y : Body} {t : Step} {way : List PathStep} → Leads 0 (block_end (n + 1) x) y way p t →
        LeadsInto n (If c x y) (to.Reject ∷ way) p t
    body : {n p : ℕ} {x y : Body} {k : Option ℕ} {t : Step} {way : List PathStep} → Leads 0 ((n + 1) + 1) x way p t →
        LeadsInto n (Loop x y k) (to.Body ∷ way) p t
    continuing : {n p : ℕ} {x y : Body} {k : Option ℕ} {t : Step} {way : List PathStep} →
        Leads 0 (block_end ((n + 1) + 1) x) y way p t → LeadsInto n (Loop x y k) (to.Continuing ∷ way) p t
    switch : {n e p : ℕ} {cs : Cases} {t : Step} {way : List PathStep} → LeadsIntoCase 0 ((n + 1) + 1) cs way p t →
        LeadsInto n (Switch e cs) way p t

  -- into one of the cases from number i on, of which the first is at n
  pub data LeadsIntoCase : (i n : ℕ) → Cases → List PathStep → (p : ℕ) → (t : Step) → Type 0 where
    this : {i n p : ℕ} {v : SwitchValue} {x : Body} {fall : Bool} {cs : Cases} {t : Step} {way : List PathStep} →
        Leads 0 n x way p t → LeadsIntoCase i n (Case v x fall cs) (to.Case i ∷ way) p t
    other : {i n p : ℕ} {v : SwitchValue} {x : Body} {fall : Bool} {cs : Cases} {t : Step} {way : List PathStep} →
        LeadsIntoCase (i + 1) (block_end n x) cs way p t → LeadsIntoCase i n (Case v x fall cs) way p t

-- the way leads from a body to a statement that is wanted
pub record IsWayTo (w : Wanted) (b : Body) (way : List PathStep) : Type 0 where
  pub position : ℕ
  pub statement : Step
  pub leads : Leads 0 1 b way position statement
  pub wanted : is_wanted w position statement ≡ true

-- a search finds such a way exactly if there is one
abbrev pub Finds : Wanted → Body → Option (List PathStep) → Type 0
Finds w b (Some way) = IsWayTo w b way
Finds w b None = (way : List PathStep) → IsWayTo w b way → ⊥

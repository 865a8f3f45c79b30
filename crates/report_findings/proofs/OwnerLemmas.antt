-- Ways to the statements of a body, one statement after another.
use Rattle.std.proofs.Common.{◌≡◌, ℕ, ◌+◌, ◌<◌, List, [], ◌∷◌, drop, get_or, length, subst, sym}
use Rattle.std.proofs.lemmas.List.{drop_more}
use Rattle.shader_ir.specs.Body.{Body, Step, If}
use Rattle.shader_ir.specs.BodyOf.{body_of, step_of}
use Rattle.shader_ir.specs.declared.statement.Statement.{Statement}
use Rattle.shader_uniformity.specs.Positions.{step_end}
use Rattle.report_places.specs.Ways.{Leads, here, later}
use Rattle.report_places.specs.declared.paths.PathStep.{PathStep}
use Rattle.report_places.specs.declared.paths.PathStep.TheVariants as to
use Rattle.report_findings.specs.Owners.{IsIfAt}

-- from the statements from number i on, of which the first is at n, ways lead to what they lead to from all
abbrev pub AreWays : (whole : Body) → (i n : ℕ) → List Statement → Type 0
AreWays whole i n left = (way : List PathStep) (p : ℕ) (t : Step) → Leads i n (body_of left) way p t → Leads 0 1 whole way p t

-- behind one more statement
pub one_behind : (whole : Body) (items : List Statement) (i n end : ℕ) (s : Statement) → i < length items → s ≡ get_or items i s →
    end ≡ step_end n (step_of s) → AreWays whole i n (drop i items) → AreWays whole (i + 1) end (drop (i + 1) items)
one_behind whole items i n end s within is behind all = λ way p t leads.
    all way p t (subst (λ (v : List Statement). Leads i n (body_of v) way p t) (sym (drop_more items i s within))
    (later (subst (λ (v : Statement). Leads (i + 1) (step_end n (step_of v)) (body_of (drop (i + 1) items)) way p t) is
    (subst (λ (v : ℕ). Leads (i + 1) v (body_of (drop (i + 1) items)) way p t) behind leads))))

-- the statement that is an `if`
pub found_if : (whole : Body) (items : List Statement) (i n end : ℕ) (s : Statement) (condition : ℕ) (accept reject : Body) →
    i < length items → s ≡ get_or items i s → end ≡ step_end n (step_of s) → step_of s ≡ If condition accept reject →
    AreWays whole i n (drop i items) → IsIfAt whole i n end
found_if whole items i n end s condition accept reject within is behind form all = record {
  condition = condition;
  accept = accept;
  reject = reject;
  leads = subst (λ (v : Step). Leads 0 1 whole (to.Statement i ∷ []) n v) form
      (all (to.Statement i ∷ []) n (step_of s)
      (subst (λ (v : List Statement). Leads i n (body_of v) (to.Statement i ∷ []) n (step_of s)) (sym (drop_more items i s within))
      (subst (λ (v : Statement). Leads i n (body_of (get_or items i s ∷ drop (i + 1) items)) (to.Statement i ∷ []) n (step_of v))
      (sym is) here)));
  behind = subst (λ (v : Step). end ≡ step_end n v) form behind;
}

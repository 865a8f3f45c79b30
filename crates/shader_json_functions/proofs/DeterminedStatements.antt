-- Blocks of statements are determined by their JSON.
use Rattle.std.proofs.Common.{◌≡◌, ◌∙◌, ap, sym, refl, ℕ, List, Bool, Option}
use Rattle.std.proofs.Common.{codes}
use Rattle.json.specs.Json.{Json, Items, no_items, item, Members}
use Rattle.shader_json_reader.specs.Numbers.{IsHandle, IsTruth}
use Rattle.shader_json_reader.specs.Shapes.{IsOnly, IsArray, values_of}
use Rattle.shader_json_reader.specs.Shapes.{Determines}
use Rattle.shader_json_reader.proofs.NumberLemmas.{handle_same, truth_same}
use Rattle.shader_json_reader.proofs.ShapeLemmas.{apart, field, optional}
use Rattle.shader_json_reader.proofs.ShapeLemmas.{same_object, same_struct, same_variant}
use Rattle.shader_ir.specs.declared.statement.SwitchValue.{SwitchValue}
use Rattle.shader_ir.specs.Body.{Body, End, Then, Step, Leaf, Nested, Cases, NoCase, Case, Simple}
use Rattle.shader_ir.specs.Body as s
use Rattle.shader_json_functions.specs.Operations.{IsSwitchValue}
use Rattle.shader_json_functions.specs.Statements.{AreCases, AreStatements, IsBlock, IsStepOf}
use Rattle.shader_json_functions.proofs.DeterminedOperations.{switch_value_same}
use Rattle.shader_json_reader.proofs.ShapeLemmas.{same_array, same_only, same_some}
use Rattle.shader_json_functions.proofs.DeterminedSimple.{label_simple, labelled_simple, simple_of, not_block, not_if, not_switch, not_loop}

-- a list of statements as a field
field_body : (name : List ℕ) (ms : Members) (x y : Body) → ((js : Items) → AreStatements x js → AreStatements y js → x ≡ y)
    → IsOnly (λ j. IsArray j (λ js. AreStatements x js)) (values_of name ms)
    → IsOnly (λ j. IsArray j (λ js. AreStatements y js)) (values_of name ms) → x ≡ y
field_body name ms x y same u v = same_only _ _ _ _ (λ j p q. same_array _ _ _ _ same j p q) (values_of name ms) u v

-- cases as a field
field_cases : (name : List ℕ) (ms : Members) (x y : Cases) → ((js : Items) → AreCases x js → AreCases y js → x ≡ y)
    → IsOnly (λ j. IsArray j (λ js. AreCases x js)) (values_of name ms)
    → IsOnly (λ j. IsArray j (λ js. AreCases y js)) (values_of name ms) → x ≡ y
field_cases name ms x y same u v = same_only _ _ _ _ (λ j p q. same_array _ _ _ _ same j p q) (values_of name ms) u v

mutual
  statements_same : (x y : Body) (js : Items) → AreStatements x js → AreStatements y js → x ≡ y
  statements_same End End js u v = refl
  statements_same End (Then step rest) no_items u v = absurd v
  statements_same End (Then step rest) (item j js) u v = absurd u
  statements_same (Then step rest) End no_items u v = absurd u
  statements_same (Then step rest) End (item j js) u v = absurd v
  statements_same (Then step rest) (Then step′ rest′) no_items u v = absurd u
  statements_same (Then step rest) (Then step′ rest′) (item j js) u v = λ i. Then
      (same_variant _ _ _ _ (λ name payload p q. step_of step step′ name payload p q) j u.0 v.0 i)
      (statements_same rest rest′ js u.1 v.1 i)

  step_of : (x y : Step) (name : List ℕ) (payload : Option Json) → IsStepOf x name payload → IsStepOf y name payload → x ≡ y
  step_of (Leaf x) (Leaf x′) name payload u v = ap Leaf (simple_of name payload x x′ u v)
  step_of (Nested x) (Nested x′) name payload u v = ap Nested
      (same_some _ _ _ _ (λ j p q. same_array _ _ _ _ (λ js. statements_same x x′ js) j p q) payload u.1 v.1)
  step_of (s.If c x y) (s.If c′ x′ y′) name payload u v = same_struct _ _ _ _
      (λ ms p q i. s.If (field IsHandle handle_same (codes "condition") ms c c′ p.0 q.0 i)
      (field_body (codes "accept") ms x x′ (λ js. statements_same x x′ js) p.1 q.1 i)
      (field_body (codes "reject") ms y y′ (λ js. statements_same y y′ js) p.2 q.2 i)) payload u.1 v.1
  step_of (s.Switch c x) (s.Switch c′ x′) name payload u v = same_struct _ _ _ _
      (λ ms p q i. s.Switch (field IsHandle handle_same (codes "selector") ms c c′ p.0 q.0 i)
      (field_cases (codes "cases") ms x x′ (λ js. cases_same x x′ js) p.1 q.1 i)) payload u.1 v.1
  step_of (s.Loop x y c) (s.Loop x′ y′ c′) name payload u v = same_struct _ _ _ _
      (λ ms p q i. s.Loop (field_body (codes "body") ms x x′ (λ js. statements_same x x′ js) p.0 q.0 i)
      (field_body (codes "continuing") ms y y′ (λ js. statements_same y y′ js) p.1 q.1 i)
      (optional IsHandle handle_same (codes "break_if") ms c c′ p.2 q.2 i)) payload u.1 v.1
  step_of (Leaf x) (Nested x′) name payload u v = apart (label_simple x) (codes "Block") (not_block x)
      (sym (labelled_simple name payload x u) ∙ v.0)
  step_of (Leaf x) (s.If c′ x′ y′) name payload u v = apart (label_simple x) (codes "If") (not_if x)
      (sym (labelled_simple name payload x u) ∙ v.0)
  step_of (Leaf x) (s.Switch c′ x′) name payload u v = apart (label_simple x) (codes "Switch") (not_switch x)
      (sym (labelled_simple name payload x u) ∙ v.0)
  step_of (Leaf x) (s.Loop x′ y′ c′) name payload u v = apart (label_simple x) (codes "Loop") (not_loop x)
      (sym (labelled_simple name payload x u) ∙ v.0)
  step_of (Nested x) (Leaf x′) name payload u v = apart (label_simple x′) (codes "Block") (not_block x′)
      (sym (labelled_simple name payload x′ v) ∙ u.0)
  step_of (Nested x) (s.If c′ x′ y′) name payload u v = apart (codes "Block") (codes "If") refl (sym u.0 ∙ v.0)
  step_of (Nested x) (s.Switch c′ x′) name payload u v = apart (codes "Block") (codes "Switch") refl (sym u.0 ∙ v.0)
  step_of (Nested x) (s.Loop x′ y′ c′) name payload u v = apart (codes "Block") (codes "Loop") refl (sym u.0 ∙ v.0)
  step_of (s.If c x y) (Leaf x′) name payload u v = apart (label_simple x′) (codes "If") (not_if x′)
      (sym (labelled_simple name payload x′ v) ∙ u.0)
  step_of (s.If c x y) (Nested x′) name payload u v = apart (codes "If") (codes "Block") refl (sym u.0 ∙ v.0)
  step_of (s.If c x y) (s.Switch c′ x′) name payload u v = apart (codes "If") (codes "Switch") refl (sym u.0 ∙ v.0)
  step_of (s.If c x y) (s.Loop x′ y′ c′) name payload u v = apart (codes "If") (codes "Loop") refl (sym u.0 ∙ v.0)
  step_of (s.Switch c x) (Leaf x′) name payload u v = apart (label_simple x′) (codes "Switch") (not_switch x′)
      (sym (labelled_simple name payload x′ v) ∙ u.0)
  step_of (s.Switch c x) (Nested x′) name payload u v = apart (codes "Switch") (codes "Block") refl (sym u.0 ∙ v.0)
  step_of (s.Switch c x) (s.If c′ x′ y′) name payload u v = apart (codes "Switch") (codes "If") refl (sym u.0 ∙ v.0)
  step_of (s.Switch c x) (s.Loop x′ y′ c′) name payload u v = apart (codes "Switch") (codes "Loop") refl (sym u.0 ∙ v.0)
  step_of (s.Loop x y c) (Leaf x′) name payload u v = apart (label_simple x′) (codes "Loop") (not_loop x′)
      (sym (labelled_simple name payload x′ v) ∙ u.0)
  step_of (s.Loop x y c) (Nested x′) name payload u v = apart (codes "Loop") (codes "Block") refl (sym u.0 ∙ v.0)
  step_of (s.Loop x y c) (s.If c′ x′ y′) name payload u v = apart (codes "Loop") (codes "If") refl (sym u.0 ∙ v.0)
  step_of (s.Loop x y c) (s.Switch c′ x′) name payload u v = apart (codes "Loop") (codes "Switch") refl (sym u.0 ∙ v.0)

  cases_same : (x y : Cases) (js : Items) → AreCases x js → AreCases y js → x ≡ y
  cases_same NoCase NoCase js u v = refl
  cases_same NoCase (Case selected body fall_through rest) no_items u v = absurd v
  cases_same NoCase (Case selected body fall_through rest) (item j js) u v = absurd u
  cases_same (Case selected body fall_through rest) NoCase no_items u v = absurd u
  cases_same (Case selected body fall_through rest) NoCase (item j js) u v = absurd v
  cases_same (Case selected body fall_through rest) (Case selected′ body′ fall_through′ rest′) no_items u v = absurd u
  cases_same (Case selected body fall_through rest) (Case selected′ body′ fall_through′ rest′) (item j js) u v =
      let e : ◌≡◌ {A = SwitchValue × Body × Bool} (selected, body, fall_through) (selected′, body′, fall_through′) = same_object _ _ _ _
      (λ ms p q i. (
        field IsSwitchValue switch_value_same (codes "value") ms selected selected′ p.0 q.0 i,
        field_body (codes "body") ms body body′ (λ js. statements_same body body′ js) p.1 q.1 i,
        field IsTruth truth_same (codes "fall_through") ms fall_through fall_through′ p.2 q.2 i,
      )) j u.0 v.0 in
      λ i. Case (e i).0 (e i).1 (e i).2 (cases_same rest rest′ js u.1 v.1 i)

pub block_same : Determines IsBlock
block_same j x y u v = same_array _ _ _ _ (λ js. statements_same x y js) j u v

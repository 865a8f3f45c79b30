-- What reading a statement accepts.
use Rattle.std.proofs.Common.{◌≡◌, ◌≢◌, ◌<◌, ℕ, zero, suc, List, [], ◌∷◌, Bool, Option, Some, Global, Result, arith, codes, get_or}
use Rattle.std.proofs.Common.{length, refl, subst, sym}
use Rattle.std.specs.Result.{IsErrAnd}
use Rattle.json.specs.Json.{Json, object, Members}
use Rattle.json.specs.Value.{value_view, items_view}
use Rattle.json.specs.declared.value.Value.{Value}
use Rattle.shader_ir.specs.Body.{Body, End, Then, Step, Leaf, Nested, Cases, NoCase, Case, Simple}
use Rattle.shader_ir.specs.Body as s
use Rattle.shader_ir.specs.declared.statement.SwitchValue.{SwitchValue}
use Rattle.shader_json_reader.specs.Answers.{Accepts, IsOfMemory, IsUnrefused}
use Rattle.shader_json_reader.specs.Numbers.{IsHandle}
use Rattle.shader_json_reader.specs.Shapes.{HasField, IsArray, IsObject, IsOnly, MayHaveField, values_of}
use Rattle.shader_json_reader.specs.declared.failure.Failure.{Failure}
use Rattle.shader_json_reader.proofs.AnswerLemmas.{no_object}
use Rattle.shader_json_reader.proofs.ShapeLemmas.{apart}
use Rattle.shader_json_functions.specs.Statements.{AreCases, AreStatements, IsBlock, IsCase, IsSimpleOf, IsStatement, IsStepOf}
use Rattle.shader_json_functions.proofs.DeterminedSimple.{label_simple, labelled_simple, not_block, not_if, not_switch, not_loop}

-- two facts on the members of an object, in the other order
pub swapped : (P Q : Members → Type 0) (j : Json) → IsObject j (λ ms. P ms × Q ms) → IsObject j (λ ms. Q ms × P ms)
swapped P Q (object ms) h = (h.1, h.0)
swapped P Q j h = absurd h

-- what is accepted under a name
pub under : {A B : Type 0} (P : List ℕ → A → Type 0) (name wanted : List ℕ) (r : Result B Failure) → name ≡ wanted → Accepts (P wanted) r
    → Accepts (P name) r
under P name wanted r is accepts x h = accepts x (subst (λ n. P n x) is h)

-- what is no object has no members
pub no_members_in : {B : Type 0} (P : Members → Type 0) (j : Json) (failure : Failure) (r : Result B Failure)
    → IsErrAnd r (λ e. e ≡ failure) → ((ms : Members) → j ≡ object ms → IsOfMemory failure) → IsObject j P → IsUnrefused r
no_members_in P j failure r is accepts h = no_object (λ (k : Json) ms. P ms) j failure r is accepts j h

-- ---- the items of a block or of a switch

pub nth_statement : {X : Type 0} (vs : List (Value Global)) (i : ℕ) (v : Value Global) (x : Body) → i < length vs → v ≡ get_or vs i v
    → AreStatements x (items_view vs) → ((step : Step) → IsStatement (value_view v) step → X) → X
nth_statement [] i v x within is u f = absurd (omega arith)
nth_statement (w ∷ vs) i v End within is u f = absurd u
nth_statement (w ∷ vs) zero v (Then step rest) within is u f =
    f step (subst (λ (y : Value Global). IsStatement (value_view y) step) (sym is) u.0)
nth_statement (w ∷ vs) (suc i) v (Then step rest) within is u f = nth_statement vs i v rest (omega arith) is u.1 f

pub nth_case : {X : Type 0} (vs : List (Value Global)) (i : ℕ) (v : Value Global) (x : Cases) → i < length vs → v ≡ get_or vs i v
    → AreCases x (items_view vs)
    → ((case : SwitchValue × Body × Bool) → IsCase (value_view v) case.0 case.1 case.2 → X) → X
nth_case [] i v x within is u f = absurd (omega arith)
nth_case (w ∷ vs) i v NoCase within is u f = absurd u
nth_case (w ∷ vs) zero v (Case selected body fall_through rest) within is u f =
    f (selected, body, fall_through) (subst (λ (y : Value Global). IsCase (value_view y) selected body fall_through) (sym is) u.0)
nth_case (w ∷ vs) (suc i) v (Case selected body fall_through rest) within is u f = nth_case vs i v rest (omega arith) is u.1 f

-- ---- statements that contain blocks

-- a statement of another name contains none
pub of_simple : {X : Type 0} (name : List ℕ) (payload : Option Json) → name ≢ codes "Block" → name ≢ codes "If" → name ≢ codes "Switch"
    → name ≢ codes "Loop" → ((x : Simple) → IsSimpleOf name payload x → X) → (x : Step) → IsStepOf x name payload → X
of_simple name payload not_block not_if not_switch not_loop f (Leaf x) u = f x u
of_simple name payload not_block not_if not_switch not_loop f (Nested body) u = absurd (not_block u.0)
of_simple name payload not_block not_if not_switch not_loop f (s.If condition accept reject) u = absurd (not_if u.0)
of_simple name payload not_block not_if not_switch not_loop f (s.Switch selector cases) u = absurd (not_switch u.0)
of_simple name payload not_block not_if not_switch not_loop f (s.Loop body continuing break_if) u = absurd (not_loop u.0)

pub of_nested : {X : Type 0} (payload : Json) → ((body : Body) → IsBlock payload body → X)
    → (x : Step) → IsStepOf x (codes "Block") (Some payload) → X
of_nested payload f (Nested body) u = f body u.1
of_nested payload f (Leaf x) u = apart (label_simple x) (codes "Block") (not_block x)
    (sym (labelled_simple (codes "Block") (Some payload) x u))
of_nested payload f (s.If condition accept reject) u = apart (codes "Block") (codes "If") refl u.0
of_nested payload f (s.Switch selector cases) u = apart (codes "Block") (codes "Switch") refl u.0
of_nested payload f (s.Loop body continuing break_if) u = apart (codes "Block") (codes "Loop") refl u.0

pub of_if : {X : Type 0} (payload : Json)
    → ((condition : ℕ) (accept reject : Body) → IsObject payload (λ ms. HasField IsHandle (codes "condition") ms condition
    × IsOnly (λ j. IsBlock j accept) (values_of (codes "accept") ms) × IsOnly (λ j. IsBlock j reject) (values_of (codes "reject") ms)) → X)
    → (x : Step) → IsStepOf x (codes "If") (Some payload) → X
of_if payload f (s.If condition accept reject) u = f condition accept reject u.1
of_if payload f (Leaf x) u = apart (label_simple x) (codes "If") (not_if x) (sym (labelled_simple (codes "If") (Some payload) x u))
of_if payload f (Nested body) u = apart (codes "If") (codes "Block") refl u.0
of_if payload f (s.Switch selector cases) u = apart (codes "If") (codes "Switch") refl u.0
of_if payload f (s.Loop body continuing break_if) u = apart (codes "If") (codes "Loop") refl u.0

pub of_switch : {X : Type 0} (payload : Json)
    → ((selector : ℕ) (cases : Cases) → IsObject payload (λ ms. HasField IsHandle (codes "selector") ms selector
    × IsOnly (λ j. IsArray j (λ js. AreCases cases js)) (values_of (codes "cases") ms)) → X)
    → (x : Step) → IsStepOf x (codes "Switch") (Some payload) → X
of_switch payload f (s.Switch selector cases) u = f selector cases u.1
of_switch payload f (Leaf x) u = apart (label_simple x) (codes "Switch") (not_switch x)
    (sym (labelled_simple (codes "Switch") (Some payload) x u))
of_switch payload f (Nested body) u = apart (codes "Switch") (codes "Block") refl u.0
of_switch payload f (s.If condition accept reject) u = apart (codes "Switch") (codes "If") refl u.0
of_switch payload f (s.Loop body continuing break_if) u = apart (codes "Switch") (codes "Loop") refl u.0

pub of_loop : {X : Type 0} (payload : Json)
    → ((body continuing : Body) (break_if : Option ℕ) → IsObject payload (λ ms. IsOnly (λ j. IsBlock j body) (values_of (codes "body") ms)
    × IsOnly (λ j. IsBlock j continuing) (values_of (codes "continuing") ms) × MayHaveField IsHandle (codes "break_if") ms break_if) → X)
    → (x : Step) → IsStepOf x (codes "Loop") (Some payload) → X
of_loop payload f (s.Loop body continuing break_if) u = f body continuing break_if u.1
of_loop payload f (Leaf x) u = apart (label_simple x) (codes "Loop") (not_loop x) (sym (labelled_simple (codes "Loop") (Some payload) x u))
of_loop payload f (Nested body) u = apart (codes "Loop") (codes "Block") refl u.0
of_loop payload f (s.If condition accept reject) u = apart (codes "Loop") (codes "If") refl u.0
of_loop payload f (s.Switch selector cases) u = apart (codes "Loop") (codes "Switch") refl u.0

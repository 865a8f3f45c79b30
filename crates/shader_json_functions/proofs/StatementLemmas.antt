-- Blocks and cases that are read statement by statement and case by case.
use Rattle.std.proofs.Common.{◌≡◌, ℕ, zero, suc, refl, ◌+◌, ◌<◌, ◌≤◌, List, [], ◌∷◌, ◌++◌, ◌∙◌, ap, sym, subst, take, get_or, length}
use Rattle.std.proofs.Common.{Global, arith}
use Rattle.std.proofs.lemmas.List.{take_more}
use Rattle.json.specs.Json.{Json, Items, array, boolean, item, no_items, null, number, object, string}
use Rattle.json.specs.Token.{Token}
use Rattle.json.specs.Value.{value_view, items_view}
use Rattle.json.specs.declared.value.Value.{Value}
use Rattle.shader_ir.specs.BodyOf.{body_of, cases_of, step_of}
use Rattle.shader_ir.specs.declared.statement.Statement.{Statement}
use Rattle.shader_ir.specs.declared.statement.SwitchCase.{SwitchCase}
use Rattle.shader_json_reader.specs.Shapes.{Each, IsArray, IsList}
use Rattle.shader_json_declarations.proofs.ListLemmas.{take_over}
use Rattle.shader_json_functions.specs.Next.{IsNext}
use Rattle.shader_json_functions.specs.Statements.{AreCases, AreStatements, IsBlock, IsCase, IsStatement}

front : (vs : List (Value Global)) (i : ℕ) (v : Value Global) → i < length vs → v ≡ get_or vs i v → take i vs ++ v ∷ [] ≡ take (i + 1) vs
front vs i v within is = sym (take_more vs i v within ∙ ap (λ w. take i vs ++ w ∷ []) (sym is))

AreStatements-append : (vs : List (Value Global)) (v : Value Global) (xs : List Statement) (x : Statement)
    → AreStatements (body_of xs) (items_view vs) → IsStatement (value_view v) (step_of x)
    → AreStatements (body_of (xs ++ x ∷ [])) (items_view (vs ++ v ∷ []))
AreStatements-append [] v [] x each here = (here, tt)
AreStatements-append [] v (y ∷ ys) x each here = absurd each
AreStatements-append (w ∷ vs) v [] x each here = absurd each
AreStatements-append (w ∷ vs) v (y ∷ ys) x each here = (each.0, AreStatements-append vs v ys x each.1 here)

AreCases-append : (vs : List (Value Global)) (v : Value Global) (xs : List SwitchCase) (x : SwitchCase)
    → AreCases (cases_of xs) (items_view vs) → IsCase (value_view v) x.value x.body x.fall_through
    → AreCases (cases_of (xs ++ x ∷ [])) (items_view (vs ++ v ∷ []))
AreCases-append [] v [] x each here = (here, tt)
AreCases-append [] v (y ∷ ys) x each here = absurd each
AreCases-append (w ∷ vs) v [] x each here = absurd each
AreCases-append (w ∷ vs) v (y ∷ ys) x each here = (each.0, AreCases-append vs v ys x each.1 here)

-- one more statement is read
pub statements_more : (vs : List (Value Global)) (i : ℕ) (v : Value Global) (xs : List Statement) (x : Statement) (ys : List Statement)
    → ys ≡ xs ++ x ∷ [] → i < length vs → v ≡ get_or vs i v → AreStatements (body_of xs) (items_view (take i vs))
    → IsStatement (value_view v) (step_of x) → AreStatements (body_of ys) (items_view (take (i + 1) vs))
statements_more vs i v xs x ys pushed within is each here =
    let all : AreStatements (body_of (xs ++ x ∷ [])) (items_view (take (i + 1) vs)) =
    subst (λ (ws : List (Value Global)). AreStatements (body_of (xs ++ x ∷ [])) (items_view ws)) (front vs i v within is)
    (AreStatements-append (take i vs) v xs x each here) in
    subst (λ (zs : List Statement). AreStatements (body_of zs) (items_view (take (i + 1) vs))) (sym pushed) all

-- one more case is read
pub cases_more : (vs : List (Value Global)) (i : ℕ) (v : Value Global) (xs : List SwitchCase) (x : SwitchCase) (ys : List SwitchCase)
    → ys ≡ xs ++ x ∷ [] → i < length vs → v ≡ get_or vs i v → AreCases (cases_of xs) (items_view (take i vs))
    → IsCase (value_view v) x.value x.body x.fall_through → AreCases (cases_of ys) (items_view (take (i + 1) vs))
cases_more vs i v xs x ys pushed within is each here =
    let all : AreCases (cases_of (xs ++ x ∷ [])) (items_view (take (i + 1) vs)) =
    subst (λ (ws : List (Value Global)). AreCases (cases_of (xs ++ x ∷ [])) (items_view ws)) (front vs i v within is)
    (AreCases-append (take i vs) v xs x each here) in
    subst (λ (zs : List SwitchCase). AreCases (cases_of zs) (items_view (take (i + 1) vs))) (sym pushed) all

-- all statements of an array are read
pub all_statements : (j : Json) (vs : List (Value Global)) (i : ℕ) (xs : List Statement) → j ≡ array (items_view vs) → length vs ≤ i
    → AreStatements (body_of xs) (items_view (take i vs)) → IsBlock j (body_of xs)
all_statements j vs i xs is end each =
    let all : AreStatements (body_of xs) (items_view vs) =
    subst (λ (ws : List (Value Global)). AreStatements (body_of xs) (items_view ws)) (take_over vs i end) each in
    subst (λ (k : Json). IsBlock k (body_of xs)) (sym is) all

-- all cases of an array are read
pub all_cases : (j : Json) (vs : List (Value Global)) (i : ℕ) (xs : List SwitchCase) → j ≡ array (items_view vs) → length vs ≤ i
    → AreCases (cases_of xs) (items_view (take i vs)) → IsArray j (λ js. AreCases (cases_of xs) js)
all_cases j vs i xs is end each =
    let all : AreCases (cases_of xs) (items_view vs) =
    subst (λ (ws : List (Value Global)). AreCases (cases_of xs) (items_view ws)) (take_over vs i end) each in
    subst (λ (k : Json). IsArray k (λ js. AreCases (cases_of xs) js)) (sym is) all

-- the items of a block that stand for statements one by one
each_statement : (js : Items) (xs : List Statement)
    → Each (λ k statement. IsStatement k (step_of statement)) js xs → AreStatements (body_of xs) js
each_statement no_items [] each = tt
each_statement no_items (x ∷ xs) each = absurd each
each_statement (item j js) [] each = absurd each
each_statement (item j js) (x ∷ xs) each = (each.0, each_statement js xs each.1)

block_of_items : (j : Json) (xs : List Statement) → IsList (λ k statement. IsStatement k (step_of statement)) j xs → IsBlock j (body_of xs)
block_of_items null xs are = are
block_of_items (boolean b) xs are = are
block_of_items (number s) xs are = are
block_of_items (string s) xs are = are
block_of_items (array js) xs are = each_statement js xs are
block_of_items (object ms) xs are = are

-- the next value stands for a block if it stands for its statements
pub next_block : (depth : ℕ) (tokens rest : List Token) (xs : List Statement)
    → IsNext (IsList (λ k statement. IsStatement k (step_of statement))) depth tokens rest xs
    → IsNext IsBlock depth tokens rest (body_of xs)
next_block depth tokens rest xs read = record { j = read.j; next = read.next; stands = block_of_items read.j xs read.stands }

-- The first violation of a body is that of the list of its statements.
use Rattle.std.proofs.Common.{◌≡◌, ◌∙◌, refl, sym, ap, List, [], ◌∷◌, ◌++◌, Ok, Err}
use Rattle.shader_ir.specs.Body.{Body, End, Then, Step, Leaf, Nested, If, Switch, Loop, Cases, NoCase, Case}
use Rattle.shader_ir.specs.Occurs.{statements, statements_within, case_statements}
use Rattle.shader_resolve.specs.ModuleTests.{Checked, in_body, in_cases, in_list, in_within, then}

pub then-assoc : (first second third : Checked) → then (then first second) third ≡ then first (then second third)
then-assoc (Ok nothing) second third = refl
then-assoc (Err fault) second third = refl

in_list-append : {T : Type 0} (check : T → Checked) (xs ys : List T) → in_list check (xs ++ ys) ≡ then (in_list check xs) (in_list check ys)
in_list-append check [] ys = refl
in_list-append check (x ∷ xs) ys =
    ap (λ rest. then (check x) rest) (in_list-append check xs ys) ∙ sym (then-assoc (check x) (in_list check xs) (in_list check ys))

module _ (check : Step → Checked) where
  joined : (first rest : Checked) (xs ys : List Step) → first ≡ in_list check xs → rest ≡ in_list check ys →
      then first rest ≡ in_list check (xs ++ ys)
  joined first rest xs ys e f = ap (λ a. then a rest) e ∙ ap (λ b. then (in_list check xs) b) f ∙ sym (in_list-append check xs ys)

  mutual
    pub body-list : (body : Body) → in_body check body ≡ in_list check (statements body)
    body-list End = refl
    body-list (Then step rest) =
        ap (λ more. then (check step) more)
        (joined (in_within check step) (in_body check rest) (statements_within step) (statements rest) (within-list step) (body-list rest))

    within-list : (step : Step) → in_within check step ≡ in_list check (statements_within step)
    within-list (Leaf simple) = refl
    within-list (Nested body) = body-list body
    within-list (If condition accept reject) =
        joined (in_body check accept) (in_body check reject) (statements accept) (statements reject) (body-list accept) (body-list reject)
    within-list (Switch selector cases) = cases-list cases
    within-list (Loop body continuing break_if) =
        joined (in_body check body) (in_body check continuing) (statements body) (statements continuing) (body-list body)
        (body-list continuing)

    cases-list : (cases : Cases) → in_cases check cases ≡ in_list check (case_statements cases)
    cases-list NoCase = refl
    cases-list (Case value body fall_through rest) =
        joined (in_body check body) (in_cases check rest) (statements body) (case_statements rest) (body-list body) (cases-list rest)

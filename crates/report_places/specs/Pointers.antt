-- JSON pointers into a module, and the way to a statement as a text.
use Rattle.std.specs.Prelude.{ℕ, List, ◌++◌, codes}
use Rattle.std.specs.Fmt.{decimal}
use Rattle.std.specs.List.{flat_map}
use Rattle.report_places.specs.declared.body_place.BodyPlace.{BodyPlace}
use Rattle.report_places.specs.declared.body_place.BodyPlace.TheVariants as body
use Rattle.report_places.specs.declared.paths.PathStep.{PathStep}
use Rattle.report_places.specs.declared.paths.PathStep.TheVariants as to
use Rattle.report_places.specs.declared.pointers.Notation.{Notation}
use Rattle.report_places.specs.declared.pointers.Notation.TheVariants as notation

-- an item of a list
abbrev pub item_pointer : (list : List ℕ) → ℕ → List ℕ
item_pointer list i = codes "/" ++ (list ++ (codes "/" ++ decimal i))

abbrev pub body_pointer : BodyPlace → List ℕ
body_pointer (body.ConstExpression i) = item_pointer (codes "global_expressions") i
body_pointer (body.Function i) = item_pointer (codes "functions") i
body_pointer (body.EntryPoint i) = item_pointer (codes "entry_points") i ++ codes "/function"

-- an expression of a function; a global expression is its own
abbrev pub expression_pointer : BodyPlace → ℕ → List ℕ
expression_pointer (body.ConstExpression i) e = body_pointer (body.ConstExpression i)
expression_pointer place e = body_pointer place ++ item_pointer (codes "expressions") e

-- an argument of a function
abbrev pub argument_pointer : BodyPlace → ℕ → List ℕ
argument_pointer place i = body_pointer place ++ item_pointer (codes "arguments") i

-- a member of an object
abbrev pub member_in : Notation → (name : List ℕ) → List ℕ
member_in notation.Path name = codes "." ++ name
member_in notation.Pointer name = codes "/" ++ name

-- an item of a list
abbrev pub index_in : Notation → ℕ → List ℕ
index_in notation.Path i = codes "[" ++ (decimal i ++ codes "]")
index_in notation.Pointer i = codes "/" ++ decimal i

-- a step of the way to a statement
abbrev pub step_in : Notation → PathStep → List ℕ
step_in n (to.Statement i) = index_in n i
step_in n to.Block = member_in n (codes "Block")
step_in n to.Accept = member_in n (codes "If") ++ member_in n (codes "accept")
step_in n to.Reject = member_in n (codes "If") ++ member_in n (codes "reject")
step_in n to.Body = member_in n (codes "Loop") ++ member_in n (codes "body")
step_in n to.Continuing = member_in n (codes "Loop") ++ member_in n (codes "continuing")
step_in n (to.Case i) =
    member_in n (codes "Switch") ++ (member_in n (codes "cases") ++ (index_in n i ++ member_in n (codes "body")))

-- the way to a statement from the JSON object of its function
abbrev pub statement_text : List PathStep → List ℕ
statement_text way = codes "body" ++ flat_map (step_in notation.Path) way

abbrev pub statement_pointer : BodyPlace → List PathStep → List ℕ
statement_pointer place way = body_pointer place ++ (codes "/body" ++ flat_map (step_in notation.Pointer) way)

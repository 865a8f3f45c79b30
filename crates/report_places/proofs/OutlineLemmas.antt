-- The table of a body has the way to each of its statements.
use Rattle.std.proofs.Common.{◌≡◌, ◌∙◌, ℕ, ◌+◌, ◌<◌, Bool, true, false, List, [], ◌∷◌, ◌++◌, Option, Some, None, refl, sym, ap}
use Rattle.std.proofs.Common.{cond, length, zero, suc, arith}
use Rattle.std.proofs.lemmas.List.{append_assoc, length-append}
use Rattle.std.proofs.lemmas.Bool.Decides.{nat_tests}
use Rattle.std.specs.Prelude.{nat_eq}
use Rattle.std.specs.Option.{option_map}
use Rattle.shader_ir.specs.Body.{Body, End, Then, Step, Leaf, Nested, If, Switch, Loop, Cases, NoCase, Case}
use Rattle.shader_uniformity.specs.Positions.{block_end, cases_end, step_end}
use Rattle.report_places.specs.Outlines.{IsOutline, way_in, ways_in_block, ways_in_cases, ways_in_step, ways_of}
use Rattle.report_places.specs.Paths.{after, or_else, way_in_block, way_in_cases, way_in_step, way_to}
use Rattle.report_places.specs.declared.paths.PathStep.{PathStep}
use Rattle.report_places.specs.declared.paths.PathStep.TheVariants as to
use Rattle.report_places.specs.declared.paths.StatementAt.{StatementAt}
use Rattle.report_places.specs.declared.paths.Wanted.TheVariants.{At}

abbrev Way : Type 0
Way = Option (List PathStep)

abbrev nowhere : Way
nowhere = None

-- a way behind another
abbrev behind : List PathStep → Way → Way
behind above way = option_map (λ steps. above ++ steps) way

-- the way for position p in a table whose first row is for position n
abbrev at : List Way → (n p : ℕ) → Way
at [] n p = None
at (way ∷ ways) n p = or_else (cond (nat_eq n p) way None) (at ways (n + 1) p)

or_assoc : (a b c : Way) → or_else (or_else a b) c ≡ or_else a (or_else b c)
or_assoc (Some way) b c = refl
or_assoc None b c = refl

or_none : (a : Way) → or_else a None ≡ a
or_none (Some way) = refl
or_none None = refl

none_either : (c : Bool) → cond c nowhere nowhere ≡ nowhere
none_either true = refl
none_either false = refl

behind_either : (above : List PathStep) (a b : Way) → behind above (or_else a b) ≡ or_else (behind above a) (behind above b)
behind_either above (Some way) b = refl
behind_either above None b = refl

behind_step : (above : List PathStep) (step : PathStep) (o : Way) → behind (above ++ (step ∷ [])) o ≡ behind above (after step o)
behind_step above step (Some way) = ap (λ steps. Some steps) (append_assoc above (step ∷ []) way)
behind_step above step None = refl

at_append : (xs ys : List Way) (n p : ℕ) → at (xs ++ ys) n p ≡ or_else (at xs n p) (at ys (n + length xs) p)
at_append [] ys n p = let same : n ≡ n + length {A = Way} [] = omega (arith) in ap (λ m. at ys m p) same
at_append (x ∷ xs) ys n p =
    let same : (n + 1) + length xs ≡ n + length (x ∷ xs) = omega (arith) in
    ap (or_else (cond (nat_eq n p) x None))
    (at_append xs ys (n + 1) p ∙ ap (λ m. or_else (at xs (n + 1) p) (at ys m p)) same)
    ∙ sym (or_assoc (cond (nat_eq n p) x None) (at xs (n + 1) p) (at ys (n + length (x ∷ xs)) p))

-- a row without a way
at_filler : (ways : List Way) (n p : ℕ) → at (None ∷ ways) n p ≡ at ways (n + 1) p
at_filler ways n p = ap (λ first. or_else first (at ways (n + 1) p)) (none_either (nat_eq n p))

-- each position has a row
mutual
  block_rows : (b : Body) (above : List PathStep) (i n : ℕ) → block_end n b ≡ n + length (ways_in_block above i b)
  block_rows End above i n = refl
  block_rows (Then s b) above i n =
      let way = above ++ (to.Statement i ∷ []) in
      let here = step_rows s way n in
      let rest = block_rows b above (i + 1) (step_end n s) in
      let count = length-append (ways_in_step way s) (ways_in_block above (i + 1) b) in
      omega (arith, here, rest, count)

  step_rows : (s : Step) (way : List PathStep) (n : ℕ) → step_end n s ≡ (n + 1) + length (ways_in_step way s)
  step_rows (Leaf simple) way n = omega (arith)
  step_rows (Nested x) way n = block_rows x (way ++ (to.Block ∷ [])) 0 (n + 1)
  step_rows (If c x y) way n =
      let first = ways_in_block (way ++ (to.Accept ∷ [])) 0 x in
      let second = ways_in_block (way ++ (to.Reject ∷ [])) 0 y in
      let one = block_rows x (way ++ (to.Accept ∷ [])) 0 (n + 1) in
      let two = block_rows y (way ++ (to.Reject ∷ [])) 0 (block_end (n + 1) x) in
      let count = length-append first second in
      omega (arith, one, two, count)
  step_rows (Switch e cs) way n =
      let cases = cases_rows cs way 0 ((n + 1) + 1) in
      omega (arith, cases)
  step_rows (Loop x y k) way n =
      let first = ways_in_block (way ++ (to.Body ∷ [])) 0 x in
      let second = ways_in_block (way ++ (to.Continuing ∷ [])) 0 y in
      let one = block_rows x (way ++ (to.Body ∷ [])) 0 ((n + 1) + 1) in
      let two = block_rows y (way ++ (to.Continuing ∷ [])) 0 (block_end ((n + 1) + 1) x) in
      let count = length-append first second in
      omega (arith, one, two, count)

  cases_rows : (cs : Cases) (way : List PathStep) (i n : ℕ) → cases_end n cs ≡ n + length (ways_in_cases way i cs)
  cases_rows NoCase way i n = omega (arith)
  cases_rows (Case v x fall cs) way i n =
      let one = block_rows x (way ++ (to.Case i ∷ [])) 0 n in
      let rest = cases_rows cs way (i + 1) (block_end n x) in
      let count = length-append (ways_in_block (way ++ (to.Case i ∷ [])) 0 x) (ways_in_cases way (i + 1) cs) in
      omega (arith, one, rest, count)

-- the statement itself, or what stands in it, or what follows
chosen : (c : Bool) (above : List PathStep) (step : PathStep) (inner rest : Way) →
    or_else (cond c (Some (above ++ (step ∷ []))) None) (or_else (behind (above ++ (step ∷ [])) inner) (behind above rest))
    ≡ behind above (cond c (Some (step ∷ [])) (or_else (after step inner) rest))
chosen true above step inner rest = refl
chosen false above step inner rest =
    ap (λ first. or_else first (behind above rest)) (behind_step above step inner) ∙ sym (behind_either above (after step inner) rest)

-- the rows of two lists, one behind the other, are the ways of either
joined : (xs ys : List Way) (n m p : ℕ) (a b : Way) → m ≡ n + length xs → at xs n p ≡ a → at ys m p ≡ b →
    at (xs ++ ys) n p ≡ or_else a b
joined xs ys n m p a b follows one two =
    at_append xs ys n p
    ∙ ap (λ k. or_else (at xs n p) (at ys k p)) (sym follows)
    ∙ ap (λ first. or_else first (at ys m p)) one
    ∙ ap (or_else a) two

-- the ways of two blocks of a statement
two_blocks : (way : List PathStep) (one two : PathStep) (a b : Way) →
    or_else (behind (way ++ (one ∷ [])) a) (behind (way ++ (two ∷ [])) b) ≡ behind way (or_else (after one a) (after two b))
two_blocks way one two a b =
    ap (λ first. or_else first (behind (way ++ (two ∷ [])) b)) (behind_step way one a)
    ∙ ap (or_else (behind way (after one a))) (behind_step way two b)
    ∙ sym (behind_either way (after one a) (after two b))

module _ (p : ℕ) where
  mutual
    block_at : (b : Body) (above : List PathStep) (i n : ℕ) →
        at (ways_in_block above i b) n p ≡ behind above (way_in_block i n (At p) b)
    block_at End above i n = at_filler [] n p
    block_at (Then s b) above i n =
        let way = above ++ (to.Statement i ∷ []) in
        let inner = way_in_step n (At p) s in
        let rest = way_in_block (i + 1) (step_end n s) (At p) b in
        ap (or_else (cond (nat_eq n p) (Some way) None))
        (joined (ways_in_step way s) (ways_in_block above (i + 1) b) (n + 1) (step_end n s) p (behind way inner) (behind above rest)
        (step_rows s way n) (step_at s way n) (block_at b above (i + 1) (step_end n s)))
        ∙ chosen (nat_eq n p) above (to.Statement i) inner rest

    step_at : (s : Step) (way : List PathStep) (n : ℕ) → at (ways_in_step way s) (n + 1) p ≡ behind way (way_in_step n (At p) s)
    step_at (Leaf simple) way n = refl
    step_at (Nested x) way n =
        block_at x (way ++ (to.Block ∷ [])) 0 (n + 1) ∙ behind_step way to.Block (way_in_block 0 (n + 1) (At p) x)
    step_at (If c x y) way n =
        let one = way_in_block 0 (n + 1) (At p) x in
        let two = way_in_block 0 (block_end (n + 1) x) (At p) y in
        let accepted = way ++ (to.Accept ∷ []) in
        let rejected = way ++ (to.Reject ∷ []) in
        joined (ways_in_block accepted 0 x) (ways_in_block rejected 0 y) (n + 1) (block_end (n + 1) x) p (behind accepted one)
        (behind rejected two) (block_rows x accepted 0 (n + 1)) (block_at x accepted 0 (n + 1))
        (block_at y rejected 0 (block_end (n + 1) x))
        ∙ two_blocks way to.Accept to.Reject one two
    step_at (Switch e cs) way n = at_filler (ways_in_cases way 0 cs) (n + 1) p ∙ cases_at cs way 0 ((n + 1) + 1)
    step_at (Loop x y k) way n =
        let one = way_in_block 0 ((n + 1) + 1) (At p) x in
        let two = way_in_block 0 (block_end ((n + 1) + 1) x) (At p) y in
        let first = way ++ (to.Body ∷ []) in
        let second = way ++ (to.Continuing ∷ []) in
        at_filler (ways_in_block first 0 x ++ ways_in_block second 0 y) (n + 1) p
        ∙ joined (ways_in_block first 0 x) (ways_in_block second 0 y) ((n + 1) + 1) (block_end ((n + 1) + 1) x) p (behind first one)
        (behind second two) (block_rows x first 0 ((n + 1) + 1)) (block_at x first 0 ((n + 1) + 1))
        (block_at y second 0 (block_end ((n + 1) + 1) x))
        ∙ two_blocks way to.Body to.Continuing one two

    cases_at : (cs : Cases) (way : List PathStep) (i n : ℕ) →
        at (ways_in_cases way i cs) n p ≡ behind way (way_in_cases i n (At p) cs)
    cases_at NoCase way i n = refl
    cases_at (Case v x fall cs) way i n =
        let one = way_in_block 0 n (At p) x in
        let rest = way_in_cases (i + 1) (block_end n x) (At p) cs in
        let first = way ++ (to.Case i ∷ []) in
        joined (ways_in_block first 0 x) (ways_in_cases way (i + 1) cs) n (block_end n x) p (behind first one) (behind way rest)
        (block_rows x first 0 n) (block_at x first 0 n) (cases_at cs way (i + 1) (block_end n x))
        ∙ ap (λ found. or_else found (behind way rest)) (behind_step way (to.Case i) one)
        ∙ sym (behind_either way (after (to.Case i) one) rest)

-- no row is for an earlier position
eqb_other : (n p : ℕ) → p < n → nat_eq n p ≡ false
eqb_other n p earlier = grind (arith, nat_tests)

before : (ways : List Way) (n p : ℕ) → p < n → at ways n p ≡ None
before [] n p earlier = refl
before (way ∷ ways) n p earlier =
    ap (λ c. or_else (cond c way None) (at ways (n + 1) p)) (eqb_other n p earlier) ∙ before ways (n + 1) p (omega (arith))

-- rows stand in the order of their positions
at_row : (ways : List Way) (n k : ℕ) → at ways n (n + k) ≡ way_in ways k
at_row [] n k = refl
at_row (way ∷ ways) n zero =
    let same : nat_eq n (n + 0) ≡ true = grind (arith, nat_tests) in
    ap (λ c. or_else (cond c way None) (at ways (n + 1) (n + 0))) same
    ∙ ap (or_else way) (before ways (n + 1) (n + 0) (omega (arith)))
    ∙ or_none way
at_row (way ∷ ways) n (suc k) =
    let other : nat_eq n (n + suc k) ≡ false = grind (arith, nat_tests) in
    let same : n + suc k ≡ (n + 1) + k = omega (arith) in
    ap (λ c. or_else (cond c way None) (at ways (n + 1) (n + suc k))) other
    ∙ ap (at ways (n + 1)) same
    ∙ at_row ways (n + 1) k

behind_nothing : (o : Way) → behind [] o ≡ o
behind_nothing (Some way) = refl
behind_nothing None = refl

pub outlined : (body : Body) (rows : List (Option StatementAt)) → ways_of rows ≡ None ∷ ways_in_block [] 0 body → IsOutline body rows
outlined body rows same p =
    let whole = None ∷ ways_in_block [] 0 body in
    let own : 0 + p ≡ p = omega (arith) in
    ap (λ ways. way_in ways p) same
    ∙ sym (at_row whole 0 p)
    ∙ ap (at whole 0) own
    ∙ at_filler (ways_in_block [] 0 body) 0 p
    ∙ block_at p body [] 0 1
    ∙ behind_nothing (way_to (At p) body)

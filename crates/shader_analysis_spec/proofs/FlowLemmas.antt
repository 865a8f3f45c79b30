-- Disruption grows with what varies and what kills, and the statement at a path point is among the statements.
use Rattle.std.proofs.Common.{refl, ℕ, List, Option, [], ◌++◌, ◌∷◌, arith}
use Rattle.std.specs.List.{Contains}
use Rattle.std.proofs.lemmas.List.Elements.{Contains-append_left, Contains-append_right}
use Rattle.shader_analysis_spec.specs.Program.{Step, Leaf, Body, Then, Call, Cases, Case, statements, statements_within, case_statements}
use Rattle.shader_analysis_spec.specs.Flow.{At, start, rest, inside, Child, inner, accept, reject, body, continuing, case_of, CasesIn}
use Rattle.shader_analysis_spec.specs.Flow.{from_first, after, Disrupted, Exits, BlockExits, in_disrupted, in_branch, in_continuing}
use Rattle.shader_analysis_spec.specs.Flow.{fallen_into, fallen_out, later, behind, returns, kills, calls, contains, first, further}

module _ (V V' K K' : ℕ → Type 0) (root : Body) (to_v : (e : ℕ) → V e → V' e)
    (to_k : (c : ℕ) (arguments : List ℕ) (result : Option ℕ) (b : Body) → At root (Then (Leaf (Call c arguments result)) b) →
    K c → K' c) where
  mutual
    pub more_disrupted : (b : Body) (p : At root b) → Disrupted V K root b p → Disrupted V' K' root b p
    more_disrupted _ _ (in_disrupted d) = in_disrupted (more_disrupted _ _ d)
    more_disrupted _ _ (in_branch {e = e} p o v) = in_branch p o (to_v e v)
    more_disrupted _ _ (in_continuing x) = in_continuing (more_blocks _ _ x)
    more_disrupted _ _ (fallen_into d) = fallen_into (more_disrupted _ _ d)
    more_disrupted _ _ (fallen_out x) = fallen_out (more_blocks _ _ x)
    more_disrupted _ _ (later d) = later (more_disrupted _ _ d)
    more_disrupted _ _ (behind x) = behind (more_exits _ _ _ x)

    more_exits : (s : Step) (b : Body) (p : At root (Then s b)) → Exits V K root s b p → Exits V' K' root s b p
    more_exits _ _ _ (returns d) = returns (more_disrupted _ _ d)
    more_exits _ _ _ (kills d) = kills (more_disrupted _ _ d)
    more_exits _ _ _ (calls {c = c} {arguments = arguments} {result = result} {b = b} p k) = calls p (to_k c arguments result b p k)
    more_exits _ _ _ (contains x) = contains (more_blocks _ _ x)

    more_blocks : (b : Body) (p : At root b) → BlockExits V K root b p → BlockExits V' K' root b p
    more_blocks _ _ (first x) = first (more_exits _ _ _ x)
    more_blocks _ _ (further x) = further (more_blocks _ _ x)

-- the statements of a later case, of a block and of a path point are statements of the whole
of_case : (all cs : Cases) (k : CasesIn all cs) (s : Step) → Contains (case_statements cs) s → Contains (case_statements all) s
of_case all _ from_first s h = h
of_case all cs (after {v = v} {x = x} {fall = fall} k) s h =
    of_case all (Case v x fall cs) k s (Contains-append_right (statements x) (case_statements cs) s h)

of_part : (t : Step) (x : Body) (child : Child t x) (s : Step) → Contains (statements x) s → Contains (statements_within t) s
of_part _ x inner s h = h
of_part _ x (accept {y = y}) s h = Contains-append_left (statements x) (statements y) s h
of_part _ y (reject {x = x}) s h = Contains-append_right (statements x) (statements y) s h
of_part _ x (body {y = y}) s h = Contains-append_left (statements x) (statements y) s h
of_part _ y (continuing {x = x}) s h = Contains-append_right (statements x) (statements y) s h
of_part _ x (case_of {all = all} {v = v} {fall = fall} {cs = cs} k) s h =
    of_case all (Case v x fall cs) k s (Contains-append_left (statements x) (case_statements cs) s h)

Contains-later : {X : Type 0} (y : X) (xs : List X) (x : X) → Contains xs x → Contains (y ∷ xs) x
Contains-later y xs x h = Contains-append_right (y ∷ []) xs x h

pub of_point : (root b : Body) (p : At root b) (s : Step) → Contains (statements b) s → Contains (statements root) s
of_point root _ start s h = h
of_point root b (rest {s = t} p) s h =
    of_point root (Then t b) p s (Contains-later t _ s (Contains-append_right (statements_within t) (statements b) s h))
of_point root x (inside {s = t} {b = b} p child) s h =
    of_point root (Then t b) p s
    (Contains-later t _ s (Contains-append_left (statements_within t) (statements b) s (of_part t x child s h)))

pub occurs_within : (root : Body) (s : Step) (b : Body) → At root (Then s b) → Contains (statements root) s
occurs_within root s b p = of_point root (Then s b) p s (Contains-append_left (s ∷ []) (statements_within s ++ statements b) s (
  0,
  omega arith,
  refl,
))

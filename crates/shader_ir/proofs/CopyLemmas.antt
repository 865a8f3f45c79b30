-- Invariants of copies that are built item by item.
use Rattle.std.proofs.Common.{◌≡◌, ◌∙◌, ap, sym, refl, subst, Bool, false, List, [], ◌∷◌, ◌++◌, if◌then◌else◌}
use Rattle.std.specs.Cmp.{IsEquivalence}
use Rattle.std.specs.List.{AllByRecursion, IsDistinct}
use Rattle.std.specs.Map.{keys_of}
use Rattle.indexmap.specs.IndexMap.{insert_entry}
use Rattle.shader_ir.specs.BodyOf.{body_of, step_of}
use Rattle.shader_ir.specs.declared.statement.Statement.{Statement}

-- a property of all keys holds of one in their midst
key_within : {K V : Type 0} (P : K → Type 0) (done : List (K × V)) (key : K) (value : V) (rest : List (K × V)) →
    AllByRecursion P (keys_of (done ++ (key, value) ∷ rest)) → P key
key_within P [] key value rest all = all.0
key_within P (entry ∷ done) key value rest all = key_within P done key value rest all.1

-- a key distinct from those before it goes last
new_entry : {K V : Type 0} (eq : K → K → Bool) → IsEquivalence eq → (done : List (K × V)) (key : K) (value : V) (rest : List (K × V))
    → IsDistinct eq (keys_of (done ++ (key, value) ∷ rest)) → insert_entry eq done key value ++ rest ≡ done ++ (key, value) ∷ rest
unfolding IsDistinct
new_entry eq laws [] key value rest distinct = refl
new_entry eq laws (entry ∷ done) key value rest distinct =
    let apart = laws.symm key entry.0 ∙ key_within (λ other. eq entry.0 other ≡ false) done key value rest distinct.0 in
    ap (λ b. (if b then (entry.0, value) ∷ done else entry ∷ insert_entry eq done key value) ++ rest) apart
    ∙ ap (λ entries. entry ∷ entries) (new_entry eq laws done key value rest distinct.1)

-- an entry moves from those left to those copied
pub next_entry : {K V : Type 0} (eq : K → K → Bool) → IsEquivalence eq →
    (all done left rest after : List (K × V)) {key copied_key : K} {value copied_value : V}
    → IsDistinct eq (keys_of all) → done ++ left ≡ all → left ≡ (key, value) ∷ rest
    → copied_key ≡ key → copied_value ≡ value → after ≡ insert_entry eq done copied_key copied_value
    → after ++ rest ≡ all
next_entry eq laws all done left rest after {key} {copied_key} {value} {copied_value} distinct split first same_key same_value put =
    let whole : done ++ (key, value) ∷ rest ≡ all = ap (λ entries. done ++ entries) (sym first) ∙ split in
    let told_apart = subst (λ entries. IsDistinct eq (keys_of entries)) (sym whole) distinct in
    let moved : after ≡ insert_entry eq done key value = put ∙ (λ i. insert_entry eq done (same_key i) (same_value i)) in
    ap (λ entries. entries ++ rest) moved ∙ new_entry eq laws done key value rest told_apart ∙ whole

-- the next statement moves to those copied
pub next_statement : (done copied : List Statement) (statement copy : Statement)
    → body_of done ≡ body_of copied → step_of statement ≡ step_of copy → body_of (done ++ statement ∷ []) ≡ body_of (copied ++ copy ∷ [])
next_statement [] [] statement copy same step = cc
next_statement (first ∷ done) (other ∷ copied) statement copy same step =
    let rest = next_statement done copied statement copy (cc) step in cc
next_statement done copied statement copy same step = cc

-- Records and uses after some occurrences, as counts and bits; and what counting leaves as it was.
use Rattle.std.proofs.Common.{◌≡◌, refl, sym, ap, ◌∙◌, ℕ, zero, suc, ◌+◌, ◌-◌, ◌^◌, List, [], ◌∷◌, Bool, true, false}
use Rattle.std.proofs.Common.{if◌then◌else◌, Option, Some, None, slice_get, slice_set, slice_index, length, arith, fold, nat_eq, bit_or}
use Rattle.std.proofs.Common.{replicate}
use Rattle.std.proofs.lemmas.Bool.Decides.{nat_tests}
use Rattle.std.proofs.lemmas.List.Sums.{fold-append}
use Rattle.shader_info.specs.declared.flags.GlobalUse.{GlobalUse}
use Rattle.shader_info.specs.declared.info.ExpressionInfo.{ExpressionInfo}
use Rattle.shader_analysis_spec.specs.Program.{Function, occurrences}
use Rattle.shader_ir.specs.declared.proc.operands.Label.{Label}
use Rattle.shader_passes.proofs.RecordLemmas.{root_found}
use Rattle.shader_passes.specs.CountsAndUses.{CountsAndUses, bits, counts_after, is_full, ref_counts_after, uses_after}
use Rattle.shader_passes.specs.Counting.{State, as_counts, bits_in, counted_once, counting_after, counts_in, full_after, is_full_record}
use Rattle.shader_passes.specs.Counting.{records_after, state_after, state_of, uses_by, uses_joined, with_state}
use Rattle.shader_passes.specs.Records.{fact_of, facts_in, root_in, types_in}
use Rattle.shader_passes.specs.declared.counting.Counting.{Counting}

-- the count of a record, and all else, after one more occurrence
once_counted : (r : ExpressionInfo) →
    (counted_once r).ref_count ≡ (if nat_eq r.ref_count (2 ^ 64 - 1) then r.ref_count else r.ref_count + 1)
once_counted r = at (is_full_record r) where
  at : (b : Bool) → (if b then r else record r { ref_count = r.ref_count + 1 }).ref_count ≡ (if b then r.ref_count else r.ref_count + 1)
  at true = refl
  at false = refl

once_fact : (r : ExpressionInfo) (root : Option ℕ) → fact_of (counted_once r) root ≡ fact_of r root
once_fact r root = at (is_full_record r) where
  at : (b : Bool) → fact_of (if b then r else record r { ref_count = r.ref_count + 1 }) root ≡ fact_of r root
  at true = refl
  at false = refl

once_type : (r : ExpressionInfo) → (counted_once r).ty ≡ r.ty
once_type r = at (is_full_record r) where
  at : (b : Bool) → (if b then r else record r { ref_count = r.ref_count + 1 }).ty ≡ r.ty
  at true = refl
  at false = refl

-- in a list after its first item
after_first : (r : ExpressionInfo) (rs : List ExpressionInfo) (e : ℕ) (found : Option ExpressionInfo) →
    records_after (r ∷ rs) (suc e) found ≡ r ∷ records_after rs e found
after_first r rs e (Some x) = refl
after_first r rs e None = refl

push_if : (b : Bool) (c : ℕ) (cs ds : List ℕ) → (if b then c ∷ cs else c ∷ ds) ≡ c ∷ (if b then cs else ds)
push_if true c cs ds = refl
push_if false c cs ds = refl

first_if : (b : Bool) (c d : ℕ) (cs : List ℕ) → (if b then c ∷ cs else d ∷ cs) ≡ (if b then c else d) ∷ cs
first_if true c d cs = refl
first_if false c d cs = refl

-- no count is full in an empty list
none_full : (e : ℕ) → is_full [] e ≡ false
none_full e = grind (arith, nat_tests)

-- the counts of a list after its first item
full_next : (c : ℕ) (cs : List ℕ) (e : ℕ) → is_full (c ∷ cs) (suc e) ≡ is_full cs e
full_next c cs e = grind (arith, nat_tests)

first_full : (c : ℕ) (cs : List ℕ) → is_full (c ∷ cs) zero ≡ nat_eq c (2 ^ 64 - 1)
first_full c cs = grind (arith, nat_tests)

counts_step : (rs : List ExpressionInfo) (e : ℕ) → counts_in (records_after rs e (slice_get rs e)) ≡ counts_after (counts_in rs) e
counts_step [] zero = refl
counts_step [] (suc e) = rw none_full
counts_step (r ∷ rs) zero =
    let c = r.ref_count in
    let cs = counts_in rs in
    let after : Bool → List ℕ = λ b. if b then c ∷ cs else (c + 1) ∷ cs in
    ap (λ v. v ∷ cs) (once_counted r)
    ∙ (sym (first_if (nat_eq c (2 ^ 64 - 1)) c (c + 1) cs) ∙ sym (ap after (first_full c cs)))
counts_step (r ∷ rs) (suc e) =
    let c = r.ref_count in
    let cs = counts_in rs in
    let raised = slice_set cs e (slice_index cs e + 1) in
    let after : Bool → List ℕ = λ b. if b then c ∷ cs else c ∷ raised in
    ap counts_in (after_first r rs e (slice_get rs e)) ∙ (ap (λ v. c ∷ v) (counts_step rs e)
    ∙ (sym (push_if (is_full cs e) c cs raised) ∙ sym (ap after (full_next c cs e))))

full_step : (full : Option ℕ) (i : ℕ) (rs : List ExpressionInfo) (e : ℕ) →
    full_after full i (slice_get rs e) ≡ (if is_full (counts_in rs) e then Some i else full)
full_step full i [] zero = refl
full_step full i [] (suc e) = rw none_full
full_step full i (r ∷ rs) zero =
    let after : Bool → Option ℕ = λ b. if b then Some i else full in sym (ap after (first_full r.ref_count (counts_in rs)))
full_step full i (r ∷ rs) (suc e) =
    let after : Bool → Option ℕ = λ b. if b then Some i else full in
    full_step full i rs e ∙ sym (ap after (full_next r.ref_count (counts_in rs) e))

joined_first : (u : GlobalUse) (us : List GlobalUse) (g more : ℕ) (found : Option GlobalUse) →
    uses_joined (u ∷ us) (suc g) more found ≡ u ∷ uses_joined us g more found
joined_first u us g more (Some x) = refl
joined_first u us g more None = refl

joined_step : (us : List GlobalUse) (g more : ℕ) →
    bits_in (uses_joined us g more (slice_get us g)) ≡ slice_set (bits_in us) g (bit_or (slice_index (bits_in us) g) more)
joined_step [] zero more = refl
joined_step [] (suc g) more = refl
joined_step (u ∷ us) zero more = refl
joined_step (u ∷ us) (suc g) more = ap bits_in (joined_first u us g more (slice_get us g)) ∙ ap (λ v. u.0 ∷ v) (joined_step us g more)

pub uses_step : (us : List GlobalUse) (root : Option ℕ) (more : ℕ) → bits_in (uses_by us root more) ≡ uses_after root (bits_in us) more
uses_step us (Some g) more = joined_step us g more
uses_step us None more = refl

-- counting changes no fact, no type and no length
facts_kept : (rs : List ExpressionInfo) (roots : List (Option ℕ)) (e : ℕ) →
    facts_in (records_after rs e (slice_get rs e)) roots ≡ facts_in rs roots
facts_kept [] roots e = refl
facts_kept (r ∷ rs) [] zero = refl
facts_kept (r ∷ rs) [] (suc e) = ap (λ v. facts_in v []) (after_first r rs e (slice_get rs e))
facts_kept (r ∷ rs) (g ∷ gs) zero = ap (λ v. v ∷ facts_in rs gs) (once_fact r g)
facts_kept (r ∷ rs) (g ∷ gs) (suc e) =
    ap (λ v. facts_in v (g ∷ gs)) (after_first r rs e (slice_get rs e)) ∙ ap (λ v. fact_of r g ∷ v) (facts_kept rs gs e)

types_kept : (rs : List ExpressionInfo) (e : ℕ) →
    types_in (records_after rs e (slice_get rs e)) ≡ types_in rs
types_kept [] e = refl
types_kept (r ∷ rs) zero = ap (λ v. v ∷ types_in rs) (once_type r)
types_kept (r ∷ rs) (suc e) =
    ap types_in (after_first r rs e (slice_get rs e)) ∙ ap (λ v. r.ty ∷ v) (types_kept rs e)

length_kept : (rs : List ExpressionInfo) (e : ℕ) → length (records_after rs e (slice_get rs e)) ≡ length rs
length_kept [] e = refl
length_kept (r ∷ rs) zero = refl
length_kept (r ∷ rs) (suc e) = ap length (after_first r rs e (slice_get rs e)) ∙ ap suc (length_kept rs e)

module _ (roots : List (Option ℕ)) where
  -- one occurrence
  counts_one : (s : State) (o : ℕ × Label) → length s.0 ≡ length roots →
      as_counts (state_after roots s o) ≡ ref_counts_after (facts_in s.0 roots) (as_counts s) o
  counts_one s o long =
      let one : List ℕ → List ℕ → Option ℕ → CountsAndUses = λ a b c. (a, b, c) in
      let a = counts_step s.0 o.0 in
      let b = uses_step s.1 (root_in roots o.0) (bits o.1)
      ∙ ap (λ v. uses_after v (bits_in s.1) (bits o.1)) (sym (root_found s.0 roots o.0 long)) in
      let c = full_step s.2 o.0 s.0 o.0 in cc

  -- all occurrences: the facts stay, and the counts and uses are those of the fold
  pub facts_stay : (s : State) (os : List (ℕ × Label)) → facts_in (fold (state_after roots) s os).0 roots ≡ facts_in s.0 roots
  facts_stay s [] = refl
  facts_stay s (o ∷ os) = facts_stay (state_after roots s o) os ∙ facts_kept s.0 roots o.0

  pub types_stay : (s : State) (os : List (ℕ × Label)) →
      types_in (fold (state_after roots) s os).0 ≡ types_in s.0
  types_stay s [] = refl
  types_stay s (o ∷ os) = types_stay (state_after roots s o) os ∙ types_kept s.0 o.0

  pub length_stays : (s : State) (os : List (ℕ × Label)) → length (fold (state_after roots) s os).0 ≡ length s.0
  length_stays s [] = refl
  length_stays s (o ∷ os) = length_stays (state_after roots s o) os ∙ length_kept s.0 o.0

  pub counts_all : (s : State) (os : List (ℕ × Label)) → length s.0 ≡ length roots →
      as_counts (fold (state_after roots) s os) ≡ fold (ref_counts_after (facts_in s.0 roots)) (as_counts s) os
  counts_all s [] long = refl
  counts_all s (o ∷ os) long =
      let next = state_after roots s o in
      counts_all next os (length_kept s.0 o.0 ∙ long)
      ∙ (ap (λ v. fold (ref_counts_after v) (as_counts next) os) (facts_kept s.0 roots o.0)
      ∙ ap (λ v. fold (ref_counts_after (facts_in s.0 roots)) v os) (counts_one s o long))

-- the visitor folds its state
pub folds_state : (counting : Counting) (os : List (ℕ × Label)) →
    fold counting_after counting os ≡ with_state counting (fold (state_after counting.roots.now) (state_of counting) os)
folds_state counting [] = refl
folds_state counting (o ∷ os) = folds_state (counting_after counting o) os

-- the counts and uses of a function, from none on
pub counts_whole : (f : Function) (records : List ExpressionInfo) (roots : List (Option ℕ)) (uses : List GlobalUse) →
    length records ≡ length roots → counts_in records ≡ replicate (length f.expressions) 0 → bits_in uses ≡ replicate (length uses) 0 →
    as_counts (fold (state_after roots) (records, uses, None) (occurrences f))
    ≡ fold (ref_counts_after (facts_in records roots)) (replicate (length f.expressions) 0, replicate (length uses) 0, None)
    (occurrences f)
counts_whole f records roots uses long uncounted unused =
    let start : List ℕ → List ℕ → CountsAndUses = λ counts bits. (counts, bits, None) in
    counts_all roots (records, uses, None) (occurrences f) long
    ∙ ap (λ v. fold (ref_counts_after (facts_in records roots)) v (occurrences f))
    (ap (λ v. start v (bits_in uses)) uncounted ∙ ap (start (replicate (length f.expressions) 0)) unused)

pub ruleset counts_declared = (folds_state, facts_stay, length_stays, fold-append)

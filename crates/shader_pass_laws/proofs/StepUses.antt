-- The recorded uses meet their step equation.
use Rattle.std.proofs.Common.{◌≡◌, ◌≢◌, refl, sym, ap, subst, ◌∙◌, ℕ, zero, suc, ◌<◌, ◌≤◌, ◌^◌, ◌⊎◌, inl, inr, ◌↔◌, List}
use Rattle.std.proofs.Common.{[], ◌∷◌, ◌++◌, Bool, true, false, IsTrue, Option, Some, None, length, slice_index, slice_get}
use Rattle.std.proofs.Common.{nat_eq, nat_lt, bit_and, bit_or, fold, map, arith, unwrap_or, replicate, take, drop}
use Rattle.std.proofs.Math.Seq.{take-append_seam}
use borrow.Author.Tests.{ltb-true, ltb-false}
use Rattle.std.specs.Int.{IsBitSet}
use Rattle.std.specs.List.{Contains, enumerate_from}
use Rattle.std.specs.Map.{keys_of}
use Rattle.std.specs.Option.{option_map}
use Rattle.std.proofs.lemmas.Bool.{cases_eq}
use Rattle.std.proofs.lemmas.Nat.{and_assoc, and_le_r, or_lt}
use Rattle.std.proofs.lemmas.List.{get_or_past, get_or-replicate, length-map, length-replicate}
use Rattle.shader_analysis_spec.proofs.BitsLemmas.{numbers_are_sets}
use Rattle.shader_ir.specs.declared.proc.operands.Label.TheVariants.{Part, Read, Write, ReadWrite, Query, Atomic}
use Rattle.shader_ir.specs.Occurs as occurs
use Rattle.shader_analysis_spec.specs.Infos.{Info, Use, Reads, Writes, Queries, Atomics, bit_of}
use Rattle.shader_analysis_spec.specs.Program.{Function, Module, Label, Step, Leaf, Call, Root, occurrences, statements}
use Rattle.shader_analysis_spec.specs.Uses.{Names, adds_use}
use Rattle.shader_analysis_spec.specs.Steps.{CalleeInfo, CalleeUses, StepUse}
use Rattle.shader_analysis_spec.specs.Steps as step
use Rattle.shader_passes.specs.Facts.{Fact}
use Rattle.shader_info.specs.declared.info.FunctionInfo.{FunctionInfo}
use Rattle.shader_info.specs.declared.flags.GlobalUse.{GlobalUse}
use Rattle.shader_passes.specs.InfoOf.{info_of, infos_of, PointsBackwards}
use Rattle.shader_passes.specs.Conditions.{GlobalsWithin, EachFits}
use Rattle.shader_pass_laws.specs.OfTheStep.{HasUses}
use Rattle.shader_passes.specs.Facts.{root_at, facts_after}
use Rattle.shader_passes.specs.CalleeUses.{bits_at, called_uses, uses_with_call, uses_with_calls, named_by}
use Rattle.shader_passes.specs.CountsAndUses.{CountsAndUses, bits, ref_counts_after}
use Rattle.shader_passes.proofs.StoredInfoLemmas.{stored_of, of_stored}
use Rattle.shader_pass_laws.proofs.RootLemmas.{root_to, root_from}
use Rattle.shader_passes.proofs.CountLemmas.{if_true, if_false}
use Rattle.shader_analysis_spec.proofs.JoinLemmas.{no_bit, not_bit, of_bit, or_to, or_of, joined_to, joined_old, joined_of}
use Rattle.shader_pass_laws.proofs.UsesLemmas.{eq_true, eq_false, put_one, put_at, puts_are, puts_long, name_at}
use Rattle.shader_pass_laws.proofs.UsesLemmas.{names_are, names_long, used_named, named_cases, Named}

-- the bits of a label are its uses
bits_to : (l : Label) (u : Use) → IsBitSet (bits l) (bit_of u) → IsTrue (adds_use l u)
bits_to Part u h = absurd (no_bit (bit_of u) h)
bits_to Read Reads h = refl
bits_to Read Writes h = absurd (not_bit 1 1 refl h)
bits_to Read Queries h = absurd (not_bit 1 2 refl h)
bits_to Read Atomics h = absurd (not_bit 1 3 refl h)
bits_to Write Reads h = absurd (not_bit 2 0 refl h)
bits_to Write Writes h = refl
bits_to Write Queries h = absurd (not_bit 2 2 refl h)
bits_to Write Atomics h = absurd (not_bit 2 3 refl h)
bits_to ReadWrite Reads h = refl
bits_to ReadWrite Writes h = refl
bits_to ReadWrite Queries h = absurd (not_bit 3 2 refl h)
bits_to ReadWrite Atomics h = absurd (not_bit 3 3 refl h)
bits_to Query Reads h = absurd (not_bit 4 0 refl h)
bits_to Query Writes h = absurd (not_bit 4 1 refl h)
bits_to Query Queries h = refl
bits_to Query Atomics h = absurd (not_bit 4 3 refl h)
bits_to Atomic Reads h = absurd (not_bit 8 0 refl h)
bits_to Atomic Writes h = absurd (not_bit 8 1 refl h)
bits_to Atomic Queries h = absurd (not_bit 8 2 refl h)
bits_to Atomic Atomics h = refl

of_puts : (l : Label) (u : Use) → IsTrue (adds_use l u) → IsBitSet (bits l) (bit_of u)
of_puts Read Reads h = of_bit 1 0 refl
of_puts Write Writes h = of_bit 2 1 refl
of_puts ReadWrite Reads h = of_bit 3 0 refl
of_puts ReadWrite Writes h = of_bit 3 1 refl
of_puts Query Queries h = of_bit 4 2 refl
of_puts Atomic Atomics h = of_bit 8 3 refl
of_puts l u h = absurd (cc)

label_small : (l : Label) → bits l < 16
label_small Part = omega arith
label_small Read = omega arith
label_small Write = omega arith
label_small ReadWrite = omega arith
label_small Query = omega arith
label_small Atomic = omega arith

query_to : (u : Use) → IsBitSet 4 (bit_of u) → u ≡ Queries
query_to Reads h = absurd (not_bit 4 0 refl h)
query_to Writes h = absurd (not_bit 4 1 refl h)
query_to Queries h = refl
query_to Atomics h = absurd (not_bit 4 3 refl h)

or_small : (a b : ℕ) → a < 16 → b < 16 → bit_or a b < 16
or_small a b h k = or_lt 4 a b h k

-- a set of none of the four uses is empty
no_use : (w : ℕ) → w < 16 → ((u : Use) → IsBitSet w (bit_of u) → ⊥) → w ≡ 0
no_use w small none = numbers_are_sets.1 4 w 0 small (omega arith) (λ k lt. ((λ h. absurd (at k lt h)), λ h. absurd (no_bit k h))) where
  is : (k v : ℕ) → k ≡ v → IsBitSet w k → IsBitSet w v
  is k v e h = let P : ℕ → Type 0 = λ n. IsBitSet w n in subst P e h

  at : (k : ℕ) → k < 4 → IsBitSet w k → ⊥
  at k lt h = elim (cases_eq k 0) [
    | inl zeroth ↦ none Reads (is k 0 zeroth h)
    | inr not0 ↦ elim (cases_eq k 1) [
      | inl first ↦ none Writes (is k 1 first h)
      | inr not1 ↦ elim (cases_eq k 2) [
        | inl second ↦ none Queries (is k 2 second h)
        | inr not2 ↦ none Atomics (is k 3 (omega arith) h)
      ]
    ]
  ]

-- the bits with a name are those of the uses
same_bit : (v : ℕ) (u : Use) → bit_and (bit_and v 15) (2 ^ bit_of u) ≡ bit_and v (2 ^ bit_of u)
same_bit v Reads = and_assoc 1 v 15
same_bit v Writes = and_assoc 2 v 15
same_bit v Queries = and_assoc 4 v 15
same_bit v Atomics = and_assoc 8 v 15

bits_are : (uses : List GlobalUse) (g : ℕ) → bits_at uses g ≡ bit_and (slice_index (map (λ (at : GlobalUse). at.0) uses) g) 15
bits_are [] g = refl
bits_are (x ∷ xs) zero = refl
bits_are (x ∷ xs) (suc g) = bits_are xs g

-- the uses recorded of a callee
module _ (infos : List FunctionInfo) (c g : ℕ) where
  abbrev Recorded : Option FunctionInfo → ℕ
  Recorded o = bits_at (unwrap_or (option_map (λ (i : FunctionInfo). i.global_uses) o) []) g

  uses_to : (u : Use) → IsBitSet (called_uses infos c g) (bit_of u) →
      (i : Info) × (slice_get (infos_of infos) c ≡ Some i) × IsBitSet (slice_index i.global_uses g) (bit_of u)
  uses_to u h = at (slice_get infos c) h refl where
    at : (o : Option FunctionInfo) → IsBitSet (Recorded o) (bit_of u) → slice_get infos c ≡ o →
        (i : Info) × (slice_get (infos_of infos) c ≡ Some i) × IsBitSet (slice_index i.global_uses g) (bit_of u)
    at None t e = absurd (no_bit (bit_of u) t)
    at (Some i) t e = (
      info_of i,
      stored_of infos c i e,
      λ none. t (ap (λ v. bit_and v (2 ^ bit_of u)) (bits_are i.global_uses g)
          ∙ (same_bit (slice_index (info_of i).global_uses g) u ∙ none)),
    )

  of_uses : (u : Use) (i : Info) → slice_get (infos_of infos) c ≡ Some i → IsBitSet (slice_index i.global_uses g) (bit_of u) →
      IsBitSet (called_uses infos c g) (bit_of u)
  of_uses u i e t =
      let at = of_stored infos c i e in
      let P : Option FunctionInfo → Type 0 = λ v. IsBitSet (Recorded v) (bit_of u) in
      let Q : Info → Type 0 = λ v. IsBitSet (slice_index v.global_uses g) (bit_of u) in
      let own = subst Q (sym at.2) t in
      subst P (sym at.1) (λ none. own (sym (same_bit (slice_index (info_of at.0).global_uses g) u)
      ∙ (sym (ap (λ v. bit_and v (2 ^ bit_of u)) (bits_are at.0.global_uses g)) ∙ none)))

  uses_small : called_uses infos c g < 16
  uses_small = omega (
    arith,
    bits_are (unwrap_or (option_map (λ (i : FunctionInfo). i.global_uses) (slice_get infos c)) []) g,
    and_le_r (slice_index (map (λ (at : GlobalUse). at.0) (unwrap_or
        (option_map (λ (i : FunctionInfo). i.global_uses) (slice_get infos c)) [])) g) 15,
  )

module _ (m : Module) (infos : List FunctionInfo) (f : Function) (all : List Fact)
    (is : all ≡ facts_after m infos f [] (enumerate_from 0 f.expressions))
    (below : PointsBackwards f)
    (within : GlobalsWithin m f) (fit : EachFits m infos) (g : ℕ) where
  -- an occurrence adds the bits of its label to the uses of its root
  abbrev Puts_on : (ℕ × Label) → ℕ → Type 0
  Puts_on o k = (root_at all o.0 ≡ Some g) × IsBitSet (bits o.1) k

  one_adds : (r : Option ℕ) (n k l : ℕ) → IsBitSet (put_one r g n l) k → IsBitSet n k ⊎ ((r ≡ Some g) × IsBitSet l k)
  one_adds None n k l h = inl h
  one_adds (Some h) n k l t = elim (cases_eq h g) [
    | inl same ↦
        let P : ℕ → Type 0 = λ v. IsBitSet v k in
        elim (or_to n l k (subst P (if_true (nat_eq h g) (bit_or n l) n (eq_true h g same)) t)) [
          | inl old ↦ inl old
          | inr new ↦ inr (ap (λ (v : ℕ). Some v) same, new)
        ]
    | inr apart ↦ let P : ℕ → Type 0 = λ v. IsBitSet v k in inl (subst P (if_false (nat_eq h g) (bit_or n l) n (eq_false h g apart)) t)
  ]

  one_gains : (r : Option ℕ) (n k l : ℕ) → IsBitSet n k ⊎ ((r ≡ Some g) × IsBitSet l k) → IsBitSet (put_one r g n l) k
  one_gains None n k l (inl old) = old
  one_gains None n k l (inr new) = let never = new.0 in absurd (cc)
  one_gains (Some h) n k l t = elim (cases_eq h g) [
    | inl same ↦
        let P : ℕ → Type 0 = λ v. IsBitSet v k in
        subst P (sym (if_true (nat_eq h g) (bit_or n l) n (eq_true h g same)))
        (or_of n l k (elim t [ inl old ↦ inl old | inr new ↦ inr new.1 ]))
    | inr apart ↦
        let P : ℕ → Type 0 = λ v. IsBitSet v k in
        subst P (sym (if_false (nat_eq h g) (bit_or n l) n (eq_false h g apart))) (elim t [
          | inl old ↦ old
          | inr new ↦ let is = new.0 in absurd (apart (cc))
        ])
  ]

  puts_add : (n k : ℕ) (o : (ℕ × Label)) → IsBitSet (put_at all g n o) k → IsBitSet n k ⊎ Puts_on o k
  puts_add n k o h = one_adds (root_at all o.0) n k (bits o.1) h

  puts_gain : (n k : ℕ) (o : (ℕ × Label)) → IsBitSet n k ⊎ Puts_on o k → IsBitSet (put_at all g n o) k
  puts_gain n k o h = one_gains (root_at all o.0) n k (bits o.1) h

  -- a call joins the uses recorded of the callee
  abbrev Calls_use : Step → ℕ → Type 0
  Calls_use (Leaf (Call c arguments result)) k = IsBitSet (called_uses infos c g) k
  Calls_use s k = ⊥

  calls_add : (n k : ℕ) (s : Step) → IsBitSet (uses_with_call infos g n s) k → IsBitSet n k ⊎ Calls_use s k
  calls_add n k (Leaf (Call c arguments result)) h = or_to n (called_uses infos c g) k h
  calls_add n k s h = inl h

  calls_gain : (n k : ℕ) (s : Step) → IsBitSet n k ⊎ Calls_use s k → IsBitSet (uses_with_call infos g n s) k
  calls_gain n k (Leaf (Call c arguments result)) h = or_of n (called_uses infos c g) k h
  calls_gain n k s (inl h) = h
  calls_gain n k s (inr h) = absurd h

  -- the uses before the globals that are only named
  abbrev own : ℕ
  own = fold (put_at all g) 0 (occurrences f)

  abbrev after_calls : ℕ
  after_calls = fold (uses_with_call infos g) own (statements f.body)

  call_to : (u : Use) (s : Step) → Contains (statements f.body) s → Calls_use s (bit_of u) → CalleeUses (infos_of infos) f g u
  call_to u (Leaf (Call c arguments result)) h t =
      let r = uses_to infos c g u t in
      step.CalleeUses.callee (record { callee = c; result = result; holds = h; stored = r.1 }) r.2
  call_to u s h t = absurd t

  joined_is : (u : Use) → IsBitSet after_calls (bit_of u) → CalleeUses (infos_of infos) f g u
  joined_is u h = elim (joined_to (uses_with_call infos g) Calls_use calls_add calls_gain own (bit_of u) (statements f.body) h) [
    | inl here ↦ elim (joined_to (put_at all g) Puts_on puts_add puts_gain 0 (bit_of u) (occurrences f) here) [
      | inl none ↦ absurd (no_bit (bit_of u) none)
      | inr one ↦ step.CalleeUses.own (record {
        occurrence = one.0;
        occurs = one.1;
        root = root_to m infos f all is below one.0.0 g one.2.0;
        label = bits_to one.0.1 u one.2.1;
      })
    ]
    | inr call ↦ call_to u call.0 call.1 call.2
  ]

  is_joined : (u : Use) → CalleeUses (infos_of infos) f g u → IsBitSet after_calls (bit_of u)
  is_joined u (step.CalleeUses.own d) =
      joined_old (uses_with_call infos g) Calls_use calls_add calls_gain own (bit_of u) (statements f.body)
      (joined_of (put_at all g) Puts_on puts_add puts_gain 0 (bit_of u) (occurrences f) d.occurrence d.occurs
      (root_from m infos f all is below d.occurrence.0 g d.root, of_puts d.occurrence.1 u d.label))
  is_joined u (step.CalleeUses.callee {arguments = arguments} {info = i} call records) =
      joined_of (uses_with_call infos g) Calls_use calls_add calls_gain own (bit_of u) (statements f.body)
      (Leaf (Call call.callee arguments call.result)) call.holds
      (of_uses infos call.callee g u i call.stored records)

  -- the uses have no other bits
  put_small : (r : Option ℕ) (n l : ℕ) → n < 16 → l < 16 → put_one r g n l < 16
  put_small None n l a b = a
  put_small (Some h) n l a b = at (nat_eq h g) refl where
    at : (t : Bool) → nat_eq h g ≡ t → put_one (Some h) g n l < 16
    at true t = let P : ℕ → Type 0 = λ v. v < 16 in subst P (sym (if_true (nat_eq h g) (bit_or n l) n t)) (or_small n l a b)
    at false t = let P : ℕ → Type 0 = λ v. v < 16 in subst P (sym (if_false (nat_eq h g) (bit_or n l) n t)) a

  own_small : (n : ℕ) (os : List (ℕ × Label)) → n < 16 → fold (put_at all g) n os < 16
  own_small n [] lt = lt
  own_small n (o ∷ os) lt = own_small (put_at all g n o) os (put_small (root_at all o.0) n (bits o.1) lt (label_small o.1))

  call_small : (n : ℕ) (s : Step) → n < 16 → uses_with_call infos g n s < 16
  call_small n (Leaf (Call c arguments result)) lt = or_small n (called_uses infos c g) lt (uses_small infos c g)
  call_small n s lt = lt

  calls_small : (n : ℕ) (ss : List Step) → n < 16 → fold (uses_with_call infos g) n ss < 16
  calls_small n [] lt = lt
  calls_small n (s ∷ ss) lt = calls_small (uses_with_call infos g n s) ss (call_small n s lt)

  joined_small : after_calls < 16
  joined_small = calls_small own (statements f.body) (own_small 0 (occurrences f) (omega arith))

  -- the uses after the globals that are only named
  abbrev at_end : ℕ
  at_end = fold (name_at all g) after_calls (keys_of f.named_expressions)

  names_to : Named all g (keys_of f.named_expressions) → Names f g
  names_to n = record { expression = n.0; named = n.1; root = root_to m infos f all is below n.0 g n.2 }

  of_names : Names f g → Named all g (keys_of f.named_expressions)
  of_names n = (n.expression, n.named, root_from m infos f all is below n.expression g n.root)

  not_joined : after_calls ≡ 0 → (u : Use) → CalleeUses (infos_of infos) f g u → ⊥
  not_joined e u j = let P : ℕ → Type 0 = λ v. IsBitSet v (bit_of u) in no_bit (bit_of u) (subst P e (is_joined u j))

  -- the case that nothing is joined
  unused : (u : Use) → after_calls ≡ 0 → at_end ≡ fold (name_at all g) 0 (keys_of f.named_expressions) →
      (IsBitSet at_end (bit_of u) ↔ StepUse (infos_of infos) f g u)
  unused u e ends = elim (named_cases all g (keys_of f.named_expressions)) [
    | inl some ↦ (
      λ h.
          let P : ℕ → Type 0 = λ v. IsBitSet v (bit_of u) in
          let query = query_to u (subst P (ends ∙ some.1) h) in
          let Q : Use → Type 0 = λ v. StepUse (infos_of infos) f g v in
          subst Q (sym query) (step.StepUse.patched (names_to some.0) (not_joined e)),
      λ t. marked u t (ends ∙ some.1),
    )
    | inr never ↦ (
      λ h. let P : ℕ → Type 0 = λ v. IsBitSet v (bit_of u) in absurd (no_bit (bit_of u) (subst P (ends ∙ never.1) h)),
      λ t. absurd (not_marked u t never.0),
    )
  ] where
    marked : (u : Use) → StepUse (infos_of infos) f g u → at_end ≡ 4 → IsBitSet at_end (bit_of u)
    marked u (step.StepUse.joined j) four = absurd (not_joined e u j)
    marked u (step.StepUse.patched n none) four = let P : ℕ → Type 0 = λ v. IsBitSet v 2 in subst P (sym four) (of_bit 4 2 refl)

    not_marked : (u : Use) → StepUse (infos_of infos) f g u → (Named all g (keys_of f.named_expressions) → ⊥) → ⊥
    not_marked u (step.StepUse.joined j) never = not_joined e u j
    not_marked u (step.StepUse.patched n none) never = never (of_names n)

  -- the case that something is joined
  used : (u : Use) → after_calls ≢ 0 → (IsBitSet at_end (bit_of u) ↔ StepUse (infos_of infos) f g u)
  used u some =
      let stays : at_end ≡ after_calls = used_named all g after_calls (keys_of f.named_expressions) some in
      let P : ℕ → Type 0 = λ v. IsBitSet v (bit_of u) in
      (λ h. step.StepUse.joined (joined_is u (subst P stays h)), λ t. subst P (sym stays) (from u t)) where
        from : (u : Use) → StepUse (infos_of infos) f g u → IsBitSet after_calls (bit_of u)
        from u (step.StepUse.joined j) = is_joined u j
        from u (step.StepUse.patched n none) = absurd (some (no_use after_calls joined_small (λ u h. none u (joined_is u h))))

  uses_in_range : (u : Use) → IsBitSet at_end (bit_of u) ↔ StepUse (infos_of infos) f g u
  uses_in_range u = elim (cases_eq after_calls 0) [
    | inl none ↦ unused u none (ap (λ v. fold (name_at all g) v (keys_of f.named_expressions)) none)
    | inr some ↦ used u some
  ]

  end_small : at_end < 16
  end_small = elim (cases_eq after_calls 0) [
    | inl none ↦
        let ends : at_end ≡ fold (name_at all g) 0 (keys_of f.named_expressions) =
        ap (λ v. fold (name_at all g) v (keys_of f.named_expressions)) none in
        elim (named_cases all g (keys_of f.named_expressions))
        [ inl some ↦ omega (arith, ends, some.1) | inr never ↦ omega (arith, ends, never.1) ]
    | inr some ↦ omega (arith, used_named all g after_calls (keys_of f.named_expressions) some, joined_small)
  ]

  -- a global that doesn't exist has no use
  root_within : (e g : ℕ) → Root f.expressions e g → g < length m.global_variables
  root_within e g (occurs.Root.global s) = within e g s
  root_within e g (occurs.Root.access {base = base} s r) = root_within base g r
  root_within e g (occurs.Root.access_index {base = base} s r) = root_within base g r

  past_joined : length m.global_variables ≤ g → (u : Use) → CalleeUses (infos_of infos) f g u → ⊥
  past_joined past u (step.CalleeUses.own d) = let lt = root_within d.occurrence.0 g d.root in absurd (omega arith)
  past_joined past u (step.CalleeUses.callee {info = i} call records) =
      let at = of_stored infos call.callee i call.stored in
      let P : Info → Type 0 = λ v. IsBitSet (slice_index v.global_uses g) (bit_of u) in
      let none = get_or_past (info_of at.0).global_uses g 0
      (omega (arith, past, fit call.callee at.0 at.1, length-map at.0.global_uses (λ (v : GlobalUse). v.0))) in
      let Q : ℕ → Type 0 = λ v. IsBitSet v (bit_of u) in
      no_bit (bit_of u) (subst Q none (subst P (sym at.2) records))

  past_used : length m.global_variables ≤ g → (u : Use) → StepUse (infos_of infos) f g u → ⊥
  past_used past u (step.StepUse.joined j) = past_joined past u j
  past_used past u (step.StepUse.patched n none) = let lt = root_within n.expression g n.root in absurd (omega arith)

-- the uses of the function's own operands
module _ (f : Function) (all : List Fact) (n : ℕ) (ref_counts : CountsAndUses)
    (is : ref_counts ≡ fold (ref_counts_after all) (replicate (length f.expressions) 0, replicate n 0, None) (occurrences f)) where
  abbrev unused_globals : List ℕ
  unused_globals = replicate n 0

  unused_long : length unused_globals ≡ n
  unused_long = let none_yet : ℕ = 0 in length-replicate n none_yet

  pub own_uses_long : length ref_counts.1 ≡ n
  own_uses_long = ap (λ (v : CountsAndUses). length v.1) is ∙ (puts_long all (
    replicate (length f.expressions) 0,
    unused_globals,
    None,
  ) (occurrences f) ∙ unused_long)

  pub own_uses_are : (g : ℕ) → g < n → slice_index ref_counts.1 g ≡ fold (put_at all g) 0 (occurrences f)
  own_uses_are g lt =
      ap (λ (v : CountsAndUses). slice_index v.1 g) is
      ∙ (puts_are all (replicate (length f.expressions) 0, unused_globals, None) (occurrences f) g (omega (arith, unused_long))
      ∙ ap (λ v. fold (put_at all g) v (occurrences f)) (get_or-replicate n g 0 0 lt))

module _ (m : Module) (infos : List FunctionInfo) (f : Function) (all : List Fact)
    (is : all ≡ facts_after m infos f [] (enumerate_from 0 f.expressions))
    (below : PointsBackwards f)
    (within : GlobalsWithin m f) (fit : EachFits m infos)
    (ss : List Step) (same : ss ≡ statements f.body) (own_uses joined_uses ends : List ℕ)
    (own_long : length own_uses ≡ length m.global_variables)
    (own_are : (g : ℕ) → g < length m.global_variables → slice_index own_uses g ≡ own m infos f all is below within fit g)
    (joined_long : length joined_uses ≡ length own_uses)
    (joined_are : (g : ℕ) → g < length joined_uses → slice_index joined_uses g ≡ uses_with_calls infos g (slice_index own_uses g) ss)
    (ends_are : ends ≡ fold (named_by all) joined_uses (keys_of f.named_expressions)) where
  ends_long : length ends ≡ length m.global_variables
  ends_long = ap length ends_are ∙ (names_long all joined_uses (keys_of f.named_expressions) ∙ (joined_long ∙ own_long))

  ends_at : (g : ℕ) → g < length m.global_variables → slice_index ends g ≡ at_end m infos f all is below within fit g
  ends_at g lt =
      ap (λ v. slice_index v g) ends_are
      ∙ (names_are all joined_uses (keys_of f.named_expressions) g (omega (arith, joined_long, own_long))
      ∙ ap (λ v. fold (name_at all g) v (keys_of f.named_expressions))
      (joined_are g (omega (arith, joined_long, own_long))
      ∙ (ap (λ v. fold (uses_with_call infos g) (slice_index own_uses g) v) same
      ∙ ap (λ v. fold (uses_with_call infos g) v (statements f.body)) (own_are g lt))))

  pub step_uses : (g : ℕ) (u : Use) → IsBitSet (slice_index ends g) (bit_of u) ↔ StepUse (infos_of infos) f g u
  step_uses g u = at (nat_lt g (length m.global_variables)) refl where
    at : (b : Bool) → nat_lt g (length m.global_variables) ≡ b → IsBitSet (slice_index ends g) (bit_of u) ↔ StepUse (infos_of infos) f g u
    at true t =
        let P : ℕ → Type 0 = λ v. IsBitSet v (bit_of u) ↔ StepUse (infos_of infos) f g u in
        subst P (sym (ends_at g (omega (arith, ltb-true, t)))) (uses_in_range m infos f all is below within fit g u)
    at false t =
        let past : length m.global_variables ≤ g = omega (arith, ltb-false, t) in
        let none = get_or_past ends g 0 (omega (arith, past, ends_long)) in
        let P : ℕ → Type 0 = λ v. IsBitSet v (bit_of u) in
        (λ h. absurd (no_bit (bit_of u) (subst P none h)), λ s. absurd (past_used m infos f all is below within fit g past u s))

  pub ends_small : (g : ℕ) → slice_index ends g < 16
  ends_small g = at (nat_lt g (length m.global_variables)) refl where
    at : (b : Bool) → nat_lt g (length m.global_variables) ≡ b → slice_index ends g < 16
    at true t = omega (arith, ends_at g (omega (arith, ltb-true, t)), end_small m infos f all is below within fit g)
    at false t = omega (arith, get_or_past ends g 0 (omega (arith, ltb-false, t, ends_long)))

  pub ends_fit : (length ends ≡ length m.global_variables)
  ends_fit = ends_long

-- a list that is written over the whole of another
written : (xs ys : List ℕ) (len : ℕ) → len ≡ length xs → length ys ≡ length xs → take len (ys ++ drop (length ys) xs) ≡ ys
written xs ys len ok long =
    let e : len ≡ length ys = omega arith in
    ap (λ n. take n (ys ++ drop (length ys) xs)) e ∙ take-append_seam ys (drop (length ys) xs)

-- the uses as the code writes them: first those of the callees, then those of the globals that are only named
module _ (m : Module) (infos : List FunctionInfo) (f : Function) (all : List Fact)
    (is : all ≡ facts_after m infos f [] (enumerate_from 0 f.expressions))
    (below : PointsBackwards f)
    (within : GlobalsWithin m f) (fit : EachFits m infos)
    (ss : List Step) (same : ss ≡ statements f.body) (ref_counts : CountsAndUses)
    (ref_counts_are : ref_counts ≡ fold (ref_counts_after all) (
      replicate (length f.expressions) 0,
      replicate (length m.global_variables) 0,
      None,
    ) (occurrences f))
    (xs lent joined lent_again ends named : List ℕ) (len : ℕ) (xs_is : xs ≡ ref_counts.1) (ok : len ≡ length xs)
    (lent_is : lent ≡ xs) (joined_long : length joined ≡ length lent)
    (joined_are : (g : ℕ) → g < length joined → slice_index joined g ≡ uses_with_calls infos g (slice_index lent g) ss)
    (again_is : lent_again ≡ take len (joined ++ drop (length joined) xs)) (ends_long : length ends ≡ length lent_again)
    (named_is : named ≡ (keys_of f.named_expressions)) (ends_are : ends ≡ fold (named_by all) lent_again named) where
  joined_long_xs : length joined ≡ length xs
  joined_long_xs = joined_long ∙ ap length lent_is

  again : lent_again ≡ joined
  again = again_is ∙ written xs joined len ok joined_long_xs

  abbrev retained : List ℕ
  retained = take len (ends ++ drop (length ends) (take len (joined ++ drop (length joined) xs)))

  retained_is : retained ≡ ends
  retained_is =
      let back = written xs joined len ok joined_long_xs in
      ap (λ v. take len (ends ++ drop (length ends) v)) back
      ∙ written joined ends len (ok ∙ sym joined_long_xs) (ends_long ∙ ap length again)

  whole_ends : ends ≡ fold (named_by all) joined (keys_of f.named_expressions)
  whole_ends = ends_are ∙ (ap (λ v. fold (named_by all) v named) again ∙ ap (λ v. fold (named_by all) joined v) named_is)

  ref_counts_long : length ref_counts.1 ≡ length m.global_variables
  ref_counts_long = own_uses_long f all (length m.global_variables) ref_counts ref_counts_are

  pub finished : HasUses m infos f retained
  finished =
      let long : length joined ≡ length ref_counts.1 = joined_long_xs ∙ ap length xs_is in
      let are : (g : ℕ) → g < length joined → slice_index joined g ≡ uses_with_calls infos g (slice_index ref_counts.1 g) ss =
      λ g lt. joined_are g lt ∙ ap (λ v. uses_with_calls infos g (slice_index v g) ss) (lent_is ∙ xs_is) in
      let own_are = own_uses_are f all (length m.global_variables) ref_counts ref_counts_are in
      subst (HasUses m infos f) (sym retained_is) (
        step_uses m infos f all is below within fit ss same ref_counts.1 joined ends ref_counts_long own_are long are whole_ends,
        ends_fit m infos f all is below within fit ss same ref_counts.1 joined ends ref_counts_long own_are long are whole_ends,
        ends_small m infos f all is below within fit ss same ref_counts.1 joined ends ref_counts_long own_are long are whole_ends,
      )

-- The diagnostics that get a block, by those before.
use Rattle.std.proofs.Common.{◌≡◌, ◌∙◌, ◌+◌, ◌++◌, ◌∷◌, [], ℕ, List, Bool, true, false, add-one, ap, length, subst, sym, if◌then◌else◌}
use Rattle.report_diagnostics.specs.declared.diagnostic.Diagnostic.{Diagnostic}
use Rattle.report_blocks.specs.Chosen.{chosen_among, is_chosen, with_next}

module _ (all : Bool) (ds : List Diagnostic) (n : ℕ) (before after : List ℕ) where
  next : before ≡ chosen_among all ds n → after ≡ with_next all ds before n → after ≡ chosen_among all ds (n + 1)
  next is more = subst (λ (k : ℕ). after ≡ chosen_among all ds k) (sym (add-one n))
      (more ∙ ap (λ (indexes : List ℕ). with_next all ds indexes n) is)

  -- the one at the index gets a block
  pub one_more : before ≡ chosen_among all ds n → is_chosen all ds (length before) n ≡ true → after ≡ before ++ n ∷ [] →
      after ≡ chosen_among all ds (n + 1)
  one_more is test more =
      next is (more ∙ sym (ap (λ (b : Bool). if b then before ++ n ∷ [] else before) test))

  -- it gets none
  pub none_more : before ≡ chosen_among all ds n → is_chosen all ds (length before) n ≡ false → after ≡ before →
      after ≡ chosen_among all ds (n + 1)
  none_more is test same =
      next is (same ∙ sym (ap (λ (b : Bool). if b then before ++ n ∷ [] else before) test))

-- The facts of expressions, one after the other.
use Rattle.std.proofs.Common.{◌≡◌, refl, sym, subst, ◌∙◌, ℕ, zero, suc, ◌+◌, ◌<◌, List, [], ◌∷◌}
use Rattle.std.proofs.Common.{◌++◌, Some, slice_get, length, arith, append_assoc, length-append}
use Rattle.std.specs.List.{enumerate_from}
use Rattle.std.proofs.lemmas.List.{append-nil}
use Rattle.shader_analysis_spec.specs.Program.{Expression, Function, Module}
use Rattle.shader_info.specs.declared.info.FunctionInfo.{FunctionInfo}
use Rattle.shader_passes.specs.Facts.{Fact}
use Rattle.shader_passes.specs.Facts.{facts_after, entry}

pub get_seam : {X : Type 0} (xs : List X) (y : X) (ys : List X) (k : ℕ) → length xs ≡ k → slice_get (xs ++ y ∷ ys) k ≡ Some y
get_seam [] y ys zero e = refl
get_seam [] y ys (suc k) e = absurd (omega arith)
get_seam (x ∷ xs) y ys zero e = absurd (omega arith)
get_seam (x ∷ xs) y ys (suc k) e = get_seam xs y ys k (omega arith)

pub get_left : {X : Type 0} (xs ys : List X) (k : ℕ) → k < length xs → slice_get (xs ++ ys) k ≡ slice_get xs k
get_left [] ys k lt = absurd (omega arith)
get_left (x ∷ xs) ys zero lt = refl
get_left (x ∷ xs) ys (suc k) lt = get_left xs ys k (omega arith)

module _ (m : Module) (infos : List FunctionInfo) (f : Function) where
  -- the facts of more expressions come after those before
  pub extends : (before : List Fact) (ps : List (ℕ × Expression)) →
      (extra : List Fact) × (facts_after m infos f before ps ≡ before ++ extra)
  extends before [] = ([], sym (append-nil before))
  extends before (p ∷ ps) =
      let one = entry m infos f before p.0 p.1 in
      let r = extends (before ++ one ∷ []) ps in
      (one ∷ r.0, r.1 ∙ append_assoc before (one ∷ []) r.0)

  -- an expression's fact is between those of the earlier and those of the later expressions
  pub record Between (all : List Fact) (e : ℕ) (x : Expression) : Type 0 where
    pub prior : List Fact
    pub later : List Fact
    pub long : length prior ≡ e
    pub is : all ≡ prior ++ entry m infos f prior e x ∷ later

  between : (before : List Fact) (n : ℕ) → length before ≡ n → (xs : List Expression) (k : ℕ) (x : Expression) → slice_get xs k ≡ Some x →
      (i : ℕ) → i ≡ n + k → Between (facts_after m infos f before (enumerate_from n xs)) i x
  between before n long [] k x e i at = absurd (cc)
  between before n long (y ∷ ys) zero x e i at =
      let r = extends (before ++ entry m infos f before n y ∷ []) (enumerate_from (n + 1) ys) in
      let same : y ≡ x = cc in
      let here : n ≡ i = omega arith in
      let P : Expression → Type 0 = λ v. facts_after m infos f before (enumerate_from n (y ∷ ys)) ≡ before
      ++ entry m infos f before n v ∷ r.0 in
      let Q : ℕ → Type 0 = λ v. facts_after m infos f before (enumerate_from n (y ∷ ys)) ≡ before ++ entry m infos f before v x ∷ r.0 in
      record {
        prior = before;
        later = r.0;
        long = long ∙ here;
        is = subst Q here (subst P same (r.1 ∙ append_assoc before (entry m infos f before n y ∷ []) r.0));
      }
  between before n long (y ∷ ys) (suc k) x e i at =
      between (before ++ entry m infos f before n y ∷ []) (n + 1) (omega (arith, length-append before (entry m infos f before n y ∷ []))) ys
      k x e i (omega arith)

  pub is_there_between : (xs : List Expression) (e : ℕ) (x : Expression) → slice_get xs e ≡ Some x →
      Between (facts_after m infos f [] (enumerate_from 0 xs)) e x
  is_there_between xs e x h = between [] 0 refl xs e x h e (omega arith)

  long_from : (before : List Fact) (n : ℕ) (xs : List Expression) →
      length (facts_after m infos f before (enumerate_from n xs)) ≡ length before + length xs
  long_from before n [] = omega arith
  long_from before n (x ∷ xs) =
      omega (
        arith,
        long_from (before ++ entry m infos f before n x ∷ []) (n + 1) xs,
        length-append before (entry m infos f before n x ∷ []),
      )

  pub facts_after_long : (xs : List Expression) → length (facts_after m infos f [] (enumerate_from 0 xs)) ≡ length xs
  facts_after_long xs = omega (arith, long_from [] 0 xs)

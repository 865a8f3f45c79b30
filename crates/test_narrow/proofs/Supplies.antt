-- Calls whose types are in an arena that grows.
use Rattle.std.proofs.Common.{◌≡◌, ◌∙◌, ℕ, ◌++◌, ◌||◌, All, Bool, true, false, IsTrue, List, []}
use Rattle.std.proofs.Common.{◌∷◌, Some, None, get_or, ap, sym, refl, subst, append_assoc, arith}
use Rattle.std.specs.List.{AllZip, list_any}
use Rattle.std.proofs.lemmas.List.{append-nil}
use Rattle.std.proofs.lemmas.List.Folds.{list_any-append}
use Rattle.std.proofs.lemmas.List.Elements.{All-nil, All-push}
use Rattle.std.proofs.lemmas.Slice.Zip.{all_zipped_more}
use Rattle.shader_ir.specs.declared.types.«Type».{«Type»}
use Rattle.shader_overloads.specs.declared.overload_set.SetCall.{SetCall}
use Rattle.shader_overloads.specs.declared.overload_set.SetCall.TheVariants as calls
use Rattle.shader_overloads.specs.Remaining.{CallFits}
use Rattle.shader_type_text.specs.Insertions.{PreservesTypes}
use Rattle.shader_type_text.proofs.InsertionLemmas.{stays_inserted}
use Rattle.test_narrow.specs.declared.step.Step.{Step}
use Rattle.test_narrow.specs.declared.step.Step.TheVariants.{Argument, ConcreteOnly}
use Rattle.test_narrow.specs.Steps.{IsCallOf, Denotes, has_no_step, step_of_word}

still_fits : (old new : List «Type») (call : SetCall) → PreservesTypes old new → CallFits old call → CallFits new call
still_fits old new (calls.Arg i ty) preserves fits = λ k d within. omega (arith, preserves.longer, fits k d within)
still_fits old new calls.ConcreteOnly preserves fits = tt

pub none_fit : (types : List «Type») → All (CallFits types) []
none_fit types = All-nil (CallFits types)

-- one more call that fits
pub fit_more : (old new : List «Type») (before : List SetCall) (call : SetCall) → PreservesTypes old new
    → All (CallFits old) before → CallFits new call → All (CallFits new) (before ++ call ∷ [])
fit_more old new before call preserves fit fits =
    All-push (CallFits new) before call (λ k d within. still_fits old new (get_or before k d) preserves (fit k d within)) fits

still_call : (old new : List «Type») (step : Step) (call : SetCall) → PreservesTypes old new → IsCallOf old step call →
    IsCallOf new step call
still_call old new (Argument position spelled) call preserves is = (is.0, is.1, stays_inserted old new spelled is.0 preserves is.2)
still_call old new ConcreteOnly call preserves is = is

still_denote : (old new : List «Type») (words : List (List ℕ)) (before : List SetCall) → PreservesTypes old new
    → AllZip (Denotes old) words before → AllZip (Denotes new) words before
still_denote old new [] [] preserves stand = tt
still_denote old new [] (call ∷ before) preserves stand = absurd stand
still_denote old new (word ∷ words) [] preserves stand = absurd stand
still_denote old new (word ∷ words) (call ∷ before) preserves stand =
    ((stand.0.0, stand.0.1, still_call old new stand.0.0 call preserves stand.0.2), still_denote old new words before preserves stand.1)

-- calls that stand for the first words, and the remaining words
abbrev pub AreTaken : List «Type» → List (List ℕ) → List (List ℕ) → List SetCall → Type 0
AreTaken types words left built = (taken : List (List ℕ)) × (words ≡ taken ++ left) × AllZip (Denotes types) taken built

pub empty_taken : (types : List «Type») (words left : List (List ℕ)) → words ≡ left → AreTaken types words left []
empty_taken types words left same = ([], same, tt)

pub one_taken : (old new : List «Type») (words before after : List (List ℕ)) (word : List ℕ) (built : List SetCall) (step : Step)
    (call : SetCall)
    → PreservesTypes old new → before ≡ word ∷ after → step_of_word word ≡ Some step → IsCallOf new step call
    → AreTaken old words before built → AreTaken new words after (built ++ call ∷ [])
one_taken old new words before after word built step call preserves next found is are = (
  are.0 ++ word ∷ [],
  are.1 ∙ ap (λ (ws : List (List ℕ)). are.0 ++ ws) next ∙ sym (append_assoc are.0 (word ∷ []) after),
  all_zipped_more (Denotes new) are.0 built word call (still_denote old new are.0 built preserves are.2) (step, found, is),
)

pub all_taken : (types : List «Type») (words left : List (List ℕ)) (built : List SetCall) → left ≡ [] → AreTaken types words left built
    → AllZip (Denotes types) words built
all_taken types words left built none are =
    let whole : words ≡ are.0 = are.1 ∙ ap (λ (ws : List (List ℕ)). are.0 ++ ws) none ∙ append-nil are.0 in
    subst (λ (ws : List (List ℕ)). AllZip (Denotes types) ws built) (sym whole) are.2

at_stray : (b c d : Bool) → d ≡ (b || c) → c ≡ true → IsTrue d
at_stray true c d is stray = is
at_stray false c d is stray = is ∙ stray

-- some word among the words spells no step
pub one_stray : (types : List «Type») (words before after : List (List ℕ)) (word : List ℕ) (built : List SetCall)
    → before ≡ word ∷ after → None ≡ step_of_word word → AreTaken types words before built → IsTrue (list_any has_no_step words)
one_stray types words before after word built next stray are =
    let is_there : list_any has_no_step (word ∷ after) ≡ true = rw (← stray) refl in
    at_stray (list_any has_no_step are.0) (list_any has_no_step before) (list_any has_no_step words)
    (ap (list_any has_no_step) are.1 ∙ list_any-append has_no_step are.0 before)
    (ap (list_any has_no_step) next ∙ is_there)

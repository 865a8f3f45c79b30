-- Options of words.
use Rattle.std.proofs.Common.{◌≡◌, ◌∙◌, ◌+◌, ◌∷◌, ap, List, Ok, String, ℕ}
use Rattle.std.specs.String.{string_bytes}
use Rattle.report_answers.specs.Options.{on_ok, options_from, with_word}
use Rattle.report_answers.specs.declared.options.Options.{Options}

-- the options of words are those of all but the first, from those that the first one gives
pub next_word : {A : Type 0} (options next : Options) (index : ℕ) (word : String A) (words left : List (String A))
    → left ≡ word ∷ words → with_word options index (string_bytes word) ≡ Ok next
    → options_from options index left ≡ options_from next (index + 1) words
next_word options next index word words left here gives =
    ap (options_from options index) here ∙ ap (λ result. on_ok result (λ next. options_from next (index + 1) words)) gives

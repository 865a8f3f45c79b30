-- Laws about words of the command line.
use Rattle.std.specs.Prelude.{◌≡◌, ◌∷◌, ◌++◌, Bool, List, Ok, String, string_bytes}
use Rattle.std.specs.List.{filter_map, list_any}
use Rattle.report_answers.specs.Options.{flag_of, is_set, options_from, start, with}
use Rattle.report_answers.specs.declared.options.Flag.{Flag}
use Rattle.report_answers.specs.declared.options.Options.{Options}

-- words that stand side by side may change places, so the order of all makes no difference
abbrev pub WordsChangePlaces : Type 0 → Type 0
WordsChangePlaces A = (before after : List (String A)) (one other : String A) (options : Options)
    → options_from start 0 (before ++ one ∷ other ∷ after) ≡ Ok options
    → options_from start 0 (before ++ other ∷ one ∷ after) ≡ Ok options

-- whether one flag sets what another sets
abbrev pub sets_same : Flag → Flag → Bool
sets_same one other = is_set (with start one) other

-- the flags that words are
abbrev pub flags_in : {A : Type 0} → List (String A) → List Flag
flags_in words = filter_map (λ word. flag_of (string_bytes word)) words

-- what a flag sets is set already exactly if a word before it sets that
abbrev pub TwiceIsOfTwoWords : Type 0 → Type 0
TwiceIsOfTwoWords A = (words : List (String A)) (options : Options) (flag : Flag) → options_from start 0 words ≡ Ok options
    → is_set options flag ≡ list_any (λ earlier. sets_same earlier flag) (flags_in words)

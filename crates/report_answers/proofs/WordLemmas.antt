-- Words of the command line in any order.
use Rattle.std.proofs.Common.{◌≡◌, ◌∙◌, ◌+◌, [], ◌∷◌, ◌++◌, ◌||◌, ap, refl, sym, List, Ok, Err, Option, Some, None, Result, String, ℕ}
use Rattle.std.proofs.Common.{Bool, true, false}
use Rattle.std.specs.List.{cons_option, list_any}
use Rattle.std.specs.String.{string_bytes}
use Rattle.report_answers.specs.Options.{flag_of, is_set, on_ok, once, options_from, start, with, with_flag, with_word}
use Rattle.report_answers.specs.WordLaws.{TwiceIsOfTwoWords, WordsChangePlaces, flags_in, sets_same}
use Rattle.report_answers.specs.declared.options.BadWord.{BadWord}
use Rattle.report_answers.specs.declared.options.Flag.{Flag}
use Rattle.report_answers.specs.declared.options.Flag.TheVariants.{Json, FormatText, FormatJson, WgslFlow, NagaFlow, AnyFlow, NoFlow}
use Rattle.report_answers.specs.declared.options.Flag.TheVariants.{IndexTextures, IndexStorageTextures, IndexBoth, IndexBothTurned}
use Rattle.report_answers.specs.declared.options.Flag.TheVariants.{Bounds, Policies, Resources, AllStructs, Drawing, NoDrawing}
use Rattle.report_answers.specs.declared.options.Flag.TheVariants.{Explain, ShowAll}
use Rattle.report_answers.specs.declared.options.Options.{Options}

set_twice : {A : Type 0} → true ≡ false → A
set_twice e = absurd (cc)

or_true : (b : Bool) → (b || true) ≡ true
or_true true = refl
or_true false = refl

or_set : {A : Type 0} (b : Bool) → (b || true) ≡ false → A
or_set b e = set_twice (sym (or_true b) ∙ e)

-- a flag that may stand behind another one may stand before it, and then both set the same
record MayChange (o : Options) (one other : Flag) : Type 0 where
  pub unset : is_set o other ≡ false
  pub still_unset : is_set (with o other) one ≡ false
  pub same : with (with o other) one ≡ with (with o one) other

-- two flags that set different things, or the second would be refused
change : (o : Options) (one other : Flag) → is_set o one ≡ false → is_set (with o one) other ≡ false → MayChange o one other
change o Json Json unset twice = set_twice twice
change o Json FormatText unset twice = set_twice twice
change o Json FormatJson unset twice = set_twice twice
change o FormatText Json unset twice = or_set o.is_json twice
change o FormatText FormatText unset twice = or_set o.is_json twice
change o FormatText FormatJson unset twice = or_set o.is_json twice
change o FormatJson Json unset twice = set_twice twice
change o FormatJson FormatText unset twice = set_twice twice
change o FormatJson FormatJson unset twice = set_twice twice
change o WgslFlow WgslFlow unset twice = set_twice twice
change o WgslFlow NagaFlow unset twice = set_twice twice
change o WgslFlow AnyFlow unset twice = set_twice twice
change o WgslFlow NoFlow unset twice = set_twice twice
change o NagaFlow WgslFlow unset twice = set_twice twice
change o AnyFlow WgslFlow unset twice = set_twice twice
change o NoFlow WgslFlow unset twice = set_twice twice
change o NagaFlow NagaFlow unset twice = set_twice twice
change o NagaFlow AnyFlow unset twice = set_twice twice
change o NagaFlow NoFlow unset twice = set_twice twice
change o AnyFlow NagaFlow unset twice = set_twice twice
change o AnyFlow AnyFlow unset twice = set_twice twice
change o AnyFlow NoFlow unset twice = set_twice twice
change o NoFlow NagaFlow unset twice = set_twice twice
change o NoFlow AnyFlow unset twice = set_twice twice
change o NoFlow NoFlow unset twice = set_twice twice
change o IndexTextures IndexTextures unset twice = set_twice twice
change o IndexTextures IndexStorageTextures unset twice = set_twice twice
change o IndexTextures IndexBoth unset twice = set_twice twice
change o IndexTextures IndexBothTurned unset twice = set_twice twice
change o IndexStorageTextures IndexTextures unset twice = or_set o.indexes_textures twice
change o IndexStorageTextures IndexStorageTextures unset twice = or_set o.indexes_textures twice
change o IndexStorageTextures IndexBoth unset twice = or_set o.indexes_textures twice
change o IndexStorageTextures IndexBothTurned unset twice = or_set o.indexes_textures twice
change o IndexBoth IndexTextures unset twice = set_twice twice
change o IndexBoth IndexStorageTextures unset twice = set_twice twice
change o IndexBoth IndexBoth unset twice = set_twice twice
change o IndexBoth IndexBothTurned unset twice = set_twice twice
change o IndexBothTurned IndexTextures unset twice = set_twice twice
change o IndexBothTurned IndexStorageTextures unset twice = set_twice twice
change o IndexBothTurned IndexBoth unset twice = set_twice twice
change o IndexBothTurned IndexBothTurned unset twice = set_twice twice
change o Bounds Bounds unset twice = set_twice twice
change o (Policies one) (Policies other) unset twice = set_twice twice
change o Resources Resources unset twice = set_twice twice
change o AllStructs AllStructs unset twice = set_twice twice
change o Drawing Drawing unset twice = set_twice twice
change o Drawing NoDrawing unset twice = set_twice twice
change o NoDrawing Drawing unset twice = set_twice twice
change o NoDrawing NoDrawing unset twice = set_twice twice
change o Explain Explain unset twice = set_twice twice
change o ShowAll ShowAll unset twice = set_twice twice
change o one other unset also = record { unset = also; still_unset = unset; same = refl }

at_once : (b : Bool) (index : ℕ) (o : Options) (next : Options → Result Options BadWord) (r : Options)
    → on_ok (once b index o) next ≡ Ok r → (b ≡ false) × (next o ≡ Ok r)
at_once true index o next r e = absurd (cc)
at_once false index o next r e = (refl, e)

once_unset : (b : Bool) (index : ℕ) (o : Options) (next : Options → Result Options BadWord) → b ≡ false
    → on_ok (once b index o) next ≡ next o
once_unset true index o next e = set_twice e
once_unset false index o next e = refl

carried : (result : Result Options BadWord) (next other : Options → Result Options BadWord) (r : Options)
    → ((o : Options) → next o ≡ Ok r → other o ≡ Ok r) → on_ok result next ≡ Ok r → on_ok result other ≡ Ok r
carried (Ok o) next other r each e = each o e
carried (Err bad) next other r each e = absurd (cc)

module _ {A : Type 0} where
  -- the options of a flag and of the words after it
  abbrev next_flag : ℕ → Option Flag → List (String A) → Options → Result Options BadWord
  next_flag index flag after next = on_ok (with_flag next (index + 1) flag) (λ last. options_from last (index + 1 + 1) after)

  two_change : (o r : Options) (index : ℕ) (after : List (String A)) (one other : Option Flag)
      → on_ok (with_flag o index one) (next_flag index other after) ≡ Ok r
      → on_ok (with_flag o index other) (next_flag index one after) ≡ Ok r
  two_change o r index after None other e = absurd (cc)
  two_change o r index after (Some one) None e =
      let first = at_once (is_set o one) index (with o one) _ r e in
      let none = first.1 in
      absurd (cc)
  two_change o r index after (Some one) (Some other) e =
      let first = at_once (is_set o one) index (with o one) _ r e in
      let second = at_once (is_set (with o one) other) (index + 1) (with (with o one) other) _ r first.1 in
      let changed = change o one other first.0 second.0 in
      once_unset (is_set o other) index (with o other) _ changed.unset
      ∙ (once_unset (is_set (with o other) one) (index + 1) (with (with o other) one) _ changed.still_unset
      ∙ (ap (λ next. options_from next (index + 1 + 1) after) changed.same ∙ second.1))

  behind : (before after : List (String A)) (one other : String A) (o r : Options) (index : ℕ)
      → options_from o index (before ++ one ∷ other ∷ after) ≡ Ok r → options_from o index (before ++ other ∷ one ∷ after) ≡ Ok r
  behind [] after one other o r index e = two_change o r index after (flag_of (string_bytes one)) (flag_of (string_bytes other)) e
  behind (word ∷ before) after one other o r index e =
      carried (with_word o index (string_bytes word)) _ _ r (λ next. behind before after one other next r (index + 1)) e

  pub words_change_places : WordsChangePlaces A
  words_change_places before after one other options e = behind before after one other start options 0 e

is_set-with : (o : Options) (one other : Flag) → is_set (with o one) other ≡ (sets_same one other || is_set o other)
is_set-with o Json Json = refl
is_set-with o FormatText Json = or_true o.is_json
is_set-with o FormatText FormatText = or_true o.is_json
is_set-with o FormatText FormatJson = or_true o.is_json
is_set-with o FormatJson FormatJson = refl
is_set-with o WgslFlow WgslFlow = refl
is_set-with o NagaFlow NagaFlow = refl
is_set-with o AnyFlow AnyFlow = refl
is_set-with o NoFlow NoFlow = refl
is_set-with o IndexTextures IndexTextures = refl
is_set-with o IndexStorageTextures IndexTextures = or_true o.indexes_textures
is_set-with o IndexStorageTextures IndexStorageTextures = or_true o.indexes_textures
is_set-with o IndexStorageTextures IndexBoth = or_true o.indexes_textures
is_set-with o IndexStorageTextures IndexBothTurned = or_true o.indexes_textures
is_set-with o IndexBoth IndexBoth = refl
is_set-with o IndexBothTurned IndexBothTurned = refl
is_set-with o Bounds Bounds = refl
is_set-with o (Policies one) (Policies other) = refl
is_set-with o Resources Resources = refl
is_set-with o AllStructs AllStructs = refl
is_set-with o Drawing Drawing = refl
is_set-with o NoDrawing NoDrawing = refl
is_set-with o Explain Explain = refl
is_set-with o ShowAll ShowAll = refl
is_set-with o one other = refl

is_set-start : (flag : Flag) → is_set start flag ≡ false
is_set-start Json = refl
is_set-start flag = refl

or_moved : (one many rest : Bool) → (many || (one || rest)) ≡ ((one || many) || rest)
or_moved true true rest = refl
or_moved true false rest = refl
or_moved false true rest = refl
or_moved false false rest = refl

or_false : (b : Bool) → (b || false) ≡ b
or_false true = refl
or_false false = refl

abbrev is_among : Flag → List Flag → Bool
is_among flag flags = list_any (λ earlier. sets_same earlier flag) flags

module _ {A : Type 0} (flag : Flag) where
  set_by_first : (found : Option Flag) (words : List (String A)) (flags : List Flag) (o r : Options) (index : ℕ)
      → ((next : Options) → options_from next (index + 1) words ≡ Ok r → is_set r flag ≡ (is_among flag flags || is_set next flag))
      → on_ok (with_flag o index found) (λ next. options_from next (index + 1) words) ≡ Ok r
      → is_set r flag ≡ (is_among flag (cons_option found flags) || is_set o flag)
  set_by_first None words flags o r index each e = absurd (cc)
  set_by_first (Some one) words flags o r index each e =
      let first = at_once (is_set o one) index (with o one) _ r e in
      each (with o one) first.1 ∙ (ap (λ b. is_among flag flags || b) (is_set-with o one flag)
      ∙ or_moved (sets_same one flag) (is_among flag flags) (is_set o flag))

  set_by_words : (words : List (String A)) (o r : Options) (index : ℕ) → options_from o index words ≡ Ok r
      → is_set r flag ≡ (is_among flag (flags_in words) || is_set o flag)
  set_by_words [] o r index e = cc
  set_by_words (word ∷ words) o r index e =
      set_by_first (flag_of (string_bytes word)) words (flags_in words) o r index (λ next. set_by_words words next r (index + 1)) e

pub twice_is_of_two_words : {A : Type 0} → TwiceIsOfTwoWords A
twice_is_of_two_words words options flag e =
    set_by_words flag words start options 0 e ∙ (ap (λ b. is_among flag (flags_in words) || b) (is_set-start flag) ∙ or_false _)

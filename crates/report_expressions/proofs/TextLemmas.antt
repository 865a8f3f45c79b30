-- Texts that grow word by word, and their columns.
use Rattle.std.proofs.Common.{◌≡◌, ◌∙◌, ◌+◌, ◌-◌, ◌≤◌, ◌<◌, ◌&&◌, ◌++◌, ℕ, Bool, true, false, List, [], ◌∷◌, zero, suc, refl, sym, ap}
use Rattle.std.proofs.Common.{append_assoc, arith, get_or, length, subst, take, length-append, inl}
use Rattle.std.proofs.Common.{codes}
use Rattle.std.proofs.lemmas.Bool.{false≢true}
use Rattle.std.proofs.lemmas.List.{append-nil, length-take-le, take_more}
use Rattle.std.proofs.lemmas.Str.{chars-append, chars-encodes, scalars-chars}
use Rattle.std.specs.Str.{chars, IsUtf8, encode_utf8_all}
use lib.Utf8.{scalar, scalars}
use Rattle.report_names.specs.Literals.{IsText}
use Rattle.report_expressions.specs.Pieces.{AreSaid}
use Rattle.report_expressions.specs.Texts.{AreTexts, IsLine, IsShownAs, IsTextOf, word_text}
use Rattle.report_expressions.specs.declared.line.Source.{Source}
use Rattle.report_expressions.specs.declared.pieces.Piece.{Piece}

pub are_texts_push : (source : Source) (pieces : List Piece) (piece : Piece) (text word : List ℕ) → AreTexts source pieces text →
    IsText (word_text source piece.word) word → AreTexts source (pieces ++ piece ∷ []) (text ++ word)
are_texts_push source [] piece text word texts is =
    (word, [], ap (λ t. t ++ word) texts ∙ sym (append-nil word), is, refl)
are_texts_push source (first ∷ pieces) piece text word texts is = (
  texts.0,
  texts.1 ++ word,
  ap (λ t. t ++ word) texts.2 ∙ append_assoc texts.0 texts.1 word,
  texts.3,
  are_texts_push source pieces piece texts.1 word texts.4 is,
)

pub length-chars-append : (xs ys : List ℕ) → IsUtf8 xs → length (chars (xs ++ ys)) ≡ length (chars xs) + length (chars ys)
length-chars-append xs ys is = ap length (chars-append xs ys is) ∙ length-append (chars xs) (chars ys)

and_both : (a b : Bool) → (a && b) ≡ true → (a ≡ true) × (b ≡ true)
and_both true b is = (refl, is)
and_both false b is = absurd (false≢true is)

scalars-take : (count : ℕ) (cs : List ℕ) → scalars cs ≡ true → scalars (take count cs) ≡ true
scalars-take zero cs is = refl
scalars-take (suc count) [] is = is
scalars-take (suc count) (c ∷ cs) is =
    let parts = and_both (scalar c) (scalars cs) is in
    ap (λ b. b && scalars (take count cs)) parts.0 ∙ scalars-take count cs parts.1

pub chars-first : (text : List ℕ) (count : ℕ) → IsUtf8 text → chars (encode_utf8_all (take count (chars text))) ≡ take count (chars text)
chars-first text count is = chars-encodes (take count (chars text)) (scalars-take count (chars text) (scalars-chars text is))

dots : length (chars (codes "...")) ≡ 3
unfolding chars
dots = refl

-- a text that is cut has so many columns, and three dots
pub length-cut : (text first : List ℕ) (count : ℕ) → IsUtf8 text → IsUtf8 first → first ≡ encode_utf8_all (take count (chars text)) →
    count ≤ length (chars text) → length (chars (first ++ codes "...")) ≡ count + 3
length-cut text first count is_text is_first is short =
    length-chars-append first (codes "...") is_first
    ∙ ap (λ n. n + length (chars (codes "...")))
    (ap (λ t. length (chars t)) is ∙ ap length (chars-first text count is_text) ∙ length-take-le count (chars text) short)
    ∙ ap (λ n. count + n) dots

pub is_text_of : (source : Source) (pieces : List Piece) (text : List ℕ) → AreSaid source pieces → AreTexts source pieces text →
    IsTextOf source text
is_text_of source pieces text said texts = record { pieces = pieces; said = said; texts = texts }

pub is_line_whole : (source : Source) (text : List ℕ) → IsTextOf source text → IsLine source text
is_line_whole source text of = record { text = text; of = of; as' = inl refl }

pub is_line_cut : (source : Source) (text shown : List ℕ) → IsTextOf source text → IsShownAs text shown → IsLine source shown
is_line_cut source text shown of cut = record { text = text; of = of; as' = cut }

pub length-cut_to : (text same first shown : List ℕ) (columns count : ℕ) → IsUtf8 text → IsUtf8 first → same ≡ text →
    first ≡ encode_utf8_all (take count (chars same)) → count ≡ columns - 3 → columns < length (chars text) →
    shown ≡ first ++ codes "..." → length (chars shown) ≡ count + 3
length-cut_to text same first shown columns count is_text is_first is_same is kept long joined =
    ap (λ t. length (chars t)) joined
    ∙ length-cut text first count is_text is_first (is ∙ ap (λ t. encode_utf8_all (take count (chars t))) is_same) (omega arith)

-- the text of one more piece
pub are_texts_more : (source : Source) (pieces : List Piece) (i : ℕ) (d : Piece) (text word same shown : List ℕ) → i < length pieces →
    AreTexts source (take i pieces) text → IsText (word_text source (get_or pieces i d).word) word → same ≡ word → shown ≡ text ++ same →
    AreTexts source (take (i + 1) pieces) shown
are_texts_more source pieces i d text word same shown short texts is is_same joined =
    let P : List Piece → Type 0 = λ ps. AreTexts source ps (text ++ word) in
    let pushed = are_texts_push source (take i pieces) (get_or pieces i d) text word texts is in
    let moved : AreTexts source (take (i + 1) pieces) (text ++ word) = subst P (sym (take_more pieces i d short)) pushed in
    let Q : List ℕ → Type 0 = λ t. AreTexts source (take (i + 1) pieces) t in
    subst Q (sym (joined ∙ ap (λ w. text ++ w) is_same)) moved

-- The first line of a text.
use Rattle.std.proofs.Common.{◌≡◌, ℕ, ◌+◌, Bool, true, false, cond, eqb, Some, None, List}
use Rattle.std.proofs.Common.{[], ◌∷◌, length, take, drop, refl, sym, subst, ap, ◌∙◌}
use Rattle.std.specs.List.{slice_split, onto_first, position}
use Rattle.typer_answers.specs.Lines.{lines_of, without_empty_last}
use Rattle.shader_type_text.proofs.Splits.{split_at, split_whole}

abbrev pub HasPiece : List (List ℕ) → Type 0
HasPiece pieces = (first : List ℕ) × (more : List (List ℕ)) × (pieces ≡ first ∷ more)

one_more : (b : Bool) (x : ℕ) (pieces : List (List ℕ)) → HasPiece pieces → HasPiece (cond b ([] ∷ pieces) (onto_first x pieces))
one_more true x pieces has = ([], pieces, refl)
one_more false x pieces has = (x ∷ has.0, has.1, ap (onto_first x) has.2)

pub has_piece : (p : ℕ → Bool) (xs : List ℕ) → HasPiece (slice_split p xs)
has_piece p [] = ([], [], refl)
has_piece p (x ∷ xs) = one_more (p x) x (slice_split p xs) (has_piece p xs)

pub retained : (line : List ℕ) (pieces : List (List ℕ)) → HasPiece pieces →
    without_empty_last (line ∷ pieces) ≡ line ∷ without_empty_last pieces
retained line pieces has =
    let P : List (List ℕ) → Type 0 = λ ps. without_empty_last (line ∷ ps) ≡ line ∷ without_empty_last ps in
    subst P (sym has.2) refl

pub line_at : (text : List ℕ) (at : ℕ) → Some at ≡ position (λ b. eqb b 10) text →
    lines_of text ≡ take at text ∷ lines_of (drop (at + 1) text)
line_at text at found =
    ap without_empty_last (split_at (λ b. eqb b 10) text at found)
    ∙ retained (take at text) (slice_split (λ b. eqb b 10) (drop (at + 1) text)) (has_piece (λ b. eqb b 10) (drop (at + 1) text))

pub line_whole : (text : List ℕ) → eqb (length text) 0 ≡ false → None ≡ position (λ b. eqb b 10) text → lines_of text ≡ text ∷ []
line_whole text some none = ap without_empty_last (split_whole (λ b. eqb b 10) text none) ∙ ap (λ b. cond b [] (text ∷ [])) some

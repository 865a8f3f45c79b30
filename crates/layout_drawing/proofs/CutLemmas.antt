-- The bytes of a struct, cut member by member.
use Rattle.std.proofs.Common.{◌≡◌, ◌∙◌, ◌↔◌, refl, sym, ap, subst, ℕ, suc, ◌+◌, ◌≤◌, List, [], ◌∷◌, ◌++◌, Some, None, take, drop, map}
use Rattle.std.proofs.Common.{arith, nat_lt, slice_get, is_some}
use Rattle.std.proofs.Math.Seq.{drop-cons}
use Rattle.std.proofs.lemmas.Bool.{cond_both, ltb-false}
use Rattle.std.proofs.lemmas.List.{map_push, take_more}
use Rattle.std.proofs.lemmas.List.Elements.{filter-append}
use Rattle.std.proofs.lemmas.Option.{get_or_from_slice_get, slice_get_within}
use Rattle.layout_drawing.specs.Pieces.{AreTiles, Fits, hole, member_pieces, piece_of}
use Rattle.layout_drawing.specs.declared.pieces.Piece.{Piece}
use Rattle.layout_drawing.specs.declared.pieces.Slot.{Slot}

tiles_append : (xs ys : List Piece) (from middle end : ℕ) → AreTiles middle from xs → AreTiles end middle ys → AreTiles end from (xs ++ ys)
tiles_append [] ys from middle end reached rest = subst (λ a. AreTiles end a ys) (sym reached) rest
tiles_append (x ∷ xs) ys from middle end tiles rest = (tiles.0, tiles.1, tiles_append xs ys x.end middle end tiles.2 rest)

hole_tiles : (start end : ℕ) → start ≤ end → AreTiles end start (hole start end)
hole_tiles start end le =
    cond_both (nat_lt start end) (record { slot = None; start = start; end = end } ∷ []) [] (AreTiles end start) (λ _. (refl, le, refl))
    (λ no. omega (arith, ltb-false start end no, le))

hole_has_none : (start end : ℕ) → member_pieces (hole start end) ≡ []
hole_has_none start end =
    cond_both (nat_lt start end) (record { slot = None; start = start; end = end } ∷ []) [] (λ pieces. member_pieces pieces ≡ [])
    (λ _. refl) (λ _. refl)

members_append : (xs ys : List Piece) → member_pieces (xs ++ ys) ≡ member_pieces xs ++ member_pieces ys
members_append xs ys = filter-append (λ (piece : Piece). is_some piece.slot) xs ys

-- the first members, up to a place, are cut
pub record IsCut (span : ℕ) (slots : List Slot) (index at : ℕ) (pieces : List Piece) : Type 0 where
  pub tiled : AreTiles at 0 pieces
  pub members : member_pieces pieces ≡ map piece_of (take index slots)
  pub within : at ≤ span
  pub same : Fits span 0 slots ↔ Fits span at (drop index slots)

module _ (span : ℕ) (slots : List Slot) (index at : ℕ) (pieces : List Piece) (cut : IsCut span slots index at pieces) where
  module _ (slot : Slot) (is : slice_get slots index ≡ Some slot) where
    next_is : drop index slots ≡ slot ∷ drop (index + 1) slots
    next_is =
        let more : suc index ≡ index + 1 = omega arith in
        drop-cons slots index slot (slice_get_within slots index slot is)
        ∙ ap (λ s. s ∷ drop (suc index) slots) (get_or_from_slice_get slots index slot slot is)
        ∙ ap (λ k. slot ∷ drop k slots) more

    taken_is : map piece_of (take (index + 1) slots) ≡ map piece_of (take index slots) ++ piece_of slot ∷ []
    taken_is =
        ap (map piece_of) (take_more slots index slot (slice_get_within slots index slot is)
        ∙ ap (λ s. take index slots ++ s ∷ []) (get_or_from_slice_get slots index slot slot is))
        ∙ map_push piece_of (take index slots) slot

    pub one_more : at ≤ slot.offset → slot.offset + slot.size ≤ span → (end : ℕ) → end ≡ slot.offset + slot.size → (new : List Piece) →
        new ≡ pieces ++ (hole at slot.offset ++ piece_of slot ∷ []) → IsCut span slots (index + 1) end new
    one_more after fits end is_end new is_new =
        let last = piece_of slot ∷ [] in
        let added = hole at slot.offset ++ last in
        let stop = slot.offset + slot.size in
        subst (λ e. IsCut span slots (index + 1) e new) (sym is_end) (subst (IsCut span slots (index + 1) stop) (sym is_new) (record {
          tiled = tiles_append pieces added 0 at stop cut.tiled (tiles_append (hole at slot.offset) last at slot.offset stop
              (hole_tiles at slot.offset after) (refl, omega arith, refl));
          members = members_append pieces added ∙ ap (λ v. v ++ member_pieces added) cut.members
              ∙ ap (λ v. map piece_of (take index slots) ++ v) (members_append (hole at slot.offset) last
              ∙ ap (λ v. v ++ last) (hole_has_none at slot.offset))
              ∙ sym taken_is;
          within = fits;
          same = (
            λ whole. (subst (Fits span at) next_is (cut.same.0 whole)).2,
            λ rest. cut.same.1 (subst (Fits span at) (sym next_is) (after, fits, rest)),
          );
        }))

  pub all_tiled : AreTiles span 0 (pieces ++ hole at span)
  all_tiled = tiles_append pieces (hole at span) 0 at span cut.tiled (hole_tiles at span cut.within)

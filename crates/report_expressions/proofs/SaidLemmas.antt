-- Lists of pieces and parts, one by one.
use Rattle.std.proofs.Common.{ℕ, ◌<◌, ◌++◌, List, [], ◌∷◌, Option, length, get_or, zero, suc, arith}
use Rattle.report_expressions.specs.Parts.{AreParts, IsPart}
use Rattle.report_expressions.specs.Pieces.{AreSaid, IsSaidBy}
use Rattle.report_expressions.specs.declared.line.Source.{Source}
use Rattle.report_expressions.specs.declared.parts.Part.{Part}
use Rattle.report_expressions.specs.declared.pieces.Piece.{Piece}

pub are_said_push : (source : Source) (pieces : List Piece) (piece : Piece) → AreSaid source pieces → IsSaidBy source piece.of piece.word →
    AreSaid source (pieces ++ piece ∷ [])
are_said_push source [] piece said by = (record { by = by }, tt)
are_said_push source (first ∷ pieces) piece said by = (said.0, are_said_push source pieces piece said.1 by)

pub are_parts_push : (source : Source) (of : Option ℕ) (parts : List Part) (part : Part) → AreParts source of parts →
    IsPart source of part → AreParts source of (parts ++ part ∷ [])
are_parts_push source of [] part all one = (one, tt)
are_parts_push source of (first ∷ parts) part all one = (all.0, are_parts_push source of parts part all.1 one)

pub is_part_at : (source : Source) (of : Option ℕ) (parts : List Part) (i : ℕ) (d : Part) → AreParts source of parts → i < length parts →
    IsPart source of (get_or parts i d)
is_part_at source of [] i d all short = absurd (omega arith)
is_part_at source of (first ∷ parts) zero d all short = all.0
is_part_at source of (first ∷ parts) (suc i) d all short = is_part_at source of parts i d all.1 (omega arith)

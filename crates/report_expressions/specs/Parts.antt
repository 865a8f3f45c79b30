-- The parts of the text of an expression or a line.
use Rattle.std.specs.Prelude.{ℕ, List, [], ◌∷◌, Option, Some, None, ⊤}
use Rattle.report_expressions.specs.Pieces.{IsSaidBy, Reaches}
use Rattle.report_expressions.specs.declared.line.Source.{Source}
use Rattle.report_expressions.specs.declared.parts.Part.{Part}
use Rattle.report_expressions.specs.declared.parts.Part.TheVariants as parts

-- a word that is said, or an operand
abbrev pub IsPart : Source → Option ℕ → Part → Type 0
IsPart source of (parts.Word word) = IsSaidBy source of word
IsPart source of (parts.Operand position role) = ⊤

abbrev pub AreParts : Source → Option ℕ → List Part → Type 0
AreParts source of [] = ⊤
AreParts source of (part ∷ rest) = IsPart source of part × AreParts source of rest

-- the line, or an expression that it reaches
abbrev pub IsSpeaker : Source → Option ℕ → Type 0
IsSpeaker source None = ⊤
IsSpeaker source (Some e) = Reaches source e

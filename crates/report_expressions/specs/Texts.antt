-- The texts of words and of lines.
use Rattle.std.specs.Prelude.{◌≡◌, ◌++◌, ◌≤◌, ◌⊎◌, ℕ, List, [], ◌∷◌, Option, Some, None, codes, length, string_bytes, take}
use Rattle.std.specs.Fmt.{decimal, signed_decimal}
use Rattle.std.specs.Str.{chars, encode_utf8_all}
use Rattle.report_names.specs.Items.{argument_text, constant_text, function_text, global_text, local_text, number_text, override_text}
use Rattle.report_names.specs.Literals.{IsText, literal_text}
use Rattle.report_names.specs.Scalars.{scalar_text, vector_text}
use Rattle.report_names.specs.Statements.{barrier_text, collective_text, memory_barrier_text}
use Rattle.report_names.specs.Types.{type_text}
use Rattle.report_names.specs.declared.items.ItemKind.TheVariants as kinds
use Rattle.shader_ir.specs.declared.statement.SwitchValue.{SwitchValue}
use Rattle.shader_ir.specs.declared.statement.SwitchValue.TheVariants as values
use Rattle.report_expressions.specs.Pieces.{AreSaid}
use Rattle.report_expressions.specs.declared.line.Source.{Source}
use Rattle.report_expressions.specs.declared.marked.MarkedText.{MarkedText}
use Rattle.report_expressions.specs.declared.pieces.Piece.{Piece}
use Rattle.report_expressions.specs.declared.pieces.Word.{Word}
use Rattle.report_expressions.specs.declared.pieces.Word.TheVariants as words

-- the value of a case
abbrev pub case_text : SwitchValue → Option (List ℕ)
case_text (values.I32 n) = Some (codes "case " ++ signed_decimal n)
case_text (values.U32 n) = Some (codes "case " ++ (decimal n ++ codes "u"))
case_text values.Default = Some (codes "default")

-- the text of a word that names an item; that of a member or of a named expression is left open
abbrev pub item_word_text : Source → Word → Option (List ℕ)
item_word_text source (words.Argument i) = Some (argument_text source.function.now i)
item_word_text source (words.Constant i) = Some (constant_text source.«module».now i)
item_word_text source (words.Override i) = Some (override_text source.«module».now i)
item_word_text source (words.Global i) = Some (global_text source.«module».now i)
item_word_text source (words.Local i) = Some (local_text source.function.now i)
item_word_text source (words.Function i) = Some (function_text source.«module».now i)
item_word_text source (words.«Type» i) = Some (type_text source.«module».now 4 i)
item_word_text source (words.Numbered e) = Some (number_text kinds.Expression e)
item_word_text source _ = None

-- the text of a word, where a clause says which
abbrev pub word_text : Source → Word → Option (List ℕ)
word_text source (words.Fixed text) = Some text.now
word_text source (words.Literal literal) = literal_text literal
word_text source (words.Index n) = Some (decimal n)
word_text source (words.Scalar scalar) = Some (scalar_text scalar)
word_text source (words.Vector size scalar) = Some (vector_text size scalar)
word_text source (words.Bitcast scalar) = Some (codes "bitcast<" ++ (scalar_text scalar ++ codes ">"))
word_text source (words.CooperativeLoad columns rows role by_rows) = None
word_text source (words.Collective op collective_op) = Some (collective_text op collective_op)
word_text source (words.Barrier barrier) = Some (barrier_text barrier)
word_text source (words.MemoryBarrier barrier) = Some (memory_barrier_text barrier)
word_text source (words.Case value) = case_text value
word_text source word = item_word_text source word

-- the text is that of the pieces, one after another
abbrev pub AreTexts : Source → List Piece → List ℕ → Type 0
AreTexts source [] text = text ≡ []
AreTexts source (piece ∷ pieces) text =
    (first : List ℕ) × (rest : List ℕ) × (text ≡ first ++ rest) × IsText (word_text source piece.word) first × AreTexts source pieces rest

-- the text is made of words that the line, or an expression that it reaches, says
pub record IsTextOf (source : Source) (text : List ℕ) : Type 0 where
  pub pieces : List Piece
  pub said : AreSaid source pieces
  pub texts : AreTexts source pieces text

-- the text, or its first characters and three dots
abbrev pub IsShownAs : List ℕ → List ℕ → Type 0
IsShownAs text shown = (shown ≡ text) ⊎ ((count : ℕ) × (shown ≡ encode_utf8_all (take count (chars text)) ++ codes "..."))

pub record IsLine (source : Source) (shown : List ℕ) : Type 0 where
  pub text : List ℕ
  pub of : IsTextOf source text
  pub as' : IsShownAs text shown

-- the marked columns are columns of the text
pub record IsMark (marked : MarkedText) : Type 0 where
  pub order : marked.begin ≤ marked.end
  pub inside : marked.end ≤ length (chars (string_bytes marked.text))

-- Blocks of text.
use Rattle.std.specs.Prelude.{◌≡◌, ℕ, Bool, true, false, ◌&&◌, not, List, [], ◌∷◌, ◌++◌, Option, Some, None, codes, slice_get}
use Rattle.std.specs.Fmt.{decimal}
use Rattle.shader_ir.specs.declared.module.Module.{Module}
use Rattle.report_places.specs.Words.{place_text}
use Rattle.report_places.specs.declared.body_place.BodyPlace.{BodyPlace}
use Rattle.report_places.specs.declared.body_place.BodyPlace.TheVariants as body
use Rattle.report_diagnostics.specs.Codes.{code_text}
use Rattle.report_diagnostics.specs.Diagnostics.{severity_text}
use Rattle.report_diagnostics.specs.declared.codes.Code.{Code}
use Rattle.report_diagnostics.specs.declared.codes.Code.TheVariants as code
use Rattle.report_diagnostics.specs.declared.diagnostic.Diagnostic.{Diagnostic}
use Rattle.report_diagnostics.specs.declared.location.Location.{Location}
use Rattle.report_blocks.specs.Causes.{is_repeated}

-- the first line of a block: severity, code and message
abbrev pub head_line : Diagnostic → List ℕ
head_line diagnostic =
    severity_text diagnostic.severity ++ (codes "[" ++ (code_text diagnostic.code
    ++ (codes "]: " ++ (diagnostic.message ++ codes "\n"))))

-- an empty line, the head, and the parts
abbrev pub block_text : Diagnostic → (place advice explanation : List ℕ) → List ℕ
block_text diagnostic place advice explanation = codes "\n" ++ (head_line diagnostic ++ (place ++ (advice ++ explanation)))

-- a global expression has no lines
abbrev printed_place : Option BodyPlace → Option BodyPlace
printed_place (Some (body.ConstExpression i)) = None
printed_place place = place

-- what is wrong with an input, a module or a type is shown in the JSON, all else in a function
abbrev pub shown_place : Code → Option BodyPlace → Option BodyPlace
shown_place (code.Input c) place = None
shown_place (code.«Module» c) place = None
shown_place (code.Layout c) place = None
shown_place c place = printed_place place

-- a line and a column, if they are known
abbrev pub position_text : (line column : Option ℕ) → List ℕ
position_text (Some line) (Some column) = codes "line " ++ (decimal line ++ (codes ", column " ++ decimal column))
position_text line column = []

-- a place in the JSON: line and column, and then the path and the item that has it, of which no clause speaks
pub record AreJsonWords (location : Location) (words : List ℕ) : Type 0 where
  pub path : List ℕ
  pub are : words ≡ position_text location.line location.column ++ path

-- a line with a place in the JSON, and an excerpt, of which no clause speaks
pub record IsJsonText (diagnostic : Diagnostic) (text : List ℕ) : Type 0 where
  pub words : List ℕ
  pub are_words : AreJsonWords diagnostic.location words
  pub excerpts : List ℕ
  pub is : text ≡ codes "  --> " ++ (words ++ (codes "\n" ++ excerpts))

-- a line with a place in a function, as `place_text` words it, and excerpts, of which no clause speaks
pub record IsBodyText (m : Module) (place : BodyPlace) (diagnostic : Diagnostic) (text : List ℕ) : Type 0 where
  pub excerpts : List ℕ
  pub is : text ≡ codes "  --> " ++ (place_text m place diagnostic.location.statement ++ (codes "\n" ++ excerpts))

abbrev IsTextAt : Module → Option BodyPlace → Diagnostic → List ℕ → Type 0
IsTextAt m (Some place) diagnostic text = IsBodyText m place diagnostic text
IsTextAt m None diagnostic text = IsJsonText diagnostic text

-- the line with the place, and excerpts
abbrev pub IsLocatedText : Module → Diagnostic → List ℕ → Type 0
IsLocatedText m diagnostic text = IsTextAt m (shown_place diagnostic.code diagnostic.location.body) diagnostic text

-- the sentence of the code behind it, of which no clause speaks
pub record HasSentence (diagnostic : Diagnostic) (text : List ℕ) : Type 0 where
  pub sentence : List ℕ
  pub is : text ≡ codes "   = " ++ (code_text diagnostic.code ++ (codes ": " ++ (sentence ++ codes "\n")))

abbrev pub IsExplanation : Bool → Diagnostic → List ℕ → Type 0
IsExplanation true diagnostic text = HasSentence diagnostic text
IsExplanation false diagnostic text = text ≡ []

-- an empty line, the head, the place, advice, of which no clause speaks, and the sentence of the code if it is explained
pub record IsBlock (m : Module) (is_explained : Bool) (diagnostic : Diagnostic) (text : List ℕ) : Type 0 where
  pub place : List ℕ
  pub place_is : IsLocatedText m diagnostic place
  pub advice : List ℕ
  pub explanation : List ℕ
  pub explanation_is : IsExplanation is_explained diagnostic explanation
  pub is : text ≡ block_text diagnostic place advice explanation

-- the block of an input that is no module: the place is in the JSON
pub record IsInputBlock (is_explained : Bool) (diagnostic : Diagnostic) (text : List ℕ) : Type 0 where
  pub place : List ℕ
  pub place_is : IsJsonText diagnostic place
  pub advice : List ℕ
  pub explanation : List ℕ
  pub explanation_is : IsExplanation is_explained diagnostic explanation
  pub is : text ≡ block_text diagnostic place advice explanation

abbrev IsBlockOf : Module → Bool → Option Diagnostic → List ℕ → Type 0
IsBlockOf m is_explained (Some diagnostic) text = IsBlock m is_explained diagnostic text
IsBlockOf m is_explained None text = text ≡ []

-- the block of the diagnostic at an index, which is explained unless it repeats the causes of the one before it
abbrev pub IsBlockAt : Module → (explains : Bool) → List Diagnostic → ℕ → List ℕ → Type 0
IsBlockAt m explains diagnostics index text =
    IsBlockOf m (explains && not (is_repeated diagnostics index)) (slice_get diagnostics index) text

-- a block for each of the diagnostics at these indexes, in this order
abbrev pub AreBlocks : Module → (explains : Bool) → List Diagnostic → (indexes : List ℕ) → List ℕ → Type 0
AreBlocks m explains diagnostics [] text = text ≡ []
AreBlocks m explains diagnostics (index ∷ rest) text =
    (block blocks : List ℕ) × IsBlockAt m explains diagnostics index block × AreBlocks m explains diagnostics rest blocks
    × (text ≡ block ++ blocks)

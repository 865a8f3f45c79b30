-- Places of diagnostics of modules in the JSON text.
use Rattle.std.specs.Prelude.{◌≡◌, ◌⊎◌, ℕ, ⊤, Bool, true, false, List, [], ◌∷◌, ◌++◌, Some}
use Rattle.report_diagnostics.specs.declared.codes.Code.{Code}
use Rattle.report_diagnostics.specs.declared.codes.Code.TheVariants as code
use Rattle.report_diagnostics.specs.declared.diagnostic.Diagnostic.{Diagnostic}
use Rattle.report_diagnostics.specs.declared.location.Location.{Location}
use Rattle.report_input.specs.Places.{place_in}
use Rattle.report_input.specs.Spans.{IsSpanOf}
use Rattle.report_input.specs.Steps.{path_text, pointer_text, steps_in_path}
use Rattle.report_input.specs.declared.module_places.Spanned.{Spanned}
use Rattle.report_input.specs.declared.places.Place.{Place}
use Rattle.report_input.specs.declared.spans.Span.{Span}
use Rattle.report_input.specs.declared.steps.Step.{Step}

-- modules that aren't well formed, and types without a layout
abbrev pub code_is_of_json : Code → Bool
code_is_of_json (code.«Module» c) = true
code_is_of_json (code.Layout c) = true
code_is_of_json c = false

-- the steps lead to the item that a diagnostic is about
abbrev pub IsWayToItem : Diagnostic → List Step → Type 0
IsWayToItem diagnostic steps = diagnostic.location.pointer ≡ Some (pointer_text steps)

-- the steps lead to that item, and from it to the field that is at fault
pub record IsWayToField (diagnostic : Diagnostic) (steps : List Step) : Type 0 where
  pub item : List Step
  pub within : List Step
  pub to_item : IsWayToItem diagnostic item
  pub to_field : diagnostic.field ≡ Some (steps_in_path within)
  pub all : steps ≡ item ++ within

-- the steps lead to the field that is at fault, or to the item that has it
abbrev pub IsWay : Diagnostic → List Step → Type 0
IsWay diagnostic steps = IsWayToField diagnostic steps ⊎ IsWayToItem diagnostic steps

-- path, pointer and bytes are those of the value to which the steps lead
pub record IsValue (text : List ℕ) (steps : List Step) (path pointer : List ℕ) (span : Span) : Type 0 where
  pub path_is : path ≡ path_text steps
  pub pointer_is : pointer ≡ pointer_text steps
  pub spans : IsSpanOf text steps span

abbrev pub IsSpanned : List ℕ → Spanned → Type 0
IsSpanned text found = IsValue text found.steps.items found.path found.pointer found.span

abbrev line_of : Place → ℕ
line_of place = place.line

abbrev column_of : Place → ℕ
column_of place = place.column

-- the same place in the module, with that of a byte in the JSON
pub record IsMoved (text : List ℕ) (before : Location) (path pointer : List ℕ) (byte : ℕ) (after : Location) : Type 0 where
  pub body : after.body ≡ before.body
  pub name : after.name ≡ before.name
  pub statement : after.statement ≡ before.statement
  pub expression : after.expression ≡ before.expression
  pub argument : after.argument ≡ before.argument
  pub ty : after.ty ≡ before.ty
  pub path_is : after.path ≡ Some path
  pub pointer_is : after.pointer ≡ Some pointer
  pub input_pointer : after.input_pointer ≡ before.input_pointer
  pub line : after.line ≡ Some (line_of (place_in text byte))
  pub column : after.column ≡ Some (column_of (place_in text byte))
  pub byte_is : after.byte ≡ Some byte

-- the same diagnostic
pub record IsSame (before after : Diagnostic) : Type 0 where
  pub code : after.code ≡ before.code
  pub severity : after.severity ≡ before.severity
  pub message : after.message ≡ before.message
  pub text : after.text ≡ before.text
  pub label : after.label ≡ before.label
  pub field : after.field ≡ before.field
  pub facts : after.«data».list.items ≡ before.«data».list.items
  pub related : after.related.items ≡ before.related.items
  pub omitted : after.omitted ≡ before.omitted
  pub notes : after.notes.items ≡ before.notes.items
  pub help : after.help.items ≡ before.help.items

-- the same diagnostic at the value of the JSON that is at fault
pub record IsLocatedAs (text : List ℕ) (before after : Diagnostic) : Type 0 where
  pub same : IsSame before after
  pub steps : List Step
  pub way : IsWay before steps
  pub path : List ℕ
  pub pointer : List ℕ
  pub span : Span
  pub value : IsValue text steps path pointer span
  pub location : IsMoved text before.location path pointer span.begin after.location
  pub end : after.end ≡ Some span.end

-- where the fault shows in the JSON, and is found there; another diagnostic stays as it is
abbrev IsLocatedIf : Bool → List ℕ → Diagnostic → Diagnostic → Type 0
IsLocatedIf true text before after = (after ≡ before) ⊎ IsLocatedAs text before after
IsLocatedIf false text before after = after ≡ before

abbrev pub IsLocated : List ℕ → Diagnostic → Diagnostic → Type 0
IsLocated text before after = IsLocatedIf (code_is_of_json before.code) text before after

-- each of them
abbrev pub AreLocated : List ℕ → List Diagnostic → List Diagnostic → Type 0
AreLocated text [] [] = ⊤
AreLocated text (before ∷ rest) (after ∷ others) = IsLocated text before after × AreLocated text rest others
AreLocated text _ _ = ⊥

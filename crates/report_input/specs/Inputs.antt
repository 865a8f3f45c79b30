-- The diagnostic of an input that is no module.
use Rattle.std.specs.Prelude.{◌≡◌, ℕ, List, Option, Some, None, option_map, string_bytes}
use Rattle.report_diagnostics.specs.declared.codes.Code.TheVariants.{Input}
use Rattle.report_diagnostics.specs.declared.diagnostic.Diagnostic.{Diagnostic}
use Rattle.report_diagnostics.specs.declared.diagnostic.Severity.TheVariants.{Error}
use Rattle.report_diagnostics.specs.declared.location.Location.{Location}
use Rattle.report_diagnostics.specs.declared.module_codes.InputCode.{InputCode}
use Rattle.shader_json_reader.specs.Errors.{most_text_bytes}
use Rattle.shader_json_reader.specs.declared.error.ReadError.{ReadError}
use Rattle.shader_json_reader.specs.declared.error.ReadError.TheVariants.{OutOfMemory, TooLong, NotJson, TooDeep, NotModule}
use Rattle.report_diagnostics.specs.declared.module_codes.InputCode.TheVariants.{RepeatedField}
use Rattle.report_input.specs.Codes.{HasCode}
use Rattle.report_input.specs.Finds.{IsLookedUp}
use Rattle.report_input.specs.Places.{place_in}
use Rattle.report_input.specs.declared.finds.Part.{Part}
use Rattle.report_input.specs.declared.finds.Part.TheVariants.{SecondKey, Value}
use Rattle.report_input.specs.declared.places.Place.{Place}

-- the path that an error tells
abbrev pub path_of : ReadError → Option (List ℕ)
path_of OutOfMemory = None
path_of TooLong = None
path_of (NotJson byte) = None
path_of (TooDeep byte) = None
path_of (NotModule path wanted found) = Some (string_bytes path)

-- the value at a path, or the second key of a member that stands twice
abbrev pub part_of : InputCode → Part
part_of RepeatedField = SecondKey
part_of _ = Value

-- the byte that an error tells, or the bytes of the value at its path with the pointer to it
abbrev pub IsByteOf : InputCode → List ℕ → ReadError → (pointer : Option (List ℕ)) → (begin end : Option ℕ) → Type 0
IsByteOf kind input OutOfMemory pointer begin end = ⊥
IsByteOf kind input TooLong pointer begin end = begin ≡ Some most_text_bytes
IsByteOf kind input (NotJson byte) pointer begin end = begin ≡ Some byte
IsByteOf kind input (TooDeep byte) pointer begin end = begin ≡ Some byte
IsByteOf kind input (NotModule path wanted value) pointer begin end =
    IsLookedUp (part_of kind) input (string_bytes path) pointer begin end

-- the text position of a byte. Of an input that is too long, not all may be at hand
abbrev pub place_of : List ℕ → ReadError → Option ℕ → Option Place
place_of input OutOfMemory byte = option_map (place_in input) byte
place_of input TooLong byte = None
place_of input (NotJson at) byte = option_map (place_in input) byte
place_of input (TooDeep at) byte = option_map (place_in input) byte
place_of input (NotModule path wanted value) byte = option_map (place_in input) byte

-- line and column are those of the byte
pub record IsPlacedAt (input : List ℕ) (error : ReadError) (path pointer : Option (List ℕ)) (byte : Option ℕ) (location : Location)
    : Type 0 where
  pub path_is : location.path ≡ path
  pub pointer_is : location.input_pointer ≡ pointer
  pub byte_is : location.byte ≡ byte
  pub line : location.line ≡ option_map (λ place. place.line) (place_of input error byte)
  pub column : location.column ≡ option_map (λ place. place.column) (place_of input error byte)

-- an error of the input: its code is by what is wrong, and its place is that of the error
pub record IsOfError (input : List ℕ) (error : ReadError) (diagnostic : Diagnostic) : Type 0 where
  pub kind : InputCode
  pub has : HasCode input error kind
  pub code : diagnostic.code ≡ Input kind
  pub severity : diagnostic.severity ≡ Error
  pub pointer : Option (List ℕ)
  pub byte : Option ℕ
  pub found : IsByteOf kind input error pointer byte diagnostic.end
  pub placed : IsPlacedAt input error (path_of error) pointer byte diagnostic.location

-- The codes of inputs that are no module.
use Rattle.std.specs.Prelude.{◌≡◌, ◌↔◌, string_bytes, ◌||◌, ◌&&◌, ℕ, Bool, true, false, List, codes, eqb, if◌then◌else◌}
use Rattle.std.specs.List.{list_any, starts_with}
use Rattle.std.specs.Cmp.Lexicographic.{pointwise}
use Rattle.std.specs.Str.{IsValidUpTo}
use Rattle.shader_json_reader.specs.declared.error.ReadError.{ReadError}
use Rattle.shader_json_reader.specs.declared.error.ReadError.TheVariants as error
use Rattle.shader_json_reader.specs.declared.error.Wanted.{Wanted}
use Rattle.shader_json_reader.specs.declared.error.Wanted.TheVariants.{Value, Integer, Field}
use Rattle.report_input.specs.Forms.{form_in}
use Rattle.report_input.specs.declared.forms.Form.{Form}
use Rattle.report_input.specs.declared.forms.Form.TheVariants.{Blank, ByteOrderMark, Utf16, SpirV, Glsl, Wgsl, Ron, Comment, CutOff, Other}
use Rattle.report_diagnostics.specs.declared.module_codes.InputCode.{InputCode}
use Rattle.report_diagnostics.specs.declared.module_codes.InputCode.TheVariants as code

-- two texts are equal
abbrev is : List ℕ → List ℕ → Bool
is text other = pointwise eqb text other

-- names stand in backquotes
abbrev pub tells_names : List ℕ → Bool
tells_names wanted = list_any (eqb 96) wanted

-- a string, or an object with one field, which names a variant
abbrev pub is_name : List ℕ → Bool
is_name found = starts_with eqb found (codes "\"") || starts_with eqb found (codes "an object with the one field ")

-- the stages of ray tracing pipelines, which naga has and the specification's IR has not
abbrev pub is_of_later_stage : List ℕ → Bool
is_of_later_stage found =
    is found (codes "\"RayGeneration\"") || is found (codes "\"Miss\"")
    || is found (codes "\"AnyHit\"") || is found (codes "\"ClosestHit\"")

abbrev pub stands_twice : List ℕ → Bool
stands_twice wanted = is wanted (codes "a field that stands once") || is wanted (codes "a key that stands once")

-- by what is wanted of the value, and by what it is
abbrev pub code_of_words : (wanted found : List ℕ) → InputCode
code_of_words wanted found =
    if stands_twice wanted then code.RepeatedField
    else (if is wanted (codes "a type that stands once") then code.RepeatedType
    else (if is wanted (codes "blocks that nest less deeply") then code.NestsTooDeep
    else (if is wanted (codes "a handle: an atomic operation without a result can't be held") then code.Unsupported
    else (if starts_with eqb wanted (codes "`Vertex`") && is_of_later_stage found then code.Unsupported
    else (if tells_names wanted && is_name found then code.UnknownName
    else code.WrongValue)))))

abbrev code_if : Bool → InputCode
code_if true = code.InvalidJson
code_if false = code.NotUtf8

-- by the format that a text seems to have which isn't JSON, and by whether the byte is UTF-8 at which that shows
abbrev pub code_of_form : Form → Bool → InputCode
code_of_form Blank is_utf8 = code.EmptyInput
code_of_form Utf16 is_utf8 = code.NotUtf8
code_of_form SpirV is_utf8 = code.NotAModule
code_of_form Glsl is_utf8 = code.NotAModule
code_of_form Wgsl is_utf8 = code.NotAModule
code_of_form Ron is_utf8 = code.NotAModule
code_of_form ByteOrderMark is_utf8 = code_if is_utf8
code_of_form Comment is_utf8 = code_if is_utf8
code_of_form CutOff is_utf8 = code_if is_utf8
code_of_form Other is_utf8 = code_if is_utf8

-- a missing field, a number out of range or of another kind, or another value
abbrev pub code_of_wanted : Wanted → (found : List ℕ) → InputCode
code_of_wanted (Field name) found = code.MissingField
code_of_wanted (Integer least most) found = code.WrongValue
code_of_wanted (Value words) found = code_of_words words.now found

-- the code of a text that isn't JSON from this byte on, which may be the first that isn't UTF-8
pub record HasFormCode (input : List ℕ) (byte : ℕ) (code : InputCode) : Type 0 where
  pub is_utf8 : Bool
  pub decides : (is_utf8 ≡ false) ↔ IsValidUpTo input byte
  pub is : code ≡ code_of_form (form_in input byte) is_utf8

-- the code of an error of the input
abbrev pub HasCode : List ℕ → ReadError → InputCode → Type 0
HasCode input error.OutOfMemory found = ⊥
HasCode input error.TooLong found = found ≡ code.TooLong
HasCode input (error.TooDeep byte) found = found ≡ code.NestsTooDeep
HasCode input (error.NotJson byte) found = HasFormCode input byte found
HasCode input (error.NotModule path wanted value) found = found ≡ code_of_wanted wanted (string_bytes value)

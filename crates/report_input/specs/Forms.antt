-- What a text that is no JSON seems to be.
use Rattle.std.specs.Prelude.{◌||◌, ℕ, Bool, true, false, List, [], ◌∷◌, codes, drop, eqb, length, min, if◌then◌else◌}
use Rattle.std.specs.Char.{is_ascii_whitespace}
use Rattle.std.specs.List.{prefix_len, starts_with}
use Rattle.report_input.specs.declared.forms.Form.{Form}
use Rattle.report_input.specs.declared.forms.Form.TheVariants.{Blank, ByteOrderMark, Utf16, SpirV, Glsl, Wgsl}
use Rattle.report_input.specs.declared.forms.Form.TheVariants.{Ron, Comment, CutOff, Other}

-- a byte order mark, or the bracket of an object, in either order
abbrev pub is_utf16 : List ℕ → Bool
is_utf16 text = starts_with eqb text (255 ∷ 254 ∷ []) || starts_with eqb text (254 ∷ 255 ∷ [])
    || starts_with eqb text (123 ∷ 0 ∷ []) || starts_with eqb text (0 ∷ 123 ∷ [])

-- the magic number, in either order
abbrev pub is_spirv : List ℕ → Bool
is_spirv text = starts_with eqb text (3 ∷ 2 ∷ 35 ∷ 7 ∷ []) || starts_with eqb text (7 ∷ 35 ∷ 2 ∷ 3 ∷ [])

abbrev pub is_declaration : List ℕ → Bool
is_declaration text = starts_with eqb text (codes "@") || starts_with eqb text (codes "fn ")
    || starts_with eqb text (codes "struct ") || starts_with eqb text (codes "var")
    || starts_with eqb text (codes "const") || starts_with eqb text (codes "let ")

-- the first word of a module of WGSL
abbrev pub is_wgsl : List ℕ → Bool
is_wgsl text = is_declaration text || starts_with eqb text (codes "override ") || starts_with eqb text (codes "alias ")
    || starts_with eqb text (codes "enable ") || starts_with eqb text (codes "requires ")
    || starts_with eqb text (codes "diagnostic")

-- what a text is by its start, or else the other form
abbrev pub form_by_start : List ℕ → Form → Form
form_by_start text other =
    if starts_with eqb text (239 ∷ 187 ∷ 191 ∷ []) then ByteOrderMark
    else (if is_utf16 text then Utf16
    else (if is_spirv text then SpirV
    else (if starts_with eqb text (codes "#version") then Glsl
    else (if is_wgsl text then Wgsl
    else (if starts_with eqb text (codes "(") then Ron
    else other)))))

abbrev form_if : Bool → Form
form_if true = Comment
form_if false = Other

-- what goes on otherwise than JSON, by how it begins
abbrev pub form_of_rest : List ℕ → Form
form_of_rest rest = form_if (starts_with eqb rest (codes "//") || starts_with eqb rest (codes "/*"))

-- a text that ends where JSON goes on is cut off; another one is what it is by its start, or else by what goes on
abbrev pub form_of_some : (start rest : List ℕ) → Form
form_of_some start [] = CutOff
form_of_some start (byte ∷ rest) = form_by_start start (form_of_rest (byte ∷ rest))

-- by the start behind white space, and what goes on otherwise than JSON
abbrev pub form_of : (start rest : List ℕ) → Form
form_of [] rest = Blank
form_of (byte ∷ start) rest = form_of_some (byte ∷ start) rest

-- the text from the byte of this index on
abbrev pub rest_of : List ℕ → ℕ → List ℕ
rest_of text byte = drop (min byte (length text)) text

-- what a text seems to be that is no JSON from the byte of this index on
abbrev pub form_in : List ℕ → ℕ → Form
form_in text byte = form_of (drop (prefix_len is_ascii_whitespace text) text) (rest_of text byte)

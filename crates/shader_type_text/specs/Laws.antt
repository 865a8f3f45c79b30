-- Laws on the spellings of types, names and numbers.
use Rattle.std.specs.Prelude.{◌≡◌, ◌<◌, ◌^◌, ℕ, List, Some}
use Rattle.std.specs.Fmt.{decimal}
use Rattle.shader_ir.specs.declared.operators.MathFunction.{MathFunction}
use Rattle.shader_type_text.specs.declared.types.SpelledType.{SpelledType}
use Rattle.shader_type_text.specs.Builtins.{builtin_of, builtin_text}
use Rattle.shader_type_text.specs.Numbers.{number_of_word}
use Rattle.shader_type_text.specs.Types.{type_text, type_of, IsWritable}

-- a word spells a type exactly if it is the type's text
abbrev pub TypesAreSpelled : Type 0
TypesAreSpelled = (word : List ℕ) (t : SpelledType)
    → (type_of word ≡ Some t → (word ≡ type_text t) × IsWritable t)
    × (word ≡ type_text t → IsWritable t → type_of word ≡ Some t)

-- no text spells two types
abbrev pub TypesAreDistinct : Type 0
TypesAreDistinct = (t u : SpelledType) → IsWritable t → IsWritable u → type_text t ≡ type_text u → t ≡ u

-- a word names a built-in function exactly if it is the function's name
abbrev pub BuiltinsAreNamed : Type 0
BuiltinsAreNamed = (word : List ℕ) (function : MathFunction)
    → (builtin_of word ≡ Some function → word ≡ builtin_text function)
    × (word ≡ builtin_text function → builtin_of word ≡ Some function)

-- a word is a number of 32 bits exactly if it is the number's decimal
abbrev pub NumbersAreDecimals : Type 0
NumbersAreDecimals = (word : List ℕ) (n : ℕ)
    → (number_of_word word ≡ Some n → (word ≡ decimal n) × (n < 2 ^ 32))
    × (word ≡ decimal n → n < 2 ^ 32 → number_of_word word ≡ Some n)

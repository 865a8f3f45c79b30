-- Requests in lines, and their texts.
use Rattle.std.specs.Prelude.{◌==◌, ◌<◌, ℕ, List, [], ◌∷◌, length, map, codes, Option, Some, None, find}
use Rattle.std.specs.Option.{option_map, option_and_then}
use Rattle.std.specs.List.{slice_split, join_with_byte}
use Rattle.std.specs.Str.{bytes_eq}
use Rattle.shader_ir.specs.declared.operators.MathFunction.{MathFunction}
use Rattle.typer_answers.specs.declared.request.Kind.{Kind}
use Rattle.typer_answers.specs.declared.request.Kind.TheVariants as kinds
use Rattle.typer_answers.specs.declared.request.Request.{Request}
use Rattle.typer_answers.specs.declared.request.Request.TheVariants.{Call, Rules, Layout, Convert, Module}
use Rattle.shader_samples.specs.Names.{sample_text, sample_named}
use Rattle.shader_type_text.specs.declared.types.SpelledType.{SpelledType}
use Rattle.shader_type_text.specs.Builtins.{builtin_of, builtin_text}
use Rattle.shader_type_text.specs.Types.{type_text, type_of, IsWritable}

-- ---- texts of requests

abbrev pub request_kind_text : Kind → List ℕ
request_kind_text kinds.Call = codes "call"
request_kind_text kinds.Rules = codes "rules"
request_kind_text kinds.Layout = codes "layout"
request_kind_text kinds.Convert = codes "convert"
request_kind_text kinds.Module = codes "module"

abbrev pub request_words : Request → List (List ℕ)
request_words (Call function arguments) = request_kind_text kinds.Call ∷ builtin_text function ∷ map type_text arguments
request_words (Rules function arguments) = request_kind_text kinds.Rules ∷ builtin_text function ∷ map type_text arguments
request_words (Layout t) = request_kind_text kinds.Layout ∷ type_text t ∷ []
request_words (Convert from to) = request_kind_text kinds.Convert ∷ type_text from ∷ type_text to ∷ []
request_words (Module sample) = request_kind_text kinds.Module ∷ sample_text sample ∷ []

-- the words, separated by single spaces
abbrev pub request_text : Request → List ℕ
request_text request = join_with_byte 32 (request_words request)

abbrev pub AreWritableTypes : List SpelledType → Type 0
AreWritableTypes [] = Unit {0}
AreWritableTypes (t ∷ types) = IsWritable t × AreWritableTypes types

-- a request whose types can be written; a call has an argument
abbrev pub IsWritableRequest : Request → Type 0
IsWritableRequest (Call function arguments) = AreWritableTypes arguments × (0 < length arguments)
IsWritableRequest (Rules function arguments) = AreWritableTypes arguments
IsWritableRequest (Layout t) = IsWritable t
IsWritableRequest (Convert from to) = IsWritable from × IsWritable to
IsWritableRequest (Module sample) = Unit {0}

-- ---- the request of a line

abbrev pub all_kinds : List Kind
all_kinds = kinds.Call ∷ kinds.Rules ∷ kinds.Layout ∷ kinds.Convert ∷ kinds.Module ∷ []

abbrev pub request_kind : List ℕ → Option Kind
request_kind word = find (λ kind. bytes_eq (request_kind_text kind) word) all_kinds

abbrev pub layout_from : List (List ℕ) → Option Request
layout_from (word ∷ []) = option_map Layout (type_of word)
layout_from _ = None

abbrev pub convert_from : List (List ℕ) → Option Request
convert_from (from ∷ to ∷ []) = option_and_then (λ t. option_map (Convert t) (type_of to)) (type_of from)
convert_from _ = None

abbrev pub module_from : List (List ℕ) → Option Request
module_from (name ∷ []) = option_map Module (sample_named name)
module_from _ = None

-- the types that the words spell, if each spells one
abbrev pub types_of : List (List ℕ) → Option (List SpelledType)
types_of [] = Some []
types_of (word ∷ words) = option_and_then (λ t. option_map (λ types. t ∷ types) (types_of words)) (type_of word)

-- the built-in function that the first word names, and the types that the others spell
abbrev pub named_from : List (List ℕ) → Option (MathFunction × List SpelledType)
named_from [] = None
named_from (name ∷ words) = option_and_then (λ function. option_map (λ types. (function, types)) (types_of words)) (builtin_of name)

-- a call has an argument
abbrev pub call_with : MathFunction → List SpelledType → Option Request
call_with function [] = None
call_with function (t ∷ types) = Some (Call function (t ∷ types))

abbrev pub call_from : List (List ℕ) → Option Request
call_from words = option_and_then (λ (named : MathFunction × List SpelledType). call_with named.0 named.1) (named_from words)

abbrev pub rules_from : List (List ℕ) → Option Request
rules_from words = option_map (λ (named : MathFunction × List SpelledType). Rules named.0 named.1) (named_from words)

-- the request of the words after the one that names the kind
abbrev pub request_with : Kind → List (List ℕ) → Option Request
request_with kinds.Call words = call_from words
request_with kinds.Rules words = rules_from words
request_with kinds.Layout words = layout_from words
request_with kinds.Convert words = convert_from words
request_with kinds.Module words = module_from words

abbrev pub request_from : List (List ℕ) → Option Request
request_from [] = None
request_from (kind ∷ words) = option_and_then (λ k. request_with k words) (request_kind kind)

-- the request of a line, if any
abbrev pub request_of : List ℕ → Option Request
request_of line = request_from (slice_split (λ b. b == 32) line)

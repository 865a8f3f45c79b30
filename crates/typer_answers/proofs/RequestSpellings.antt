-- Lines and the requests that they make, in both directions.
use Rattle.std.proofs.Common.{◌≡◌, ℕ, map, arith, false, Some, List, [], ◌∷◌, refl, sym, subst, ap, ◌∙◌}
use Rattle.std.specs.List.{slice_split, list_any, join_with_byte}
use Rattle.std.specs.Option.{option_map}
use Rattle.std.proofs.lemmas.Option.{option_and_then_some, same_Some}
use Rattle.std.proofs.lemmas.List.Splits.{join_with_byte-slice_split}
use Rattle.shader_ir.specs.declared.operators.MathFunction.{MathFunction}
use Rattle.typer_answers.specs.declared.request.Kind.{Kind}
use Rattle.typer_answers.specs.declared.request.Kind.TheVariants as kinds
use Rattle.typer_answers.specs.declared.request.Request.{Request}
use Rattle.typer_answers.specs.declared.request.Request.TheVariants.{Call, Rules, Layout, Convert, Module}
use Rattle.shader_samples.specs.Names.{sample_text, sample_named, all_samples}
use Rattle.shader_samples.specs.declared.sample.Sample.{Sample}
use Rattle.shader_samples.specs.declared.sample.Sample.TheVariants as s
use Rattle.shader_samples.proofs.NameFacts.{named_back}
use Rattle.shader_type_text.specs.declared.types.SpelledType.{SpelledType}
use Rattle.shader_type_text.specs.Builtins.{builtin_of, builtin_text}
use Rattle.typer_answers.specs.Laws.{RequestsAreSpelled}
use Rattle.typer_answers.specs.Requests.{AreWritableTypes, IsWritableRequest, all_kinds, call_from, call_with, convert_from}
use Rattle.typer_answers.specs.Requests.{request_kind, request_kind_text, layout_from, module_from, named_from, request_from, request_of}
use Rattle.typer_answers.specs.Requests.{request_text, request_with, request_words, rules_from, types_of}
use Rattle.shader_type_text.specs.Types.{type_of, type_text}
use Rattle.shader_type_text.proofs.BuiltinFacts.{builtin_facts, name_is}
use Rattle.shader_type_text.proofs.LookupLemmas.{found_is, mapped}
use Rattle.shader_type_text.proofs.Separators.{AreSolid, is_break, is_end, is_space, no_end, no_space, quiet_append, split_joined}
use Rattle.shader_type_text.proofs.TypeSpellings.{type_is, type_named, type_quiet}

-- ---- words without spaces and ends of lines

-- no word contains a space or an end of line
abbrev AreUnbroken : List (List ℕ) → Type 0
AreUnbroken [] = Unit {0}
AreUnbroken (word ∷ words) = (list_any is_break word ≡ false) × AreUnbroken words

unbroken_solid : (words : List (List ℕ)) → AreUnbroken words → AreSolid 32 words
unbroken_solid [] unbroken = tt
unbroken_solid (word ∷ words) unbroken = (no_space word unbroken.0, unbroken_solid words unbroken.1)

unbroken_line : (words : List (List ℕ)) → AreUnbroken words → list_any is_end (join_with_byte 32 words) ≡ false
unbroken_line [] unbroken = refl
unbroken_line (word ∷ []) unbroken = no_end word unbroken.0
unbroken_line (word ∷ next ∷ words) unbroken =
    quiet_append is_end word (32 ∷ join_with_byte 32 (next ∷ words)) (no_end word unbroken.0) (unbroken_line (next ∷ words) unbroken.1)

-- ---- the request of words

-- the words after the kind are the request's
abbrev AreWordsOf : Kind → List (List ℕ) → Request → Type 0
AreWordsOf kind words request = (request_words request ≡ request_kind_text kind ∷ words) × IsWritableRequest request

layout_is : (words : List (List ℕ)) (request : Request) → layout_from words ≡ Some request → AreWordsOf kinds.Layout words request
layout_is [] request e = cc
layout_is (word ∷ []) request e =
    let m = mapped Layout (type_of word) request e in
    let h = type_is word m.0 m.1 in
    subst (AreWordsOf kinds.Layout (word ∷ [])) m.2 (ap (λ (x : List ℕ). request_kind_text kinds.Layout ∷ x ∷ []) (sym h.0), h.1)
layout_is (word ∷ other ∷ words) request e = cc

convert_is : (words : List (List ℕ)) (request : Request) → convert_from words ≡ Some request → AreWordsOf kinds.Convert words request
convert_is [] request e = cc
convert_is (from ∷ []) request e = cc
convert_is (from ∷ to ∷ []) request e =
    option_and_then_some {P = AreWordsOf kinds.Convert (from ∷ to ∷ []) request} (λ t. option_map (Convert t) (type_of to))
    (type_of from) request e
    (λ t found inner.
    let m = mapped (Convert t) (type_of to) request inner in
    let h = type_is from t found in
    let k = type_is to m.0 m.1 in
    let spelled : request_words (Convert t m.0) ≡ request_kind_text kinds.Convert ∷ from ∷ to ∷ [] =
    ap (λ (x : List ℕ). request_kind_text kinds.Convert ∷ x ∷ type_text m.0 ∷ []) (sym h.0)
    ∙ ap (λ (x : List ℕ). request_kind_text kinds.Convert ∷ from ∷ x ∷ []) (sym k.0) in
    subst (AreWordsOf kinds.Convert (from ∷ to ∷ [])) m.2 (spelled, (h.1, k.1)))
convert_is (from ∷ to ∷ other ∷ words) request e = cc

module_is : (words : List (List ℕ)) (request : Request) → module_from words ≡ Some request → AreWordsOf kinds.Module words request
module_is [] request e = cc
module_is (name ∷ []) request e =
    let m = mapped Module (sample_named name) request e in
    let named : name ≡ sample_text m.0 = found_is sample_text all_samples name m.0 m.1 in
    subst (AreWordsOf kinds.Module (name ∷ [])) m.2 (ap (λ (x : List ℕ). request_kind_text kinds.Module ∷ x ∷ []) (sym named), tt)
module_is (name ∷ other ∷ words) request e = cc

-- types whose texts are the words
abbrev AreTypesOf : List (List ℕ) → List SpelledType → Type 0
AreTypesOf words types = (map type_text types ≡ words) × AreWritableTypes types

types_are : (words : List (List ℕ)) (types : List SpelledType) → types_of words ≡ Some types → AreTypesOf words types
types_are [] types e = subst (AreTypesOf []) (same_Some [] types e) (refl, tt)
types_are (word ∷ words) types e =
    option_and_then_some {P = AreTypesOf (word ∷ words) types} (λ t. option_map (λ ts. t ∷ ts) (types_of words)) (type_of word) types e
    (λ t found inner.
    let m = mapped (λ (ts : List SpelledType). t ∷ ts) (types_of words) types inner in
    let h = type_is word t found in
    let k = types_are words m.0 m.1 in
    let spelled : map type_text (t ∷ m.0) ≡ word ∷ words =
    ap (λ (w : List ℕ). w ∷ map type_text m.0) (sym h.0) ∙ ap (λ (ws : List (List ℕ)). word ∷ ws) k.0 in
    subst (AreTypesOf (word ∷ words)) m.2 (spelled, (h.1, k.1)))

-- a built-in function and types whose texts are the words
abbrev AreNamedOf : List (List ℕ) → MathFunction × List SpelledType → Type 0
AreNamedOf words named = (builtin_text named.0 ∷ map type_text named.1 ≡ words) × AreWritableTypes named.1

named_are : (words : List (List ℕ)) (named : MathFunction × List SpelledType) → named_from words ≡ Some named → AreNamedOf words named
named_are [] named e = cc
named_are (name ∷ words) named e =
    option_and_then_some {P = AreNamedOf (name ∷ words) named} (λ function. option_map (λ types. (function, types)) (types_of words))
    (builtin_of name) named e
    (λ function found inner.
    let m = mapped (λ (types : List SpelledType). (function, types)) (types_of words) named inner in
    let h = name_is name function found in
    let k = types_are words m.0 m.1 in
    let spelled : builtin_text function ∷ map type_text m.0 ≡ name ∷ words =
    ap (λ (w : List ℕ). w ∷ map type_text m.0) (sym h) ∙ ap (λ (ws : List (List ℕ)). name ∷ ws) k.0 in
    subst (AreNamedOf (name ∷ words)) m.2 (spelled, k.1))

call_with_is : (words : List (List ℕ)) (function : MathFunction) (types : List SpelledType) (request : Request) →
    AreNamedOf words (function, types)
    → call_with function types ≡ Some request → AreWordsOf kinds.Call words request
call_with_is words function [] request named e = cc
call_with_is words function (t ∷ types) request named e =
    subst (AreWordsOf kinds.Call words) (same_Some (Call function (t ∷ types)) request e)
    (ap (λ (ws : List (List ℕ)). request_kind_text kinds.Call ∷ ws) named.0, (named.1, omega arith))

call_is : (words : List (List ℕ)) (request : Request) → call_from words ≡ Some request → AreWordsOf kinds.Call words request
call_is words request e =
    option_and_then_some {P = AreWordsOf kinds.Call words request} (λ (named : MathFunction × List SpelledType). call_with named.0 named.1)
    (named_from words) request e
    (λ named found inner. call_with_is words named.0 named.1 request (named_are words named found) inner)

rules_are : (words : List (List ℕ)) (request : Request) → rules_from words ≡ Some request → AreWordsOf kinds.Rules words request
rules_are words request e =
    let m = mapped (λ (named : MathFunction × List SpelledType). Rules named.0 named.1) (named_from words) request e in
    let named = named_are words m.0 m.1 in
    subst (AreWordsOf kinds.Rules words) m.2 (ap (λ (ws : List (List ℕ)). request_kind_text kinds.Rules ∷ ws) named.0, named.1)

with_is : (kind : Kind) (words : List (List ℕ)) (request : Request) → request_with kind words ≡ Some request → AreWordsOf kind words request
with_is kinds.Call words request e = call_is words request e
with_is kinds.Rules words request e = rules_are words request e
with_is kinds.Layout words request e = layout_is words request e
with_is kinds.Convert words request e = convert_is words request e
with_is kinds.Module words request e = module_is words request e

words_are : (words : List (List ℕ)) (request : Request) → request_from words ≡ Some request →
    (words ≡ request_words request) × IsWritableRequest request
words_are [] request e = cc
words_are (first ∷ words) request e =
    option_and_then_some {P = ((first ∷ words) ≡ request_words request) ×
    IsWritableRequest request} (λ kind. request_with kind words) (request_kind first) request e
    (λ kind found inner.
    let h = with_is kind words request inner in
    let spelled = found_is request_kind_text all_kinds first kind found in
    (ap (λ (x : List ℕ). x ∷ words) spelled ∙ sym h.0, h.1))

-- ---- lines

pub request_is : (line : List ℕ) (request : Request) → request_of line ≡ Some request →
    (line ≡ request_text request) × IsWritableRequest request
request_is line request e =
    let h = words_are (slice_split is_space line) request e in
    (sym (join_with_byte-slice_split 32 line) ∙ ap (join_with_byte 32) h.0, h.1)

types_unbroken : (types : List SpelledType) → AreWritableTypes types → AreUnbroken (map type_text types)
types_unbroken [] writable = tt
types_unbroken (t ∷ types) writable = (type_quiet t writable.0, types_unbroken types writable.1)

name_unbroken : (sample : Sample) → list_any is_break (sample_text sample) ≡ false
name_unbroken s.Named = refl
name_unbroken s.Stored = refl
name_unbroken s.Sampling = refl
name_unbroken s.Exit = refl
name_unbroken s.NoFall = refl
name_unbroken s.ExitOff = refl
name_unbroken s.Counts = refl
name_unbroken s.DerivativeUniform = refl
name_unbroken s.Derivative = refl
name_unbroken s.DerivativeOff = refl

request_unbroken : (request : Request) → IsWritableRequest request → AreUnbroken (request_words request)
request_unbroken (Call function types) writable = (refl, ((builtin_facts function).1, types_unbroken types writable.0))
request_unbroken (Rules function types) writable = (refl, ((builtin_facts function).1, types_unbroken types writable))
request_unbroken (Layout t) writable = (refl, (type_quiet t writable, tt))
request_unbroken (Convert from to) writable = (refl, (type_quiet from writable.0, (type_quiet to writable.1, tt)))
request_unbroken (Module sample) writable = (refl, (name_unbroken sample, tt))

-- the text of a request contains no end of line
pub request_line : (request : Request) → IsWritableRequest request → list_any is_end (request_text request) ≡ false
request_line request writable = unbroken_line (request_words request) (request_unbroken request writable)

types_named : (types : List SpelledType) → AreWritableTypes types → types_of (map type_text types) ≡ Some types
types_named [] writable = refl
types_named (t ∷ types) writable = rw (type_named t writable.0, types_named types writable.1) refl

words_named : (request : Request) → IsWritableRequest request → request_from (request_words request) ≡ Some request
words_named (Call function []) writable = absurd (omega (arith, writable.1))
words_named (Call function (t ∷ types)) writable =
    rw ((builtin_facts function).0, type_named t writable.0.0, types_named types writable.0.1) refl
words_named (Rules function types) writable = rw ((builtin_facts function).0, types_named types writable) refl
words_named (Layout t) writable = rw (type_named t writable) refl
words_named (Convert from to) writable = rw (type_named from writable.0, type_named to writable.1) refl
words_named (Module sample) writable = rw (named_back sample) refl

words_cut : (request : Request) → IsWritableRequest request → slice_split is_space (request_text request) ≡ request_words request
words_cut (Call function types) writable =
    split_joined 32 (request_kind_text kinds.Call) (builtin_text function ∷ map type_text types) refl
    (unbroken_solid (request_words (Call function types)) (request_unbroken (Call function types) writable))
words_cut (Rules function types) writable =
    split_joined 32 (request_kind_text kinds.Rules) (builtin_text function ∷ map type_text types) refl
    (unbroken_solid (request_words (Rules function types)) (request_unbroken (Rules function types) writable))
words_cut (Layout t) writable =
    split_joined 32 (request_kind_text kinds.Layout) (type_text t ∷ []) refl
    (unbroken_solid (request_words (Layout t)) (request_unbroken (Layout t) writable))
words_cut (Convert from to) writable =
    split_joined 32 (request_kind_text kinds.Convert) (type_text from ∷ type_text to ∷ []) refl
    (unbroken_solid (request_words (Convert from to)) (request_unbroken (Convert from to) writable))
words_cut (Module sample) writable =
    split_joined 32 (request_kind_text kinds.Module) (sample_text sample ∷ []) refl
    (unbroken_solid (request_words (Module sample)) (request_unbroken (Module sample) writable))

pub request_named : (request : Request) → IsWritableRequest request → request_of (request_text request) ≡ Some request
request_named request writable = ap request_from (words_cut request writable) ∙ words_named request writable

pub requests_are_spelled : RequestsAreSpelled
requests_are_spelled line request =
    (request_is line request, λ spelled writable. ap request_of spelled ∙ request_named request writable)

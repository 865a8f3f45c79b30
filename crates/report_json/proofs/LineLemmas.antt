-- An end of the line behind printed tokens: a reader finds the same tokens, and the text stands for the same value.
use Rattle.std.proofs.Common.{◌≡◌, ◌∙◌, ◌&&◌, ◌++◌, ◌<◌, ap, ap₂, refl, subst, sym, append_assoc, append-nil, arith, ℕ}
use Rattle.std.proofs.Common.{Bool, true, false, cond, List, [], ◌∷◌, Some, option_and_then}
use Rattle.std.proofs.lemmas.Str.{IsUtf8-append}
use Rattle.std.specs.Str.{IsUtf8}
use Rattle.json.proofs.Numbered.{ArePrintableOrBad-tokens}
use Rattle.json.proofs.Printed.Numbers.{in_word-ended, lex-number}
use Rattle.json.proofs.Printed.Strings.{content-escape, lex-escape}
use Rattle.json.proofs.Printed.Trees.{value-json_tokens}
use Rattle.json.proofs.Printed.Utf8.{IsUtf8-are_ascii}
use Rattle.json.specs.Json as json
use Rattle.json.specs.Json.{document, if_last, max_depth, value}
use Rattle.json.specs.Lex.{Lexeme, between, colon, comma, fresh, lex, punctuate, string_token, token, tokens}
use Rattle.json.specs.Print.{ArePrintableOrBad, IsPrintableOrBad, begins, ends, escape, print, print_from, quoted, separator, token_text}
use Rattle.json.specs.Token.{Token, bad, begin_array, begin_object, boolean, end_array, end_object, key, null, number, string}
use Rattle.json.specs.Tree.{json_tokens}
use Rattle.json.specs.Word.{ends_word, word}
use Rattle.report_json.proofs.SpellingLemmas.{members_closed}
use Rattle.report_json.specs.Tokens.{object}
use Rattle.report_json.specs.Values.{IsLine, IsObjectOf, SpellMembers}

-- ---- what a reader finds

-- after a value comes a comma, a bracket, or what follows all
ended_behind : (ts : List Token) (rest : List ℕ) → ends_word rest ≡ true → ends_word (print_from true ts ++ rest) ≡ true
unfolding print_from
ended_behind [] rest ended = ended
ended_behind (begin_object ∷ ts) rest ended = refl
ended_behind (end_object ∷ ts) rest ended = refl
ended_behind (begin_array ∷ ts) rest ended = refl
ended_behind (end_array ∷ ts) rest ended = refl
ended_behind (key name ∷ ts) rest ended = refl
ended_behind (string text ∷ ts) rest ended = refl
ended_behind (number text ∷ ts) rest ended = refl
ended_behind (boolean b ∷ ts) rest ended = refl
ended_behind (null ∷ ts) rest ended = refl
ended_behind (bad ∷ ts) rest ended = refl

-- the lexemes of a token before others
abbrev found_before : Token → List Lexeme → List Lexeme
found_before (key name) others = token (string name) ∷ colon ∷ others
found_before bad others = others
found_before t others = token t ∷ others

-- a string is one lexeme
string_found : (text rest : List ℕ) → lex between (quoted text ++ rest) ≡ token (string text) ∷ lex between rest
unfolding lex
string_found text rest =
    ap (λ (bytes : List ℕ). lex between (34 ∷ bytes)) (append_assoc (escape text) (34 ∷ []) rest)
    ∙ ap₂ (λ found (others : List Lexeme). token (string_token found) ∷ others) (content-escape text rest) (lex-escape text rest)

-- what is found from a token on; a word must have ended
token_found : (t : Token) (rest : List ℕ) → IsPrintableOrBad t → (ends t ≡ true → ends_word rest ≡ true) →
    lex between (token_text t ++ rest) ≡ found_before t (lex between rest)
unfolding lex word
token_found begin_object rest printable ended = refl
token_found end_object rest printable ended = refl
token_found begin_array rest printable ended = refl
token_found end_array rest printable ended = refl
token_found (key name) rest printable ended =
    ap (lex between) (append_assoc (quoted name) (58 ∷ []) rest) ∙ string_found name (58 ∷ rest)
token_found (string text) rest printable ended = string_found text rest
token_found (number text) rest printable ended = lex-number text rest printable (ended refl)
token_found (boolean true) rest printable ended =
    ap₂ (λ b (others : List Lexeme). token (cond b (boolean true) bad) ∷ others) (ended refl) (in_word-ended rest (ended refl))
token_found (boolean false) rest printable ended =
    ap₂ (λ b (others : List Lexeme). token (cond b (boolean false) bad) ∷ others) (ended refl) (in_word-ended rest (ended refl))
token_found null rest printable ended =
    ap₂ (λ b (others : List Lexeme). token (cond b null bad) ∷ others) (ended refl) (in_word-ended rest (ended refl))
token_found bad rest printable ended = refl

comma_same : (b : Bool) (one other : List ℕ) → lex between one ≡ lex between other →
    lex between (cond b (44 ∷ []) [] ++ one) ≡ lex between (cond b (44 ∷ []) [] ++ other)
unfolding lex
comma_same true one other same = ap (λ others. comma ∷ others) same
comma_same false one other same = same

-- two texts behind printed tokens, in which a reader finds the same and which end a word
module _ (one other : List ℕ) (same : lex between one ≡ lex between other) (one_ends : ends_word one ≡ true)
    (other_ends : ends_word other ≡ true) where
  token_same : (t : Token) (ts : List Token) → IsPrintableOrBad t →
      lex between (print_from (ends t) ts ++ one) ≡ lex between (print_from (ends t) ts ++ other) →
      lex between (token_text t ++ (print_from (ends t) ts ++ one)) ≡ lex between (token_text t ++ (print_from (ends t) ts ++ other))
  token_same t ts printable rest_same =
      token_found t _ printable (λ e. ap (λ b. ends_word (print_from b ts ++ one)) e ∙ ended_behind ts one one_ends)
      ∙ ap (found_before t) rest_same
      ∙ sym (token_found t _ printable (λ e. ap (λ b. ends_word (print_from b ts ++ other)) e ∙ ended_behind ts other other_ends))

  print_same : (b : Bool) (ts : List Token) → ArePrintableOrBad ts →
      lex between (print_from b ts ++ one) ≡ lex between (print_from b ts ++ other)
  unfolding print_from
  print_same b [] printable = same
  print_same b (t ∷ ts) printable =
      let regrouped : (rest : List ℕ) →
      print_from b (t ∷ ts) ++ rest ≡ separator b t ++ (token_text t ++ (print_from (ends t) ts ++ rest)) =
      λ rest. append_assoc (separator b t) _ rest ∙ ap (λ bytes. separator b t ++ bytes) (append_assoc (token_text t) _ rest) in
      ap (lex between) (regrouped one)
      ∙ comma_same (b && begins t) _ _ (token_same t ts printable.0 (print_same (ends t) ts printable.1))
      ∙ ap (lex between) (sym (regrouped other))

-- a reader that finds the tokens finds them before an end of the line too
line_tokens : (ts : List Token) → tokens (print ts) ≡ ts → tokens (print ts ++ 10 ∷ []) ≡ ts
unfolding lex
line_tokens ts reads_back =
    let printable = subst ArePrintableOrBad reads_back (ArePrintableOrBad-tokens (print ts)) in
    ap (punctuate fresh) (print_same (10 ∷ []) [] refl refl refl false ts printable ∙ ap (lex between) (append-nil (print ts)))
    ∙ reads_back

-- ---- lines

-- the tokens of an object that were written are its line
pub line_written : (members ts : List Token) (written text : List ℕ) → ts ≡ object members → tokens (print ts) ≡ ts → IsUtf8 (print ts) →
    written ≡ print ts → text ≡ written ++ 10 ∷ [] → IsLine members text
line_written members ts written text are reads_back utf8 bytes ends =
    let printed : text ≡ print ts ++ 10 ∷ [] = ends ∙ ap (λ (line : List ℕ). line ++ 10 ∷ []) bytes in
    record {
      printed = printed ∙ ap (λ (all : List Token). print all ++ 10 ∷ []) are;
      reads_back = ap tokens printed ∙ line_tokens ts reads_back ∙ are;
      utf8 = subst IsUtf8 (sym printed) (IsUtf8-append (print ts) (10 ∷ []) utf8 (IsUtf8-are_ascii (10 ∷ []) refl));
    }

-- a line whose members nest less than 128 deep is JSON
pub line_document : {most : ℕ} {listed : List Token} {text : List ℕ} (spell : SpellMembers most listed) → most < 128 → IsLine listed text →
    document text ≡ Some (json.object spell.members)
line_document {text = text} spell small line =
    let spelled : tokens text ≡ json_tokens (json.object spell.members) ++ [] =
    line.reads_back ∙ ap object (sym spell.spelled) ∙ ap (λ ts. begin_object ∷ ts) (sym (members_closed spell.members))
    ∙ sym (append-nil (json_tokens (json.object spell.members))) in
    ap (option_and_then (λ p. if_last p.0 p.1))
    (ap (value max_depth) spelled ∙ value-json_tokens (json.object spell.members) max_depth [] (omega (arith, spell.shallow)))

-- and its members are those
pub line_value : {most : ℕ} {listed : List Token} {text : List ℕ} → SpellMembers most listed → most < 128 → IsLine listed text →
    IsObjectOf listed text
line_value spell small line = record { members = spell.members; value = line_document spell small line; spelled = spell.spelled }

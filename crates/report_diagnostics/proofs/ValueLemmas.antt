-- What is written of diagnostics spells values and members.
use Rattle.std.proofs.Common.{ℕ, List, Option, Some, None, suc}
use Rattle.json.specs.Token.{Token}
use Rattle.report_json.proofs.SpellingLemmas.{each_item, each_member, no_member, one_member, spell_array, spell_number}
use Rattle.report_json.proofs.SpellingLemmas.{spell_object, spell_optional, spell_text, then_member, then_members}
use Rattle.report_json.specs.Tokens.{number_tokens, text_tokens}
use Rattle.report_json.specs.Values.{SpellMembers, SpellValue}
use Rattle.report_places.proofs.ValueLemmas.{body_value}
use Rattle.report_places.specs.Tokens.{body_tokens, path_tokens}
use Rattle.report_diagnostics.specs.Diagnostics.{advice_members, cause_members, diagnostic_tokens, kind_members, related_tokens}
use Rattle.report_diagnostics.specs.Facts.{fact_members, facts_tokens, value_tokens}
use Rattle.report_diagnostics.specs.Heads.{head_members}
use Rattle.report_diagnostics.specs.Locations.{function_members, location_tokens, module_members, text_members, value_members}
use Rattle.report_diagnostics.specs.Members.{optional_member}
use Rattle.report_diagnostics.specs.declared.diagnostic.Diagnostic.{Diagnostic}
use Rattle.report_diagnostics.specs.declared.diagnostic.Related.{Related}
use Rattle.report_diagnostics.specs.declared.facts.Fact.{Fact}
use Rattle.report_diagnostics.specs.declared.facts.FactValue.{FactValue}
use Rattle.report_diagnostics.specs.declared.facts.FactValue.TheVariants.{Number, Word, Words}
use Rattle.report_diagnostics.specs.declared.head.Verdict.{Verdict}
use Rattle.report_diagnostics.specs.declared.location.Location.{Location}

-- ---- locations

spell_member : {most : ℕ} {A : Type 0} {tokens : A → List Token} (name : List ℕ) → ((x : A) → SpellValue most (tokens x)) →
    (value : Option A) → SpellMembers most (optional_member tokens name value)
spell_member name each (Some x) = one_member (each x)
spell_member name each None = no_member

number_member : {most : ℕ} (name : List ℕ) (n : Option ℕ) → SpellMembers most (optional_member number_tokens name n)
number_member name n = spell_member name (λ x. spell_number) n

text_member : {most : ℕ} (name : List ℕ) (text : Option (List ℕ)) → SpellMembers most (optional_member text_tokens name text)
text_member name text = spell_member name (λ x. spell_text) text

function_spelled : {most : ℕ} (location : Location) → SpellMembers (suc most) (function_members location)
function_spelled location =
    then_member (spell_optional body_tokens location.body body_value)
    (then_members (text_member _ location.name)
    (then_members (spell_member {tokens = path_tokens} _ (λ path. spell_text) location.statement) (number_member _ location.expression)))

module_spelled : {most : ℕ} (location : Location) (text : Option (List ℕ)) → SpellMembers most (module_members location text)
module_spelled location text =
    then_members (text_member _ text)
    (then_members (number_member _ location.ty) (then_members (text_member _ location.pointer) (number_member _ location.argument)))

value_spelled : {most : ℕ} (location : Location) → SpellMembers most (value_members location)
value_spelled location = then_members (text_member _ location.path) (text_member _ location.input_pointer)

text_spelled : {most : ℕ} (location : Location) → SpellMembers most (text_members location)
text_spelled location =
    then_members (number_member _ location.line) (then_members (number_member _ location.column) (number_member _ location.byte))

pub location_value : {most : ℕ} (location : Location) (text : Option (List ℕ)) → SpellValue (suc (suc most)) (location_tokens location text)
unfolding location_tokens
location_value location text =
    spell_object (then_members (function_spelled location)
    (then_members (module_spelled location text) (then_members (value_spelled location) (text_spelled location))))

-- ---- facts

fact_value : {most : ℕ} (value : FactValue) → SpellValue (suc most) (value_tokens value)
unfolding value_tokens
fact_value (Number number) = spell_number
fact_value (Word word) = spell_text
fact_value (Words words) = spell_array (each_item (λ word. spell_text) words.items)

facts_value : {most : ℕ} (facts : List Fact) → SpellValue (suc (suc most)) (facts_tokens facts)
facts_value facts = spell_object (each_member {f = fact_members} (λ fact. one_member (fact_value fact.value)) facts)

-- ---- diagnostics

related_value : {most : ℕ} (related : Related) → SpellValue (suc (suc (suc most))) (related_tokens related)
unfolding related_tokens
related_value related = spell_object (then_member spell_text (one_member (location_value related.location related.text)))

kind_spelled : {most : ℕ} (diagnostic : Diagnostic) → SpellMembers most (kind_members diagnostic)
kind_spelled diagnostic = then_member spell_text (then_member spell_text (then_member spell_text (one_member spell_text)))

cause_spelled : {most : ℕ} (diagnostic : Diagnostic) → SpellMembers (suc (suc (suc (suc most)))) (cause_members diagnostic)
cause_spelled diagnostic =
    then_member (location_value diagnostic.location diagnostic.text)
    (then_member (facts_value diagnostic.data.list.items)
    (then_member (spell_array (each_item related_value diagnostic.related.items)) (one_member spell_number)))

advice_spelled : {most : ℕ} (diagnostic : Diagnostic) → SpellMembers (suc most) (advice_members diagnostic)
advice_spelled diagnostic =
    then_member (spell_array (each_item (λ note. spell_text) diagnostic.notes.items))
    (one_member (spell_array (each_item (λ help. spell_text) diagnostic.help.items)))

pub diagnostic_value : (diagnostic : Diagnostic) → SpellValue 5 (diagnostic_tokens diagnostic)
unfolding diagnostic_tokens
diagnostic_value diagnostic =
    spell_object (then_members (kind_spelled diagnostic) (then_members (cause_spelled diagnostic) (advice_spelled diagnostic)))

pub head_spelled : (verdict : Verdict) (diagnostics : List Diagnostic) → SpellMembers 6 (head_members verdict diagnostics)
head_spelled verdict diagnostics =
    then_member spell_text (then_member spell_text (one_member (spell_array (each_item diagnostic_value diagnostics))))

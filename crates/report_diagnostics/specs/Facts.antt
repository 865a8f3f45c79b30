-- Facts of a kind of diagnostic as JSON.
use Rattle.std.specs.Prelude.{List, ◌∷◌}
use Rattle.std.specs.List.{flat_map}
use Rattle.json.specs.Token.{Token, key}
use Rattle.report_json.specs.Tokens.{array, number_tokens, object, text_tokens}
use Rattle.report_diagnostics.specs.declared.facts.Fact.{Fact}
use Rattle.report_diagnostics.specs.declared.facts.FactValue.{FactValue}
use Rattle.report_diagnostics.specs.declared.facts.FactValue.TheVariants.{Number, Word, Words}

unfoldable pub value_tokens : FactValue → List Token
value_tokens (Number number) = number_tokens number
value_tokens (Word word) = text_tokens word
value_tokens (Words words) = array (flat_map text_tokens words.items)

abbrev pub fact_members : Fact → List Token
fact_members fact = key fact.name ∷ value_tokens fact.value

-- an object with a member for each fact
abbrev pub facts_tokens : List Fact → List Token
facts_tokens facts = object (flat_map fact_members facts)

-- The tokens of a place spell a value.
use Rattle.std.proofs.Common.{ℕ, suc}
use Rattle.report_json.proofs.SpellingLemmas.{spell_number, spell_variant}
use Rattle.report_json.specs.Values.{SpellValue}
use Rattle.report_places.specs.Tokens.{body_tokens}
use Rattle.report_places.specs.declared.body_place.BodyPlace.{BodyPlace}
use Rattle.report_places.specs.declared.body_place.BodyPlace.TheVariants as body

pub body_value : {most : ℕ} (place : BodyPlace) → SpellValue (suc most) (body_tokens place)
unfolding body_tokens
body_value (body.ConstExpression i) = spell_variant spell_number
body_value (body.Function i) = spell_variant spell_number
body_value (body.EntryPoint i) = spell_variant spell_number

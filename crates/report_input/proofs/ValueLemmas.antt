-- What `error` says spells a value.
use Rattle.std.proofs.Common.{ℕ, suc, List}
use Rattle.report_json.proofs.SpellingLemmas.{one_member, spell_number, spell_object, spell_text, then_member}
use Rattle.report_json.specs.Values.{SpellValue}
use Rattle.report_input.specs.Errors.{byte_tokens, path_tokens}

pub byte_value : {most : ℕ} (byte : ℕ) (wanted : List ℕ) → SpellValue (suc most) (byte_tokens byte wanted)
byte_value byte wanted = spell_object (then_member spell_number (one_member spell_text))

pub path_value : {most : ℕ} (path wanted : List ℕ) → SpellValue (suc most) (path_tokens path wanted)
path_value path wanted = spell_object (then_member spell_text (one_member spell_text))

use Rattle.std.proofs.Common.{◌≡◌, ◌∙◌, sym}
use Rattle.std.proofs.lemmas.Slice.Eq.{bytes_eq-Decides}
use Rattle.shader_type_text.proofs.Decimals.{decimal_is_text, decimal_is_read, number_named, number_none, read_small}
use Rattle.shader_type_text.proofs.numbers.number_from_word.Goals as goal

pub returns-in_default : goal.returns-in_default
returns-in_default c =
    sym (number_none c.args.word.now (λ n small is. c.in_default.ensures.cases.0 (decimal_is_text _ n small is)))

pub returns-in_default-parse : goal.returns-in_default-parse
returns-in_default-parse c =
    sym (number_none c.args.word.now (λ n small is.
    let h = decimal_is_read c.in-Ok.text.now n c.parse.result small (c.in-Ok.ensures.cases.0 ∙ is) c.parse.ensures.value.0 in cc))

pub returns-else-eq : goal.returns-else-eq
returns-else-eq c =
    sym (number_none c.args.word.now (λ n small is.
    let h = decimal_is_read c.in-Ok.text.now n c.parse.result small (c.in-Ok.ensures.cases.0 ∙ is) c.parse.ensures.value.0 in
    let same : c.in-Ok-parse.number ≡ n = cc in
    let printed : c.format.result.now ≡ c.in-Ok.text.now = c.format.ensures.text ∙ (rw same (sym (c.in-Ok.ensures.cases.0 ∙ is))) in
    let equal = (bytes_eq-Decides c.format.result.now c.in-Ok.text.now).1 printed in
    cc (c.if-eq.ensures, equal)))

pub returns-then-eq : goal.returns-then-eq
returns-then-eq c =
    let equal : c.format.result.now ≡ c.in-Ok.text.now = (bytes_eq-Decides c.format.result.now c.in-Ok.text.now).0 (sym c.if-eq.ensures) in
    let printed = c.format.ensures.text in
    let is = sym (c.in-Ok.ensures.cases.0) ∙ sym equal ∙ printed in
    let small = read_small c.in-Ok.text.now c.in-Ok-parse.number c.parse.result c.in-Ok-parse.is c.parse.ensures.value.0 in
    sym (rw is (number_named c.in-Ok-parse.number small))

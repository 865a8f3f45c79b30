use Rattle.std.proofs.Common.{◌∙◌, ap, option_map, sym}
use Rattle.shader_json_declarations.proofs.PayloadLemmas.{with_flag}
use Rattle.shader_json_declarations.proofs.types.flag_of.Goals as goal

pub returns-in-Some-clause-accepts : goal.returns-in-Some-clause-accepts
returns-in-Some-clause-accepts c = λ flag h.
    c.field.ensures.accepts flag
    (with_flag _ _ c.in-Some.field.now flag (sym c.flag_named.ensures ∙ ap (option_map (λ word. word.now)) c.in-Some.is) h)

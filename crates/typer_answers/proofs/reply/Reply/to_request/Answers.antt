use Rattle.std.proofs.Common.{◌≡◌, ◌∙◌, sym, subst, ap}
use Rattle.typer_answers.specs.Answers.{IsReply, conclusion_reply, rules_reply}
use Rattle.typer_answers.specs.Calls.{call_conclusion, rules_left}
use Rattle.typer_answers.proofs.reply.Reply.to_request.Goals as goal

pub returns-in_ok-found-in-Call : goal.returns-in_ok-found-in-Call
returns-in_ok-found-in-Call c =
    let lent : c.as_slice.result.now ≡ c.in-Call.arguments = c.as_slice.ensures in
    subst (λ request. IsReply request c.from_conclusion.result) (sym c.in-Call.is)
    (c.from_conclusion.ensures ∙ ap conclusion_reply (c.in_ok-found-in-Call.ensures ∙ ap (call_conclusion c.in-Call.function) lent))

pub returns-in_ok-rules-in-Rules : goal.returns-in_ok-rules-in-Rules
returns-in_ok-rules-in-Rules c =
    let lent : c.as_slice-in-Rules.result.now ≡ c.in-Rules.arguments = c.as_slice-in-Rules.ensures in
    subst (λ request. IsReply request c.from_rules.result) (sym c.in-Rules.is)
    (c.from_rules.ensures ∙ ap rules_reply (c.in_ok-rules-in-Rules.ensures ∙ ap (rules_left c.in-Rules.function) lent))

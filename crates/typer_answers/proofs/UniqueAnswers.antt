-- An input has exactly one answer.
use Rattle.std.proofs.Common.{◌≡◌, ◌∙◌, sym, ap, ℕ, ◌+◌, Option, Some, None, List, [], ◌∷◌, ◌++◌}
use Rattle.std.specs.Prelude.{codes}
use Rattle.typer_answers.specs.declared.answer.Outcome.{Outcome}
use Rattle.typer_answers.specs.declared.reply.Reply.{Reply}
use Rattle.typer_answers.specs.declared.reply.Reply.TheVariants as replies
use Rattle.typer_answers.specs.declared.request.Request.{Request}
use Rattle.typer_answers.specs.declared.request.Request.TheVariants.{Call, Rules, Layout, Convert, Module}
use Rattle.typer_answers.specs.Answers.{IsAnswerFrom, IsLineAnswer, IsReply, reply_text}
use Rattle.typer_answers.specs.Laws.{AnswersAreUnique}
use Rattle.typer_answers.specs.Lines.{lines_of}
use Rattle.typer_answers.specs.Requests.{request_of}
use Rattle.typer_answers.proofs.SampleFaults.{samples_have_one_report}

one_reply : (request : Request) (a b : Reply) → IsReply request a → IsReply request b → a ≡ b
one_reply (Call function arguments) a b x y = x ∙ sym y
one_reply (Rules function arguments) a b x y = x ∙ sym y
one_reply (Layout t) a b x y = x ∙ sym y
one_reply (Convert from to) a b x y = x ∙ sym y
one_reply (Module sample) a b x y = x.2 ∙ ap replies.Module (samples_have_one_report sample x.0 y.0 x.1 y.1) ∙ sym y.2

-- there is exactly one text and one outcome
abbrev IsOne : (List ℕ → Outcome → Type 0) → Type 0
IsOne P = (text other : List ℕ) (outcome reported : Outcome) → P text outcome → P other reported → (text ≡ other) × (outcome ≡ reported)

one_line : (number : ℕ) (built : Option Request) (IsLater : List ℕ → Outcome → Type 0) → IsOne IsLater →
    IsOne (IsLineAnswer number built IsLater)
one_line number None IsLater one text other outcome reported x y = (x.0 ∙ sym y.0, x.1 ∙ sym y.1)
one_line number (Some request) IsLater one text other outcome reported x y =
    let reply : x.0 ≡ y.0 = one_reply request x.0 y.0 x.2 y.2 in
    let later = one x.1 y.1 outcome reported x.3 y.3 in
    let joined : reply_text x.0 ++ codes "\n" ++ x.1 ≡ reply_text y.0 ++ codes "\n" ++ y.1 =
    ap (λ (r : Reply). reply_text r ++ codes "\n" ++ x.1) reply ∙ ap (λ (bytes : List ℕ). reply_text y.0 ++ codes "\n" ++ bytes) later.0 in
    (x.4 ∙ joined ∙ sym y.4, later.1)

one_answer : (number : ℕ) (lines : List (List ℕ)) → IsOne (IsAnswerFrom number lines)
one_answer number [] text other outcome reported x y = (x.0 ∙ sym y.0, x.1 ∙ sym y.1)
one_answer number (line ∷ lines) text other outcome reported x y =
    one_line number (request_of line) (IsAnswerFrom (number + 1) lines) (one_answer (number + 1) lines) text other outcome reported x y

pub answers_are_unique : AnswersAreUnique
answers_are_unique input text other outcome reported x y = one_answer 1 (lines_of input) text other outcome reported x y

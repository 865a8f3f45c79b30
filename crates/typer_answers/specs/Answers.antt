-- The reply to each line, and the answer to a whole input.
use Rattle.std.specs.Prelude.{◌≡◌, ◌+◌, ℕ, List, [], ◌∷◌, ◌++◌, Option, Some, None, codes}
use Rattle.std.specs.List.{join_by}
use Rattle.std.specs.Fmt.{decimal}
use Rattle.std.specs.Int.{next_multiple_of}
use Rattle.shader_ir.specs.declared.proc.layouter.TypeLayout.{TypeLayout}
use Rattle.shader_ir.specs.declared.scalar.Scalar.{Scalar}
use Rattle.shader_overloads.specs.declared.rule.Conclusion.{Conclusion}
use Rattle.shader_overloads.specs.declared.rule.Rule.{Rule}
use Rattle.typer_answers.specs.declared.answer.Outcome.{Outcome}
use Rattle.typer_answers.specs.declared.answer.Outcome.TheVariants.{Done, BadLine}
use Rattle.typer_answers.specs.declared.reply.Reply.{Reply}
use Rattle.typer_answers.specs.declared.reply.Reply.TheVariants as replies
use Rattle.typer_answers.specs.declared.request.Request.{Request}
use Rattle.typer_answers.specs.declared.request.Request.TheVariants.{Call, Rules, Layout, Convert, Module}
use Rattle.typer_answers.specs.Calls.{call_conclusion, rules_left}
use Rattle.typer_answers.specs.Conversions.{conversion_of}
use Rattle.typer_answers.specs.Layouts.{layout_of_spelled}
use Rattle.typer_answers.specs.Lines.{lines_of}
use Rattle.typer_answers.specs.Requests.{request_of}
use Rattle.typer_answers.specs.Samples.{IsSampleReport}
use Rattle.sample_reports.specs.Texts.{report_text}
use Rattle.sample_reports.specs.declared.report.ModuleReport.{ModuleReport}
use Rattle.shader_type_text.specs.Scalars.{scalar_text}
use Rattle.shader_type_text.specs.Texts.{conclusion_text, rule_text}

abbrev pub reply_text : Reply → List ℕ
reply_text (replies.Conclusion conclusion) = conclusion_text conclusion
reply_text (replies.Rules rules) = join_by rule_text (codes "; ") rules
reply_text (replies.Layout size alignment stride) =
    codes "size " ++ decimal size ++ codes " align " ++ decimal alignment ++ codes " stride " ++ decimal stride
reply_text (replies.Conversion from to) = scalar_text from ++ codes " to " ++ scalar_text to
reply_text (replies.Module report) = report_text report
reply_text replies.Refused = codes "refused"

abbrev pub converted : Option (Scalar × Scalar) → Reply
converted (Some scalars) = replies.Conversion scalars.0 scalars.1
converted None = replies.Refused

-- the stride of an array of the type is its size, rounded up to its alignment
abbrev pub laid_out : Option TypeLayout → Reply
laid_out (Some layout) = replies.Layout layout.size layout.alignment (next_multiple_of layout.size layout.alignment)
laid_out None = replies.Refused

abbrev pub conclusion_reply : Option Conclusion → Reply
conclusion_reply (Some conclusion) = replies.Conclusion conclusion
conclusion_reply None = replies.Refused

abbrev pub rules_reply : List Rule → Reply
rules_reply [] = replies.Refused
rules_reply (rule ∷ rules) = replies.Rules (rule ∷ rules)

-- the reply to a request; for a sample, the interprocedural report on its module
abbrev pub IsReply : Request → Reply → Type 0
IsReply (Call function arguments) reply = reply ≡ conclusion_reply (call_conclusion function arguments)
IsReply (Rules function arguments) reply = reply ≡ rules_reply (rules_left function arguments)
IsReply (Layout t) reply = reply ≡ laid_out (layout_of_spelled t)
IsReply (Convert from to) reply = reply ≡ converted (conversion_of from to)
IsReply (Module sample) reply = (report : ModuleReport) × IsSampleReport sample report × (reply ≡ replies.Module report)

-- the reply to a line, if it makes a request
abbrev pub IsReplyTo : List ℕ → Option Reply → Type 0
IsReplyTo line None = request_of line ≡ None
IsReplyTo line (Some reply) = (request : Request) × (request_of line ≡ Some request) × IsReply request reply

abbrev pub bad_line : ℕ → List ℕ
bad_line number = codes "bad line " ++ decimal number ++ codes "\n"

-- a reply and the rest of the answer, or the end at a bad line
abbrev pub IsLineAnswer : ℕ → Option Request → (List ℕ → Outcome → Type 0) → List ℕ → Outcome → Type 0
IsLineAnswer number None IsLater text outcome = (text ≡ bad_line number) × (outcome ≡ BadLine)
IsLineAnswer number (Some request) IsLater text outcome =
    (reply : Reply) × (later : List ℕ) × IsReply request reply × IsLater later outcome × (text ≡ reply_text reply ++ codes "\n" ++ later)

-- the answer to lines of which the first has this number
abbrev pub IsAnswerFrom : ℕ → List (List ℕ) → List ℕ → Outcome → Type 0
IsAnswerFrom number [] text outcome = (text ≡ []) × (outcome ≡ Done)
IsAnswerFrom number (line ∷ lines) text outcome = IsLineAnswer number (request_of line) (IsAnswerFrom (number + 1) lines) text outcome

-- the answer to all bytes of an input
abbrev pub IsAnswer : List ℕ → List ℕ → Outcome → Type 0
IsAnswer input text outcome = IsAnswerFrom 1 (lines_of input) text outcome

-- Laws on requests, on whole inputs and their spelling, and on remaining rules.
use Rattle.std.specs.Prelude.{◌≡◌, ◌≢◌, ◌==◌, ◌↔◌, ◌+◌, ℕ, false, List, [], ◌∷◌, ◌++◌, length, map, Some, codes}
use Rattle.std.specs.List.{flat_map, list_any}
use Rattle.shader_ir.specs.declared.operators.MathFunction.{MathFunction}
use Rattle.shader_overloads.specs.declared.overload_set.SetCall.{SetCall}
use Rattle.shader_overloads.specs.declared.overload_set.SetCall.TheVariants.{Arg}
use Rattle.shader_overloads.specs.Builtins.{acceptance_of, rules_of}
use Rattle.shader_overloads.specs.Remaining.{remaining}
use Rattle.shader_type_text.specs.declared.types.PlainType.{PlainType}
use Rattle.shader_type_text.specs.declared.types.SpelledType.{SpelledType}
use Rattle.shader_type_text.specs.declared.types.SpelledType.TheVariants.{Plain, Array}
use Rattle.shader_type_text.specs.Types.{plain_inner}
use Rattle.typer_answers.specs.declared.answer.Outcome.{Outcome}
use Rattle.typer_answers.specs.declared.answer.Outcome.TheVariants.{Done, BadLine}
use Rattle.typer_answers.specs.declared.reply.Reply.{Reply}
use Rattle.typer_answers.specs.declared.request.Request.{Request}
use Rattle.typer_answers.specs.Answers.{reply_text, bad_line, IsAnswer, IsReply}
use Rattle.typer_answers.specs.Calls.{rules_left}
use Rattle.typer_answers.specs.Requests.{request_text, request_of, IsWritableRequest}
use Rattle.typer_answers.specs.Samples.{IsSampleReport}
use Rattle.sample_reports.specs.declared.report.ModuleReport.{ModuleReport}
use Rattle.shader_samples.specs.declared.sample.Sample.{Sample}

-- a line makes a request exactly if it is the request's text
abbrev pub RequestsAreSpelled : Type 0
RequestsAreSpelled = (line : List ℕ) (request : Request)
    → (request_of line ≡ Some request → (line ≡ request_text request) × IsWritableRequest request)
    × (line ≡ request_text request → IsWritableRequest request → request_of line ≡ Some request)

-- each request can be written
abbrev pub AreWritable : List Request → Type 0
AreWritable [] = Unit {0}
AreWritable (request ∷ requests) = IsWritableRequest request × AreWritable requests

-- the requests, one per line
abbrev pub request_lines : List Request → List ℕ
request_lines requests = flat_map (λ request. request_text request ++ codes "\n") requests

-- the text consists of replies to the requests, one per line
abbrev pub AreReplyLines : List Request → List ℕ → Type 0
AreReplyLines [] text = text ≡ []
AreReplyLines (request ∷ requests) text =
    (reply : Reply) × (later : List ℕ) × IsReply request reply × AreReplyLines requests later
    × (text ≡ reply_text reply ++ codes "\n" ++ later)

-- an input of requests is answered by replies to them
abbrev pub RequestsAreAnswered : Type 0
RequestsAreAnswered = (requests : List Request) (text : List ℕ) (outcome : Outcome) → AreWritable requests →
    IsAnswer (request_lines requests) text outcome ↔ (AreReplyLines requests text × (outcome ≡ Done))

-- a line without a request ends the answer, whatever follows it
abbrev pub BadLinesEndAnswers : Type 0
BadLinesEndAnswers = (requests : List Request) (bad rest : List ℕ) → AreWritable requests
    → list_any (λ b. b == 10) bad ≡ false
    → ((request : Request) → IsWritableRequest request → bad ≢ request_text request)
    → (text : List ℕ) (outcome : Outcome) → IsAnswer (request_lines requests ++ (bad ++ 10 ∷ rest)) text outcome
    ↔ ((replies : List ℕ) × AreReplyLines requests replies × (text ≡ replies ++ bad_line (length requests + 1)) × (outcome ≡ BadLine))

-- the last line needs no line feed
abbrev pub LastLinesMayLackEnds : Type 0
LastLinesMayLackEnds = (input : List ℕ) (last : ℕ) → last ≢ 10 → (text : List ℕ) (outcome : Outcome)
    → IsAnswer (input ++ last ∷ []) text outcome ↔ IsAnswer (input ++ last ∷ 10 ∷ []) text outcome

-- a sample has exactly one report
abbrev pub SamplesHaveOneReport : Type 0
SamplesHaveOneReport = (sample : Sample) (a b : ModuleReport) → IsSampleReport sample a → IsSampleReport sample b → a ≡ b

-- an input has exactly one answer
abbrev pub AnswersAreUnique : Type 0
AnswersAreUnique = (input text other : List ℕ) (outcome reported : Outcome) → IsAnswer input text outcome → IsAnswer input other reported →
    (text ≡ other) × (outcome ≡ reported)

-- calls that supply the types, the first as the argument at the position
abbrev pub calls_from : ℕ → List PlainType → List SetCall
calls_from position [] = []
calls_from position (plain ∷ plains) = Arg position (plain_inner plain) ∷ calls_from (position + 1) plains

-- the rules in a reply are the rules of the function's set that remain after the arguments are supplied
abbrev pub RulesLeftRemain : Type 0
RulesLeftRemain = (function : MathFunction) (arguments : List PlainType)
    → rules_left function (map Plain arguments) ≡ remaining (acceptance_of function) [] (calls_from 0 arguments) (rules_of function)

-- an array among the arguments leaves no rule
abbrev pub ArraysLeaveNoRule : Type 0
ArraysLeaveNoRule = (function : MathFunction) (before after : List SpelledType) (base : PlainType) (count stride : ℕ)
    → rules_left function (before ++ Array base count stride ∷ after) ≡ []

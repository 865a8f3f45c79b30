-- Answers line by line, and the number of lines of a text.
use Rattle.std.proofs.Common.{◌≡◌, ◌∙◌, sym, subst, ap, refl, ℕ, ◌+◌, ◌≤◌, Bool, true, false, cond}
use Rattle.std.proofs.Common.{eqb, Some, None, List, [], ◌∷◌, ◌++◌, append_assoc, length, arith}
use Rattle.std.specs.Prelude.{codes}
use Rattle.std.specs.List.{slice_split}
use Rattle.std.proofs.lemmas.List.Splits.{length-slice_split}
use Rattle.std.proofs.lemmas.List.Sums.{count_by-le-length}
use Rattle.std.proofs.lemmas.List.{append-nil}
use Rattle.typer_answers.specs.Answers.{IsAnswer, IsAnswerFrom, IsLineAnswer, IsReplyTo, bad_line, reply_text}
use Rattle.typer_answers.specs.Lines.{lines_of, without_empty_last}
use Rattle.typer_answers.specs.declared.answer.Outcome.{Outcome}
use Rattle.typer_answers.specs.declared.answer.Outcome.TheVariants.{Done, BadLine}
use Rattle.typer_answers.specs.declared.reply.Reply.{Reply}

one_or_none : (b : Bool) (piece : List ℕ) → length (cond b [] (piece ∷ [])) ≤ 1
one_or_none true piece = omega arith
one_or_none false piece = omega arith

length-without_empty_last : (pieces : List (List ℕ)) → length (without_empty_last pieces) ≤ length pieces
length-without_empty_last [] = omega arith
length-without_empty_last (piece ∷ []) = omega (arith, one_or_none (eqb (length piece) 0) piece)
length-without_empty_last (piece ∷ next ∷ more) = omega (arith, length-without_empty_last (next ∷ more))

-- there is at most one line more than there are bytes
pub length-lines_of : (text : List ℕ) → length (lines_of text) ≤ length text + 1
length-lines_of text =
    omega (
      arith,
      length-without_empty_last (slice_split (λ b. eqb b 10) text),
      length-slice_split (λ b. eqb b 10) text,
      count_by-le-length (λ b. eqb b 10) text,
    )

-- any answer to the remaining lines answers the input after the text
abbrev pub IsBegun : List ℕ → List ℕ → ℕ → List (List ℕ) → Type 0
IsBegun input text number lines = (later : List ℕ) (outcome : Outcome) → IsAnswerFrom number lines later outcome →
    IsAnswer input (text ++ later) outcome

pub one_reply : (input text new : List ℕ) (number : ℕ) (line : List ℕ) (left lines : List (List ℕ)) (reply : Reply) →
    IsBegun input text number left → left ≡ line ∷ lines
    → IsReplyTo line (Some reply) → new ≡ text ++ (reply_text reply ++ codes "\n") → IsBegun input new (number + 1) lines
one_reply input text new number line left lines reply begun is reported written later outcome rest =
    let answer = reply_text reply ++ codes "\n" ++ later in
    let joined : text ++ answer ≡ new ++ later =
    sym (append_assoc text (reply_text reply ++ codes "\n") later) ∙ ap (λ (bytes : List ℕ). bytes ++ later) (sym written) in
    let line_answer : IsAnswerFrom number (line ∷ lines) answer outcome =
    subst (λ built. IsLineAnswer number built (IsAnswerFrom (number + 1) lines) answer outcome) (sym reported.1) (
      reply,
      later,
      reported.2,
      rest,
      refl,
    ) in
    subst (λ bytes. IsAnswer input bytes outcome) joined (begun answer outcome
    (subst (λ ls. IsAnswerFrom number ls answer outcome) (sym is) line_answer))

pub no_reply : (input text new : List ℕ) (number : ℕ) (line : List ℕ) (left lines : List (List ℕ)) → IsBegun input text number left →
    left ≡ line ∷ lines
    → IsReplyTo line None → new ≡ text ++ bad_line number → IsAnswer input new BadLine
no_reply input text new number line left lines begun is none written =
    let line_answer : IsAnswerFrom number (line ∷ lines) (bad_line number) BadLine =
    subst (λ built. IsLineAnswer number built (IsAnswerFrom (number + 1) lines) (bad_line number) BadLine) (sym none) (refl, refl) in
    subst (λ bytes. IsAnswer input bytes BadLine) (sym written)
    (begun (bad_line number) BadLine (subst (λ ls. IsAnswerFrom number ls (bad_line number) BadLine) (sym is) line_answer))

pub no_line : (input text : List ℕ) (number : ℕ) (left : List (List ℕ)) → IsBegun input text number left → left ≡ [] →
    IsAnswer input text Done
no_line input text number left begun is =
    subst (λ bytes. IsAnswer input bytes Done) (append-nil text)
    (begun [] Done (subst (λ ls. IsAnswerFrom number ls [] Done) (sym is) (refl, refl)))

-- Whole inputs by their spelling.
use Rattle.std.proofs.Common.{◌≡◌, ◌≢◌, ◌↔◌, ℕ, ◌+◌, ◌<◌, Bool, true, false, cond, eqb, Option, Some, None, List}
use Rattle.std.proofs.Common.{[], ◌∷◌, ◌++◌, length, refl, sym, subst, ap, ◌∙◌, append_assoc, add-zero, arith}
use Rattle.std.specs.Prelude.{codes}
use Rattle.std.specs.List.{slice_split, onto_first, list_any}
use Rattle.std.proofs.lemmas.Bool.{ne_eqb}
use Rattle.std.proofs.lemmas.List.{append-nil}
use Rattle.typer_answers.specs.declared.answer.Outcome.{Outcome}
use Rattle.typer_answers.specs.declared.request.Request.{Request}
use Rattle.typer_answers.specs.Answers.{IsAnswer, IsAnswerFrom, IsLineAnswer, bad_line, reply_text}
use Rattle.typer_answers.specs.Laws.{AreReplyLines, AreWritable, BadLinesEndAnswers, LastLinesMayLackEnds}
use Rattle.typer_answers.specs.Laws.{RequestsAreAnswered, request_lines}
use Rattle.typer_answers.specs.Lines.{lines_of, without_empty_last}
use Rattle.typer_answers.specs.Requests.{IsWritableRequest, request_of, request_text}
use Rattle.typer_answers.proofs.LineSteps.{has_piece, retained}
use Rattle.typer_answers.proofs.RequestSpellings.{request_is, request_line, request_named}
use Rattle.shader_type_text.proofs.Separators.{is_end, split_front}

-- the first line of a text
first_line : (line rest : List ℕ) → list_any is_end line ≡ false → lines_of (line ++ 10 ∷ rest) ≡ line ∷ lines_of rest
first_line line rest none =
    ap without_empty_last (split_front 10 line rest none refl) ∙ retained line (slice_split is_end rest) (has_piece is_end rest)

-- the request of a line, and the answer to lines that begin with it
module _ (number : ℕ) (text : List ℕ) (outcome : Outcome) where
  line_answers : (line rest : List ℕ) (built : Option Request) → list_any is_end line ≡ false → request_of line ≡ built →
      IsAnswerFrom number (lines_of (line ++ 10 ∷ rest)) text outcome
      ↔ IsLineAnswer number built (IsAnswerFrom (number + 1) (lines_of rest)) text outcome
  line_answers line rest built none is =
      let lines : lines_of (line ++ 10 ∷ rest) ≡ line ∷ lines_of rest = first_line line rest none in
      let IsLine : Option Request → Type 0 = λ m. IsLineAnswer number m (IsAnswerFrom (number + 1) (lines_of rest)) text outcome in (
        λ h. subst IsLine is (subst (λ ls. IsAnswerFrom number ls text outcome) lines h),
        λ h. subst (λ ls. IsAnswerFrom number ls text outcome) (sym lines) (subst IsLine (sym is) h),
      )

  -- the answer to a request and to the rest
  request_answers : (request : Request) (rest : List ℕ) → IsWritableRequest request →
      IsAnswerFrom number (lines_of (request_text request ++ 10 ∷ rest)) text outcome
      ↔ IsLineAnswer number (Some request) (IsAnswerFrom (number + 1) (lines_of rest)) text outcome
  request_answers request rest writable = line_answers (request_text request) rest (Some request) (request_line request writable)
      (request_named request writable)

joined_line : (a b : List ℕ) → (a ++ 10 ∷ []) ++ b ≡ a ++ 10 ∷ b
joined_line a b = append_assoc a (10 ∷ []) b

-- replies to the requests, and the answer to the rest
abbrev AreReplied : ℕ → List Request → List ℕ → List ℕ → Outcome → Type 0
AreReplied number requests rest text outcome =
    (replies : List ℕ) × (later : List ℕ) × AreReplyLines requests replies ×
    IsAnswerFrom (number + length requests) (lines_of rest) later outcome × (text ≡ replies ++ later)

requests_first : (request : Request) (requests : List Request) (rest : List ℕ) →
    request_lines (request ∷ requests) ++ rest ≡ request_text request ++ 10 ∷ (request_lines requests ++ rest)
requests_first request requests rest =
    append_assoc (request_text request ++ 10 ∷ []) (request_lines requests) rest
    ∙ joined_line (request_text request) (request_lines requests ++ rest)

count_more : (number : ℕ) (request : Request) (requests : List Request) →
    number + 1 + length requests ≡ number + length (request ∷ requests)
count_more number request requests = omega arith

requests_to : (number : ℕ) (requests : List Request) (rest text : List ℕ) (outcome : Outcome) → AreWritable requests →
    IsAnswerFrom number (lines_of (request_lines requests ++ rest)) text outcome → AreReplied number requests rest text outcome
requests_to number [] rest text outcome writable h =
    ([], text, refl, subst (λ n. IsAnswerFrom n (lines_of rest) text outcome) (sym (add-zero number)) h, refl)
requests_to number (request ∷ requests) rest text outcome writable h =
    let first = (request_answers number text outcome request (request_lines requests ++ rest) writable.0).0
    (subst (λ bytes. IsAnswerFrom number (lines_of bytes) text outcome) (requests_first request requests rest) h) in
    let others = requests_to (number + 1) requests rest first.1 outcome writable.1 first.3 in (
      reply_text first.0 ++ codes "\n" ++ others.0,
      others.1,
      (first.0, others.0, first.2, others.2, refl),
      subst (λ n. IsAnswerFrom n (lines_of rest) others.1 outcome) (count_more number request requests) others.3,
      first.4 ∙ ap (λ (bytes : List ℕ). reply_text first.0 ++ codes "\n" ++ bytes) others.4
          ∙ sym (append_assoc (reply_text first.0 ++ codes "\n") others.0 others.1),
    )

requests_from : (number : ℕ) (requests : List Request) (rest text : List ℕ) (outcome : Outcome) → AreWritable requests →
    AreReplied number requests rest text outcome → IsAnswerFrom number (lines_of (request_lines requests ++ rest)) text outcome
requests_from number [] rest text outcome writable h =
    subst (λ bytes. IsAnswerFrom number (lines_of rest) bytes outcome) (sym (h.4 ∙ ap (λ (bytes : List ℕ). bytes ++ h.1) h.2))
    (subst (λ n. IsAnswerFrom n (lines_of rest) h.1 outcome) (add-zero number) h.3)
requests_from number (request ∷ requests) rest text outcome writable h =
    let replies = h.2 in
    let later : List ℕ = replies.1 ++ h.1 in
    let others = requests_from (number + 1) requests rest later outcome writable.1 (
      replies.1,
      h.1,
      replies.3,
      subst (λ n. IsAnswerFrom n (lines_of rest) h.1 outcome)
          (sym (count_more number request requests)) h.3,
      refl,
    ) in
    let is : text ≡ reply_text replies.0 ++ codes "\n" ++ later =
    h.4 ∙ ap (λ (bytes : List ℕ). bytes ++ h.1) replies.4 ∙ append_assoc (reply_text replies.0 ++ codes "\n") replies.1 h.1 in
    subst (λ bytes. IsAnswerFrom number (lines_of bytes) text outcome) (sym (requests_first request requests rest))
    ((request_answers number text outcome request (request_lines requests ++ rest) writable.0).1 (replies.0, later, replies.2, others, is))

pub requests_are_answered : RequestsAreAnswered
requests_are_answered requests text outcome writable =
    let whole : request_lines requests ++ [] ≡ request_lines requests = append-nil (request_lines requests) in (
      λ h.
          let r = requests_to 1 requests [] text outcome writable (subst (λ bytes. IsAnswer bytes text outcome) (sym whole) h) in
          let is : r.0 ≡ text = sym (append-nil r.0) ∙ ap (λ (bytes : List ℕ). r.0 ++ bytes) (sym r.3.0) ∙ sym r.4 in
          (subst (AreReplyLines requests) is r.2, r.3.1),
      λ h. subst (λ bytes. IsAnswer bytes text outcome) whole
          (requests_from 1 requests [] text outcome writable (text, [], h.0, (refl, h.1), sym (append-nil text))),
    )

no_request : (bad : List ℕ) (built : Option Request) → request_of bad ≡ built
    → ((request : Request) → IsWritableRequest request → bad ≢ request_text request) → request_of bad ≡ None
no_request bad None is none = is
no_request bad (Some request) is none =
    let h = request_is bad request is in absurd (none request h.1 h.0)

pub bad_lines_end_answers : BadLinesEndAnswers
bad_lines_end_answers requests bad rest writable ended none text outcome =
    let count : 1 + length requests ≡ length requests + 1 = omega arith in
    let ends = λ (later : List ℕ). line_answers (1 + length requests) later outcome bad rest None ended
    (no_request bad (request_of bad) refl none) in (
      λ h.
          let r = requests_to 1 requests (bad ++ 10 ∷ rest) text outcome writable h in
          let bad_end = (ends r.1).0 r.3 in
          (r.0, r.2, r.4 ∙ ap (λ (bytes : List ℕ). r.0 ++ bytes) (bad_end.0 ∙ ap bad_line count), bad_end.1),
      λ h. requests_from 1 requests (bad ++ 10 ∷ rest) text outcome writable
          (h.0, bad_line (length requests + 1), h.1, (ends (bad_line (length requests + 1))).1 (ap bad_line (sym count), h.3), h.2),
    )

-- ---- the last line

-- there are pieces, and the last one isn't empty
abbrev EndsFull : List (List ℕ) → Type 0
EndsFull [] = ⊥
EndsFull (piece ∷ []) = 0 < length piece
EndsFull (piece ∷ next ∷ more) = EndsFull (next ∷ more)

full_onto : (b : Bool) (x : ℕ) (pieces : List (List ℕ)) → EndsFull pieces → EndsFull (cond b ([] ∷ pieces) (onto_first x pieces))
full_onto b x [] full = absurd full
full_onto true x (piece ∷ more) full = full
full_onto false x (piece ∷ []) full = omega arith
full_onto false x (piece ∷ next ∷ more) full = full

ends_full : (text : List ℕ) (last : ℕ) → eqb last 10 ≡ false → EndsFull (slice_split is_end (text ++ last ∷ []))
ends_full [] last other = rw other (omega arith)
ends_full (x ∷ text) last other = full_onto (is_end x) x (slice_split is_end (text ++ last ∷ [])) (ends_full text last other)

full_retained : (pieces : List (List ℕ)) → EndsFull pieces → without_empty_last pieces ≡ pieces
full_retained [] full = absurd full
full_retained (piece ∷ []) full =
    let some : eqb (length piece) 0 ≡ false = ne_eqb (length piece) 0 (λ e. omega (arith, e)) in rw some refl
full_retained (piece ∷ next ∷ more) full = ap (λ (ps : List (List ℕ)). piece ∷ ps) (full_retained (next ∷ more) full)

without_more : (pieces : List (List ℕ)) → without_empty_last (pieces ++ [] ∷ []) ≡ pieces
without_more [] = refl
without_more (piece ∷ []) = refl
without_more (piece ∷ next ∷ more) = ap (λ (ps : List (List ℕ)). piece ∷ ps) (without_more (next ∷ more))

piece_onto : (b : Bool) (x : ℕ) (pieces longer : List (List ℕ)) → EndsFull pieces → longer ≡ pieces ++ [] ∷ []
    → cond b ([] ∷ longer) (onto_first x longer) ≡ cond b ([] ∷ pieces) (onto_first x pieces) ++ [] ∷ []
piece_onto b x [] longer full is = absurd full
piece_onto true x (piece ∷ more) longer full is = ap (λ (ps : List (List ℕ)). [] ∷ ps) is
piece_onto false x (piece ∷ more) longer full is = ap (onto_first x) is

one_piece_more : (text : List ℕ) (last : ℕ) → eqb last 10 ≡ false
    → slice_split is_end (text ++ last ∷ 10 ∷ []) ≡ slice_split is_end (text ++ last ∷ []) ++ [] ∷ []
one_piece_more [] last other = rw other refl
one_piece_more (x ∷ text) last other =
    piece_onto (is_end x) x (slice_split is_end (text ++ last ∷ [])) (slice_split is_end (text ++ last ∷ 10 ∷ []))
    (ends_full text last other) (one_piece_more text last other)

pub last_lines_may_lack_ends : LastLinesMayLackEnds
last_lines_may_lack_ends input last different text outcome =
    let other : eqb last 10 ≡ false = ne_eqb last 10 different in
    let pieces = slice_split is_end (input ++ last ∷ []) in
    let same : lines_of (input ++ last ∷ []) ≡ lines_of (input ++ last ∷ 10 ∷ []) =
    full_retained pieces (ends_full input last other) ∙ sym (without_more pieces)
    ∙ sym (ap without_empty_last (one_piece_more input last other)) in
    (subst (λ lines. IsAnswerFrom 1 lines text outcome) same, subst (λ lines. IsAnswerFrom 1 lines text outcome) (sym same))

use Rattle.std.proofs.Common.{◌≡◌, ◌∙◌, ◌++◌, ap, rules, ℕ, List, []}
use Rattle.json.specs.Print.{print}
use Rattle.json.specs.Token.{Token}
use Rattle.report_json.proofs.LineLemmas.{line_written}
use Rattle.report_json.proofs.WritingLemmas.{adds_then, writes_last, writes_then}
use Rattle.report_json.specs.Tokens.{object}
use Rattle.report_input.specs.Errors.{error_members, place_tokens}
use Rattle.report_input.proofs.errors.answer.Goals as goal

pub returns : goal.returns
returns g c =
    let place = place_tokens c.args.error.kind.now (g.T.WriteJson.tokens c.args.error.location.now) c.args.error.wanted.now in
    let members = error_members c.args.diagnostic place in
    let adds = writes_then c.in_ok-begin_object.ensures (adds_then c.in_ok-write_answer.ensures (writes_last c.in_ok-end_object.ensures)) in
    let written = adds.added ∙ ap (λ (old : List Token). old ++ object members) c.new-writer.ensures.tokens in
    let empty : c.new-writer.result.before ≡ [] = search rules in
    let bytes = c.into_inner-text.ensures.items
    ∙ ap (λ (before : List ℕ). before ++ print c.end_object.new.self.tokens) (adds.before ∙ empty) in
    line_written members c.end_object.new.self.tokens c.into_inner-text.result.items c.push.new.self.items written
    c.into_inner-text.ensures.reads_back c.into_inner-text.ensures.utf8 bytes c.in_ok-push.ensures.items

use Rattle.std.proofs.Common.{sym}
use Rattle.report_json.proofs.FormLemmas.{of_form}
use Rattle.report_places.specs.Sites.{place_of_body}
use Rattle.report_answers.specs.Verdicts.{refused_tokens, verdict_tokens}
use Rattle.report_answers.proofs.verdict.FlowVerdictWriteJson.write_json.Goals as goal

pub returns-in-None : goal.returns-in-None
unfolding verdict_tokens
returns-in-None c = of_form _ _ _ verdict_tokens c.args.self.now.0 _ c.in-None.is c.write_object.ensures

pub returns-in-Some : goal.returns-in-Some
unfolding verdict_tokens
returns-in-Some c =
    let same = sym c.place_of_body-place.ensures in
    let shown = of_form _ _ _ refused_tokens (place_of_body c.in-Some.location) _ same c.write_object-in-Some.ensures in
    of_form _ _ _ verdict_tokens c.args.self.now.0 _ c.in-Some.is shown

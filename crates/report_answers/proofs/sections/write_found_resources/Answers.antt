use Rattle.std.proofs.lemmas.Result.{on_ok_weaker}
use Rattle.report_json.proofs.WritingLemmas.{writes_then}
use Rattle.report_answers.proofs.sections.write_found_resources.Goals as goal

pub returns : goal.returns
returns c =
    on_ok_weaker c.write_resources.result (λ found. (found.0, found.1, writes_then c.in_ok-key.ensures found.2)) c.write_resources.ensures

use Rattle.std.proofs.Common.{◌++◌, refl}
use Rattle.std.proofs.lemmas.Result.{on_ok_weaker}
use Rattle.report_json.proofs.WritingLemmas.{adds_then}
use Rattle.report_answers.specs.Sections.{bounds_members}
use Rattle.report_answers.proofs.sections.write_sections.Goals as goal

pub returns : goal.returns
returns c =
    let bounds = c.in_ok-write_bounds.ensures in
    on_ok_weaker c.write_asked_resources.result (λ more. (
      bounds_members bounds.0 ++ more.0,
      λ j root. record {
        bounds = bounds.0;
        bounds_asked = bounds.1;
        resources = more.0;
        resources_asked = more.1 j root;
        written = refl;
      },
      adds_then bounds.2 more.2,
    )) c.write_asked_resources.ensures

use Rattle.std.proofs.Common.{ℕ, List, rules, string_bytes, subst, ◌≡◌}
use Rattle.std.proofs.lemmas.Result.{IfOk-weaker}
use Rattle.report_model.specs.Analyzed.{info_of}
use Rattle.report_summary.specs.Summaries.{IsSummaryText}
use Rattle.report_answers.proofs.reports.Report.lines_on.Goals as goal

pub returns : goal.returns
returns c =
    let m = c.args.module.now in
    let all = c.args.options.shows_all in
    let found = info_of c.args.analyzed.now in
    let groups = c.as_slice-2.result.now in
    let bindings = c.as_slice-bindings.result.now in
    let same : c.as_slice.result.now ≡ c.in_ok-reasons.reasons.items = search rules in
    IfOk-weaker c.summary_text.result _ _ (λ text is. λ j root. record {
      sections = string_bytes c.in_ok-sections.sections;
      lines = c.in_ok-sections.ensures j root;
      bindings = bindings;
      groups = groups;
      reasons = c.in_ok-reasons.reasons.items;
      reasons_asked = c.in_ok-reasons.ensures;
      is = subst (λ (reasons : List (List ℕ)). IsSummaryText m groups reasons all found bindings
          (string_bytes c.in_ok-sections.sections) (string_bytes text)) same
          (subst (λ (lines : List ℕ). IsSummaryText m groups c.as_slice.result.now all found bindings lines (string_bytes text))
          c.as_str.ensures.value is);
    }) c.summary_text.ensures

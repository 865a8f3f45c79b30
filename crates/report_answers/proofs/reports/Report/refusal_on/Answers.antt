use Rattle.std.proofs.Common.{◌≡◌, ℕ, List, rules, string_bytes, subst}
use Rattle.std.proofs.lemmas.Result.{IfOk-weaker}
use Rattle.report_blocks.specs.Refusals.{IsRefusalText}
use Rattle.report_blocks.specs.declared.detail.Detail.{Detail}
use Rattle.report_diagnostics.specs.declared.diagnostic.Diagnostic.{Diagnostic}
use Rattle.report_answers.proofs.reports.Report.refusal_on.Goals as goal

pub returns : goal.returns
returns c =
    let m = c.args.module.now in
    let same : c.deref.result.now ≡ c.in_ok-diagnostics.diagnostics.items = search rules in
    let sections = string_bytes c.in_ok-sections.sections in
    IfOk-weaker c.refusal_text.result _ _ (λ text is. λ j root. record {
      faults = c.in_ok-faults.faults.items;
      faults_are = c.in_ok-faults.ensures.diagnostics;
      diagnostics = c.in_ok-diagnostics.diagnostics.items;
      located = c.in_ok-diagnostics.ensures;
      sections = sections;
      lines = c.in_ok-sections.ensures j root;
      is = subst (λ (detail : Detail). IsRefusalText m c.in_ok-diagnostics.diagnostics.items detail sections (string_bytes text))
          c.block_detail-detail.ensures (subst (λ (found : List Diagnostic). IsRefusalText m found c.block_detail-detail.result sections (string_bytes text)) same
          (subst (λ (lines : List ℕ). IsRefusalText m c.deref.result.now c.block_detail-detail.result lines (string_bytes text))
          c.as_str.ensures.value is));
    }) c.refusal_text.ensures

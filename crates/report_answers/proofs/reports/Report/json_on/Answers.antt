use Rattle.std.proofs.Common.{◌≡◌, ◌∙◌, ap, List, Option, rules, subst}
use Rattle.report_diagnostics.specs.Heads.{head_members}
use Rattle.report_diagnostics.specs.declared.diagnostic.Diagnostic.{Diagnostic}
use Rattle.report_diagnostics.specs.declared.head.Verdict.{Verdict}
use Rattle.report_model.specs.Analyzed.{is_accepted}
use Rattle.report_json.proofs.WritingLemmas.{adds_then, writes_last, writes_then}
use Rattle.report_json.specs.Tokens.{Adds}
use Rattle.shader_uniformity.specs.declared.divergence.Uniformity.{Uniformity}
use Rattle.report_answers.specs.Verdicts.{verdict_members}
use Rattle.report_answers.specs.Reports.{word_of}
use Rattle.report_answers.proofs.ReportLemmas.{object_written}
use Rattle.report_answers.proofs.reports.Report.json_on.Goals as goal

pub returns : goal.returns
returns c = λ j root.
    let diagnosed = c.in_ok-faults.ensures.diagnostics in
    let word = c.verdict_of-verdict.ensures ∙ ap word_of c.is_accepted.ensures in
    let same : c.deref.result.now ≡ c.in_ok-diagnostics.diagnostics.items = search rules in
    let told = subst (λ (verdict : Verdict). Adds c.begin_object.new.self c.write_head.new.writer
    (head_members verdict c.deref.result.now)) word c.in_ok-write_head.ensures in
    let head = subst (λ (all : List Diagnostic). Adds c.begin_object.new.self c.write_head.new.writer
    (head_members (word_of (is_accepted c.args.analyzed.now)) all)) same told in
    let verdict = subst (λ (found : Option Uniformity). Adds c.write_head.new.writer c.write_verdict.new.writer (verdict_members found))
    c.uniformity.ensures c.in_ok-write_verdict.ensures in
    let found = c.in_ok-write_module.ensures in
    let sections = c.in_ok-write_sections.ensures in
    let adds = writes_then c.in_ok-begin_object.ensures (adds_then head (adds_then verdict (adds_then found.2
    (adds_then sections.2 (writes_last c.in_ok-end_object.ensures))))) in
    object_written c.args.options c.args.input.now j c.args.module.now c.args.analyzed.now c.new-writer.result c.end_object.new.self c.into_inner-text.result.items
    c.push.new.self.items _ _ found.0 sections.0 (search rules) c.new-writer.ensures.tokens diagnosed c.in_ok-diagnostics.ensures found.1 (sections.1 j root) adds
    c.into_inner-text.ensures.items c.into_inner-text.ensures.reads_back c.into_inner-text.ensures.utf8 c.in_ok-push.ensures.items

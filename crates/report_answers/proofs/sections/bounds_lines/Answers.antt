use Rattle.std.proofs.Common.{Option, string_bytes, subst}
use Rattle.std.proofs.lemmas.Result.{IfOk-weaker}
use Rattle.shader_bounds.specs.declared.policies.BoundsCheckPolicies.{BoundsCheckPolicies}
use Rattle.report_answers.specs.Sections.{IsTextOfBounds}
use Rattle.report_answers.proofs.sections.bounds_lines.Goals as goal

pub returns : goal.returns
returns c =
    let m = c.args.module.now in
    let found = c.in_ok-found.found in
    IfOk-weaker c.found_bounds.result _ _ (λ text is. record {
      found = found;
      asked = c.in_ok-found.ensures;
      printed = subst (λ (policies : Option BoundsCheckPolicies). IsTextOfBounds policies found m (string_bytes text)) c.bounds.ensures is;
    }) c.found_bounds.ensures

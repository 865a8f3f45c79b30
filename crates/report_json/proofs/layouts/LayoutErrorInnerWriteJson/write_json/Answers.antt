use Rattle.report_json.specs.Layouts.{layout_cause_tokens}
use Rattle.report_json.proofs.FormLemmas.{of_form}
use Rattle.report_json.proofs.layouts.LayoutErrorInnerWriteJson.write_json.Goals as goal

pub returns-in-InvalidArrayElementType : goal.returns-in-InvalidArrayElementType
unfolding layout_cause_tokens
returns-in-InvalidArrayElementType c = of_form _ _ _ layout_cause_tokens c.args.self.now _ c.in-InvalidArrayElementType.is c.write_variant.ensures

pub returns-in-InvalidStructMemberType : goal.returns-in-InvalidStructMemberType
unfolding layout_cause_tokens
returns-in-InvalidStructMemberType c = of_form _ _ _ layout_cause_tokens c.args.self.now _ c.in-InvalidStructMemberType.is c.write_variant-in-InvalidStructMemberType.ensures

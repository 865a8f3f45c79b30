use Rattle.report_json.proofs.FormLemmas.{of_form}
use Rattle.shader_report_json.specs.Answers.{layouts_members}
use Rattle.shader_report_json.proofs.answer.write_layouts.Goals as goal

pub returns-in-Some : goal.returns-in-Some
returns-in-Some c = of_form _ _ _ (layouts_members c.args.layouter.now) c.args.error _ c.in-Some.is c.write_members.ensures

use Rattle.report_json.specs.Layouts.{layout_tokens}
use Rattle.report_json.proofs.layouts.TypeLayoutWriteJson.write_json.Goals as goal

pub returns : goal.returns
unfolding layout_tokens
returns c = c.write_object.ensures

use Rattle.std.proofs.lemmas.Str.Ascii.{trim_ascii_start_is}
use Rattle.report_input.proofs.forms.Form.of.Goals as goal

pub returns : goal.returns
returns c =
    let start = trim_ascii_start_is c.args.text.now c.trim_ascii_start.result.now c.trim_ascii_start.ensures.value in
    let rest = c.rest_of-rest.ensures in
    let form = c.form_of.ensures in
    cc

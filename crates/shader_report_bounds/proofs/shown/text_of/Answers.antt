use Rattle.std.proofs.Common.{refl}
use Rattle.shader_report_bounds.proofs.shown.text_of.Goals as goal

pub returns : goal.returns
returns c = record {
  source = c.args.source.now;
  of_module = refl;
  of_function = refl;
  place = c.requires;
  is = c.in_ok-marked.ensures.line;
}

use Rattle.std.proofs.Common.{◌∙◌, ap, sym, option_and_then}
use Rattle.std.specs.Option.{option_copied}
use Rattle.report_places.specs.Paths.{way_to}
use Rattle.report_places.specs.declared.paths.Wanted.TheVariants.{At}
use Rattle.report_places.proofs.sites.outline_at.Goals as goal

pub returns-in-None : goal.returns-in-None
returns-in-None c = λ p.
    c.empty.ensures p
    ∙ ap (option_and_then (λ function. way_to (At p) function.body)) (sym (ap option_copied c.in-None.is) ∙ c.function_of.ensures)

use Rattle.std.proofs.Common.{sym, ap, ◌∙◌}
use Rattle.shader_passes.specs.Facts.{needs_at}
use Rattle.shader_passes.proofs.RecordLemmas.{needs_found}
use Rattle.shader_passes.proofs.facts.Facts.requirements_of.Goals as goal

pub returns : goal.returns
returns c = c.requirements_in.ensures ∙ (sym (needs_found c.self.inside.records.now c.self.inside.roots.now c.args.expression c.self.invariant)
    ∙ ap (λ v. needs_at v c.args.expression) c.self.view_is)

use Rattle.std.proofs.Common.{sym, ap, ◌∙◌}
use Rattle.shader_passes.specs.Facts.{root_at}
use Rattle.shader_passes.proofs.RecordLemmas.{root_found}
use Rattle.shader_passes.proofs.facts.Facts.root_of.Goals as goal

pub returns : goal.returns
returns c = c.root_in.ensures ∙ (sym (root_found c.self.inside.records.now c.self.inside.roots.now c.args.expression c.self.invariant)
    ∙ ap (λ v. root_at v c.args.expression) c.self.view_is)

use Rattle.std.proofs.Common.{sym, ap, ◌∙◌}
use Rattle.shader_passes.specs.Facts.{origin_at}
use Rattle.shader_passes.proofs.RecordLemmas.{origin_found}
use Rattle.shader_passes.proofs.facts.Facts.origin_of.Goals as goal

pub returns : goal.returns
returns c = c.origin_in.ensures ∙ (sym (origin_found c.self.inside.records.now c.self.inside.roots.now c.args.expression c.self.invariant)
    ∙ ap (λ v. origin_at v c.args.expression) c.self.view_is)

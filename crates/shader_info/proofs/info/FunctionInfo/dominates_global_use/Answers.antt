use Rattle.std.proofs.Common.{◌≡◌, sym, ◌∙◌}
use Rattle.std.specs.List.{list_all, zip}
use Rattle.shader_info.specs.Uses.{includes}
use Rattle.shader_info.proofs.DominatesLemmas.{dominates_to, of_dominates}
use Rattle.shader_info.proofs.info.FunctionInfo.dominates_global_use.Goals as goal

pub returns : goal.returns
returns c =
    let mine = c.args.self.now.global_uses in
    let theirs = c.args.other.now.global_uses in
    let is : c.dominates.result ≡ list_all (λ pair. includes pair.0 pair.1) (zip mine theirs) = cc in
    (λ h. dominates_to mine theirs (sym is ∙ h), λ h. is ∙ of_dominates mine theirs h)

use Rattle.std.proofs.Common.{◌∙◌}
use Rattle.shader_uniformity_needs.proofs.FollowLemmas.{followers}
use Rattle.shader_uniformity_needs.proofs.followers.followers.Goals as goal

pub returns : goal.returns
returns c =
    followers c.args.rules.items c.args.firsts.now c.deref.result.now c.in_ok-table.table.items
    (c.deref.ensures.value ∙ c.in_ok-add_firsts.ensures) c.in_ok-table.ensures

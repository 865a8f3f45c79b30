use Rattle.std.proofs.Common.{◌≡◌, ◌∙◌, ◌++◌, ap}
use Rattle.std.specs.List.{flat_map}
use Rattle.shader_overloads.specs.Combinations.{pair_combinations}
use Rattle.shader_overloads.specs.ListForms.{rows}
use Rattle.shader_overloads.proofs.CombinationLemmas.{over_pairs}
use Rattle.shader_overloads.proofs.list_forms.by_size.Goals as goal

pub loop-size-init : goal.loop-size-init
loop-size-init c =
    let given : c.into_iter-size-iterator.result ≡ pair_combinations c.args.sizes.now c.args.scalars.now = cc in
    ap (λ rules. rules ++ flat_map (λ pair. rows c.args.form pair.0 pair.1) c.into_iter-size-iterator.result) c.in_ok-rules.ensures.items
    ∙ ap (flat_map (λ pair. rows c.args.form pair.0 pair.1)) given
    ∙ over_pairs (rows c.args.form) c.args.sizes.now c.args.scalars.now

use Rattle.std.proofs.Common.{◌≡◌, ◌∙◌, ◌++◌, ap}
use Rattle.std.specs.List.{flat_map}
use Rattle.shader_overloads.specs.Combinations.{pair_combinations}
use Rattle.shader_overloads.specs.ListForms.{rows}
use Rattle.shader_overloads.proofs.CombinationLemmas.{over_pairs}
use Rattle.shader_overloads.proofs.list_forms.by_scalar.Goals as goal

pub loop-scalar-init : goal.loop-scalar-init
loop-scalar-init c =
    let given : c.into_iter-scalar-iterator.result ≡ pair_combinations c.args.scalars.now c.args.sizes.now = cc in
    ap (λ rules. rules ++ flat_map (λ pair. rows c.args.form pair.1 pair.0) c.into_iter-scalar-iterator.result) c.in_ok-rules.ensures.items
    ∙ ap (flat_map (λ pair. rows c.args.form pair.1 pair.0)) given
    ∙ over_pairs (λ scalar size. rows c.args.form size scalar) c.args.scalars.now c.args.sizes.now

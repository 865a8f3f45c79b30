use Rattle.std.proofs.Common.{◌∙◌, ◌≤◌, ◌++◌, sym, ap, arith, length, List, Option}
use Rattle.std.proofs.lemmas.Bool.Decides.{nat_tests}
use Rattle.std.proofs.lemmas.List.{append-nil}
use Rattle.std.proofs.lemmas.Option.{slice_get_past}
use Rattle.shader_uniformity.specs.declared.facts.Rule.{Rule}
use Rattle.shader_uniformity_causes.specs.Origins.{origins_in}
use Rattle.shader_uniformity_causes.proofs.origins.add_origins.Goals as goal

pub returns-in-None : goal.returns-in-None
returns-in-None c =
    let site = c.args.site.now in
    let old = c.args.origins.now.items in
    let callees = c.args.scope.now.callees.now in
    let lookup = c.in-None.ensures.lookup in
    let position = c.index.ensures.position in
    let past : length callees ≤ c.args.function = grind (arith, nat_tests, lookup, position) in
    sym (append-nil old)
    ∙ ap (λ (v : Option (List Rule)). old ++ origins_in site.places.now site.position site.around site.arguments.now site.result
    c.args.scope.now.rule.now c.args.function v) (sym (slice_get_past callees c.args.function past))

use Rattle.std.proofs.Common.{ap, length, arith}
use Rattle.std.proofs.lemmas.List.{length-take}
use Rattle.shader_typifier.proofs.typifier.Typifier.invalidate.Goals as goal

pub returns-clause-typed : goal.returns-clause-typed
returns-clause-typed c e x t le at has =
    let few = length-take c.index.result c.self.inside.resolutions.items in
    c.grow.ensures.typed e x t (omega (arith, le, few, c.index.ensures.position, ap length c.truncate.ensures.items)) at has

use Rattle.std.proofs.Common.{◌≡◌, ◌↔◌, sym, subst}
use Rattle.std.specs.List.{enumerate_from}
use Rattle.shader_bounds.specs.Lengths.{AreSizesKnown}
use Rattle.shader_bounds.proofs.KnownLemmas.{AreKnown, known_listed}
use Rattle.shader_bounds.proofs.lengths.sizes_known.Goals as goal

pub loop-ty-init : goal.loop-ty-init
loop-ty-init c =
    let checked = c.args.module.now in
    let whole : c.into_iter-ty-iterator.result ≡ enumerate_from 0 checked.types = cc in
    (tt, tt, subst (λ entries. AreKnown checked entries ↔ AreSizesKnown checked) (sym whole) (known_listed checked 0 checked.types))

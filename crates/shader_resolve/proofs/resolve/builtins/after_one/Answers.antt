use Rattle.shader_overloads.proofs.NarrowLemmas.{fewer_fit}
use Rattle.shader_resolve.proofs.resolve.builtins.after_one.Goals as goal

pub arg-requires-clause-fits : goal.arg-requires-clause-fits
arg-requires-clause-fits c = c.in_ok-all.ensures.fits c.args.types.now

pub returns-clause-fits : goal.returns-clause-fits
returns-clause-fits c = fewer_fit c.args.types.now _ _ _ c.in_ok-left.ensures.rules (c.in_ok-all.ensures.fits c.args.types.now)

use Rattle.bench.proofs.calls.supply.Goals as goal

pub loop-i-init : goal.loop-i-init
loop-i-init c = c.in_ok-left.ensures.fits c.args.types.now

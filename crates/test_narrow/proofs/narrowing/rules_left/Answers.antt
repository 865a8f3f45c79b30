use Rattle.test_narrow.proofs.narrowing.rules_left.Goals as goal

pub narrow-requires-clause-rules_fit : goal.narrow-requires-clause-rules_fit
narrow-requires-clause-rules_fit c = c.in_ok-set.ensures.fits c.args.types.now

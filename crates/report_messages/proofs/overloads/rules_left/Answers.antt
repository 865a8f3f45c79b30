use Rattle.report_messages.proofs.overloads.rules_left.Goals as goal

pub arg-requires-clause-fits : goal.arg-requires-clause-fits
arg-requires-clause-fits c = c.in_ok-all.ensures.fits c.args.«module».now.types

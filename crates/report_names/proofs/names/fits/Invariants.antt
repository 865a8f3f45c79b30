use Rattle.std.proofs.Common.{◌≡◌, drop}
use Rattle.report_names.specs.Names.{fits}
use Rattle.report_names.proofs.names.fits.Given as goal

abbrev pub invariant-loop-character : goal.invariant-loop-character
invariant-loop-character l = fits l.room (drop l.character-index l.characters) ≡ fits l.columns l.characters

-- Tests over lists that are mapped.
use Rattle.std.proofs.lemmas.List.Folds.{list_all-map}

pub ruleset mapped = (list_all-map)

-- Folds over one list after another.
use Rattle.std.proofs.lemmas.List.Sums.{fold-append}
use Rattle.shader_arena.proofs.PositionsLemmas.{items_of-enumerate_from}

pub ruleset folds = (fold-append, items_of-enumerate_from)

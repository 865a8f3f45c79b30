-- Facts of all items, and of the item at each position.
use Rattle.std.proofs.Common.{List, All, get_or}
use Rattle.std.proofs.lemmas.Option.{slice_get-get_or}
use Rattle.shader_resolve.specs.WellFormed.{AtEach}
use Rattle.shader_resolve.proofs.KeyLemmas.{at_position}

pub all-positions : {T : Type 0} (P : T → Type 0) (items : List T) → AtEach (λ position item. P item) items → All P items
all-positions P items each k d lt = each k (get_or items k d) (slice_get-get_or items k d lt)

pub each-position : {T : Type 0} (P : T → Type 0) (items : List T) → All P items → AtEach (λ position item. P item) items
each-position P items all position item is = at_position P items position item all is

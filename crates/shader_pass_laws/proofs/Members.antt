-- Properties of all members of a list.
use Rattle.std.proofs.Common.{List, All}
use Rattle.std.specs.List.{Contains, flat_map}
use Rattle.std.proofs.lemmas.List.Elements.{All-contains, All-contains_itself, All-weaker}
use Rattle.shader_analysis_spec.proofs.ListLemmas.{in_flat}

-- a property of each member holds of all
pub all_members : {X : Type 0} (P : X → Type 0) (xs : List X) → ((x : X) → Contains xs x → P x) → All P xs
all_members P xs each = All-weaker (Contains xs) P each xs (All-contains_itself xs)

pub all_flat : {X Y : Type 0} (P : Y → Type 0) (g : X → List Y) (xs : List X) → ((x : X) → Contains xs x → All P (g x)) →
    All P (flat_map g xs)
all_flat P g xs each = all_members P (flat_map g xs) (λ y h. let at = in_flat g xs y h in All-contains P (g at.0) y (each at.0 at.1) at.2)

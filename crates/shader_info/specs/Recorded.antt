-- The contents of an info.
use Rattle.std.specs.Prelude.{◌≡◌, ◌↔◌, ◌<◌, ℕ, Bool, false, List, Contains, Some, slice_get, unwrap_or, IsTrue}
use Rattle.std.specs.List.Sorted.{IsStrictlyIncreasing, IsStrictlySortedBy}
use Rattle.std.specs.Option.{option_map}
use Rattle.std.specs.Ordering.{nat_cmp, ordering_then}
use Rattle.std.specs.declared.cmp.Ordering.{Ordering}
use Rattle.shader_arena.specs.Positions.{most_items}
use Rattle.shader_info.specs.declared.flags.GlobalUse.{GlobalUse}
use Rattle.shader_info.specs.declared.info.FunctionInfo.{FunctionInfo}
use Rattle.shader_info.specs.declared.info.GlobalOrArgument.{GlobalOrArgument}
use Rattle.shader_info.specs.Uses.{includes}

-- at each global variable that both lists have, the first one's uses contain the second one's
abbrev pub Dominates : List GlobalUse → List GlobalUse → Type 0
Dominates uses others = (global : ℕ) (at other : GlobalUse) → slice_get uses global ≡ Some at → slice_get others global ≡ Some other →
    IsTrue (includes at other)

-- true if the uses recorded of the global contain all of the given ones
abbrev pub is_used_for : FunctionInfo → GlobalUse → ℕ → Bool
is_used_for info uses global = unwrap_or (option_map (λ at. includes at uses) (slice_get info.global_uses global)) false

-- the recorded uses of some global contain all of the given ones
abbrev pub IsAnyUsed : FunctionInfo → GlobalUse → Type 0
IsAnyUsed info uses = (global : ℕ) × IsTrue (is_used_for info uses global)

-- the globals whose recorded uses contain all of the given ones, in ascending order
pub record AreUsed (info : FunctionInfo) (uses : GlobalUse) (globals : List ℕ) : Type 0 where
  pub ascending : IsStrictlyIncreasing globals
  pub members : (global : ℕ) → Contains globals global ↔ ((global < most_items) × IsTrue (is_used_for info uses global))

-- the pair is recorded in `sampling`
abbrev pub IsSampled : FunctionInfo → GlobalOrArgument → GlobalOrArgument → Type 0
IsSampled info image sampler = Contains info.sampling.keys (record { image = image; sampler = sampler })

-- the pair is recorded in `sampling_set`
abbrev pub IsSampledKey : FunctionInfo → ℕ → ℕ → Type 0
IsSampledKey info image sampler = Contains info.sampling_set.keys (record { image = image; sampler = sampler })

-- pairs are ordered by their images, and those of one image by their samplers
abbrev pub pair_cmp : ℕ × ℕ → ℕ × ℕ → Ordering
pair_cmp p q = ordering_then (nat_cmp p.0 q.0) (nat_cmp p.1 q.1)

-- the recorded pairs of two globals, in ascending order
pub record ArePairsOf (info : FunctionInfo) (pairs : List (ℕ × ℕ)) : Type 0 where
  pub ascending : IsStrictlySortedBy pair_cmp pairs
  pub members : (image sampler : ℕ) → Contains pairs (image, sampler) ↔ IsSampledKey info image sampler

-- both infos record the same
pub record SameInfo (info copy : FunctionInfo) : Type 0 where
  pub available_stages : copy.available_stages ≡ info.available_stages
  pub uniformity : copy.uniformity ≡ info.uniformity
  pub may_kill : copy.may_kill ≡ info.may_kill
  pub sampling_set : copy.sampling_set.keys ≡ info.sampling_set.keys
  pub global_uses : copy.global_uses ≡ info.global_uses
  pub expressions : copy.expressions ≡ info.expressions
  pub sampling : copy.sampling.keys ≡ info.sampling.keys
  pub dual_source_blending : copy.dual_source_blending ≡ info.dual_source_blending

-- Recorded pairs of functions in ascending order.
use Rattle.std.specs.Prelude.{◌↔◌, ℕ, Bool, Contains, List}
use Rattle.std.specs.List.Sorted.{IsStrictlySortedBy}
use Rattle.std.specs.Ordering.{bool_cmp, nat_cmp, ordering_then}
use Rattle.std.specs.declared.cmp.Ordering.{Ordering}
use Rattle.shader_info.specs.declared.info.FunctionInfo.{FunctionInfo}
use Rattle.shader_info.specs.declared.info.GlobalOrArgument.{GlobalOrArgument}
use Rattle.shader_info.specs.Recorded.{ArePairsOf}
use Rattle.report_json.specs.declared.functions.FunctionAnswer.{FunctionAnswer}
use Rattle.report_json.specs.Infos.{resource_key}

-- globals come before arguments
abbrev pub resource_cmp : Bool × ℕ → Bool × ℕ → Ordering
resource_cmp p q = ordering_then (bool_cmp p.0 q.0) (nat_cmp p.1 q.1)

abbrev pub sampling_cmp : (Bool × ℕ) × (Bool × ℕ) → (Bool × ℕ) × (Bool × ℕ) → Ordering
sampling_cmp p q = ordering_then (resource_cmp p.0 q.0) (resource_cmp p.1 q.1)

-- the recorded pairs with an argument, in ascending order
pub record AreSamplingsOf (info : FunctionInfo) (pairs : List ((Bool × ℕ) × (Bool × ℕ))) : Type 0 where
  pub ascending : IsStrictlySortedBy sampling_cmp pairs
  pub members : (image sampler : GlobalOrArgument) →
      Contains pairs (resource_key image, resource_key sampler)
      ↔ Contains info.sampling.keys (record { image = image; sampler = sampler })

pub record IsFunctionAnswer (answer : FunctionAnswer) : Type 0 where
  pub pairs : ArePairsOf answer.info.now answer.pairs
  pub sampling : AreSamplingsOf answer.info.now answer.sampling

-- The recorded pairs with an argument, and their order.
use Rattle.std.proofs.Common.{◌≡◌, ◌∙◌, refl, sym, ap, subst, ℕ, Bool, true, false, List, map}
use Rattle.std.specs.BTreeSet.{BTreeSet, IsFromIterResult}
use Rattle.std.specs.Cmp.{IsTotalOrder, bool_cmp_total}
use Rattle.std.specs.List.{Contains}
use Rattle.std.specs.Ordering.{bool_cmp, nat_cmp}
use Rattle.std.proofs.lemmas.Cmp.{nat_cmp_total, on_total, then_total}
use Rattle.std.proofs.lemmas.Map.Lookups.{CmpEqualImpliesEq, exact_pairs, exact_unsigned}
use Rattle.std.proofs.lemmas.Map.Views.{btree_set_contains_from_list, btree_set_contains_iff}
use Rattle.shader_analysis_spec.proofs.ListLemmas.{in_map, of_map}
use Rattle.shader_info.specs.declared.info.FunctionInfo.{FunctionInfo}
use Rattle.shader_info.specs.declared.info.GlobalOrArgument.{GlobalOrArgument}
use Rattle.shader_info.specs.declared.info.GlobalOrArgument.TheVariants as resources
use Rattle.shader_info.specs.declared.info.Sampling.{Sampling}
use Rattle.shader_report_json.specs.Sorted.{AreSamplingsOf, resource_cmp, sampling_cmp}
use Rattle.report_json.specs.Infos.{resource_key}

-- ---- orders

exact_bool : CmpEqualImpliesEq bool_cmp
exact_bool true true e = refl
exact_bool true false e = cc
exact_bool false true e = cc
exact_bool false false e = refl

resources_total : IsTotalOrder resource_cmp
resources_total = then_total (on_total (λ (p : Bool × ℕ). p.0) bool_cmp_total) (on_total (λ (p : Bool × ℕ). p.1) nat_cmp_total)

resources_exact : CmpEqualImpliesEq resource_cmp
resources_exact = exact_pairs bool_cmp nat_cmp exact_bool exact_unsigned

pub samplings_total : IsTotalOrder sampling_cmp
samplings_total =
    then_total (on_total (λ (p : (Bool × ℕ) × (Bool × ℕ)). p.0) resources_total)
    (on_total (λ (p : (Bool × ℕ) × (Bool × ℕ)). p.1) resources_total)

pub samplings_exact : CmpEqualImpliesEq sampling_cmp
samplings_exact = exact_pairs resource_cmp resource_cmp resources_exact resources_exact

-- ---- numbers of pairs

-- an item whose number leads back to it is among the keys if its number is among theirs
from_map : {K N : Type 0} (f : K → N) (g : N → K) → ((k : K) → g (f k) ≡ k) → (keys : List K) (k : K) → Contains (map f keys) (f k)
    → Contains keys k
from_map f g back keys k h =
    let r = in_map f keys (f k) h in
    subst (Contains keys) (sym (back r.0) ∙ ap g r.2 ∙ back k) r.1

abbrev pub sampling_numbers : Sampling → (Bool × ℕ) × (Bool × ℕ)
sampling_numbers pair = (resource_key pair.image, resource_key pair.sampler)

abbrev resource_of : Bool → ℕ → GlobalOrArgument
resource_of false number = resources.Global number
resource_of true number = resources.Argument number

abbrev sampling_of : (Bool × ℕ) × (Bool × ℕ) → Sampling
sampling_of pair = record { image = resource_of pair.0.0 pair.0.1; sampler = resource_of pair.1.0 pair.1.1 }

resource_back : (resource : GlobalOrArgument) → resource_of (resource_key resource).0 (resource_key resource).1 ≡ resource
resource_back (resources.Global handle) = refl
resource_back (resources.Argument index) = refl

sampling_back : (pair : Sampling) → sampling_of (sampling_numbers pair) ≡ pair
sampling_back pair = λ i. record { image = resource_back pair.image i; sampler = resource_back pair.sampler i }

-- ---- sets

-- a set built from the info's pairs with an argument has these pairs, in ascending order
pub samplings_reported : (info : FunctionInfo) (set : BTreeSet ((Bool × ℕ) × (Bool × ℕ))) →
    IsFromIterResult sampling_cmp (map sampling_numbers info.sampling.keys) set → AreSamplingsOf info set.keys
samplings_reported info set built = record {
  ascending = built.1;
  members = λ image sampler.
      let keys = info.sampling.keys in
      let pair : Sampling = record { image = image; sampler = sampler } in
      let numbers = sampling_numbers pair in
      let among = btree_set_contains_from_list samplings_total samplings_exact (map sampling_numbers keys) set built numbers in
      let stored = btree_set_contains_iff samplings_total samplings_exact set numbers in (
        λ h. from_map sampling_numbers sampling_of sampling_back keys pair (among.0 (stored.1 h)),
        λ h. stored.0 (among.1 (of_map sampling_numbers keys pair h)),
      );
}

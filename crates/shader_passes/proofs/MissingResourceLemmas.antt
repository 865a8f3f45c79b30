-- Expressions without a resource.
use Rattle.std.proofs.Common.{◌≡◌, refl, ap, ◌∙◌, ℕ, List, [], ◌∷◌, Option, Some, None, map, fold}
use Rattle.std.proofs.lemmas.List.Sums.{fold-append}
use Rattle.shader_analysis_spec.specs.Program.{Function}
use Rattle.shader_info.specs.declared.info.SamplingKey.{SamplingKey}
use Rattle.shader_info.specs.declared.info.Sampling.{Sampling}
use Rattle.shader_passes.specs.RecordedPairs.{key_pair, sampling_pair, pairs_in}
use Rattle.shader_passes.specs.MissingResource.{pair_missed}
use Rattle.std.specs.Option.{option_or}

or_none : (o : Option ℕ) → option_or o None ≡ o
or_none (Some h) = refl
or_none None = refl

-- both resources of a pair of globals exist
known_resources : (f : Function) (arguments : List ℕ) (o : Option ℕ) (ks : List SamplingKey) →
    fold (pair_missed f arguments) o (map key_pair ks) ≡ o
known_resources f arguments o [] = refl
known_resources f arguments o (k ∷ ks) =
    let at : option_or (option_or o None) None ≡ o = or_none (option_or o None) ∙ or_none o in
    ap (λ v. fold (pair_missed f arguments) v (map key_pair ks)) at ∙ known_resources f arguments o ks

pub all_resources : (f : Function) (arguments : List ℕ) (o : Option ℕ) (ks : List SamplingKey) (open_pairs : List Sampling) →
    fold (pair_missed f arguments) o (pairs_in ks open_pairs) ≡ fold (pair_missed f arguments) o (map sampling_pair open_pairs)
all_resources f arguments o ks open_pairs =
    fold-append (pair_missed f arguments) o (map key_pair ks) (map sampling_pair open_pairs)
    ∙ ap (λ v. fold (pair_missed f arguments) v (map sampling_pair open_pairs)) (known_resources f arguments o ks)

pub ruleset misses = (all_resources)

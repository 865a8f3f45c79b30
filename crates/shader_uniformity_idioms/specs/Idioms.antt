-- Seventeen idioms of real shaders, in the order of docs/UNIFORMITY.md, each as few statements.
use Rattle.std.specs.Prelude.{List, [], ◌∷◌, None}
use Rattle.std.specs.List.{AllByRecursion}
use Rattle.shader_ir.specs.Body.{Step, Loop, If, End}
use Rattle.shader_uniformity.specs.Fault.{AreAllKnown, IsFault}
use Rattle.shader_uniformity_idioms.specs.Shapes.{first, second, shared, variable, local, loaded, setting, sample, sum}
use Rattle.shader_uniformity_idioms.specs.Shapes.{fixed_sum, result, given, extent, block, when, rounds, emit, store, barrier}
use Rattle.shader_uniformity_idioms.specs.Shapes.{load_for_all, leave, stop, go_on, discard, call, point, derives, returns_early, samples}
use Rattle.shader_uniformity_idioms.specs.Shapes.{shaders, known}

-- a loop whose counter is a local variable, while that holds
abbrev pub counted : List Step → Step
counted steps = Loop (block (emit local ∷ If local End (block (stop ∷ [])) ∷ steps)) (block (store variable second ∷ [])) None

abbrev pub accepted : List (List Step)
accepted =
    -- alpha test by `discard`, then another sample
    (emit sample ∷ when sample (discard ∷ []) ∷ emit sample ∷ [])
    -- sample under `u.x > 0.5 && u.y > 0.5`
    ∷ (emit setting ∷ If setting (block (emit fixed_sum ∷ store variable fixed_sum ∷ [])) (block (store variable second ∷ []))
    ∷ emit local ∷ when local (emit sample ∷ []) ∷ [])
    -- a uniform mode is copied into a `var`, and sample under it
    ∷ (emit setting ∷ store variable setting ∷ emit local ∷ when local (emit sample ∷ []) ∷ [])
    -- `for` loop with a uniform count, samples in it
    ∷ (store variable second ∷ counted (emit sample ∷ []) ∷ [])
    -- the counter of a loop chooses the sample
    ∷ (store variable second ∷ counted (when local (emit sample ∷ []) ∷ []) ∷ [])
    -- helper that switches on a uniform argument and samples
    ∷ (call samples first second ∷ [])
    -- the length of a storage buffer as a condition
    ∷ (emit extent ∷ when extent (emit sample ∷ []) ∷ [])
    -- reduction: barrier in a loop over a uniform stride
    ∷ (store variable second ∷ counted (when first (store shared first ∷ []) ∷ barrier ∷ []) ∷ [])
    -- barrier under a condition on memory of the work group that is read by a uniform load
    ∷ (load_for_all shared ∷ when given (barrier ∷ []) ∷ []) ∷ []

abbrev pub refused : List (List Step)
refused =
    -- helper with `fwidth`, called under `if (uv.x > 0.5)`
    (when first (call derives second second ∷ []) ∷ [])
    -- ray march: `break` on a sampled distance, sample in the loop
    ∷ (rounds (emit sum ∷ when sum (stop ∷ []) ∷ emit sample ∷ []) ∷ [])
    -- lights: `continue` where out of reach, then sample
    ∷ (rounds (emit sum ∷ when sum (go_on ∷ []) ∷ emit sample ∷ []) ∷ [])
    -- early return by a coordinate, then sample
    ∷ (when first (leave ∷ []) ∷ emit sample ∷ [])
    -- early `return` in a helper, its result as a condition
    ∷ (call returns_early first second ∷ when result (emit sample ∷ []) ∷ [])
    -- barrier for some invocations: under `if (li < 32)`
    ∷ (emit sum ∷ when sum (barrier ∷ []) ∷ [])
    -- barrier after an early return by index
    ∷ (when first (leave ∷ []) ∷ barrier ∷ [])
    -- barrier under a condition on memory of the work group
    ∷ (emit loaded ∷ when loaded (barrier ∷ []) ∷ []) ∷ []

-- the law of idioms: those are at fault that are refused
pub record AreDecided : Type 0 where
  pub functions : AreAllKnown shaders known
  pub faulty : AllByRecursion (λ steps. IsFault shaders known (point steps)) refused
  pub fine : AllByRecursion (λ steps. IsFault shaders known (point steps) → ⊥) accepted

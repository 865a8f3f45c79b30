-- What calls pass, they pass to functions of the module.
use Rattle.std.proofs.Common.{◌≡◌, refl, subst, ℕ, ◌+◌, ◌<◌, inl, inr, List, ◌∷◌, Option, Some, None, length, slice_get}
use Rattle.std.proofs.lemmas.List.Elements.{Contains-append_cases}
use Rattle.std.proofs.lemmas.Option.{slice_get_within}
use Rattle.std.specs.List.{Contains}
use Rattle.shader_uniformity.proofs.KnownLemmas.{nowhere}
use Rattle.shader_uniformity.specs.Fault.{arguments_from}
use Rattle.shader_uniformity.specs.Places.{places}
use Rattle.shader_uniformity.specs.Positions.{block_end, reads_at, step_end}
use Rattle.shader_uniformity.specs.Words.{Body, End, Then, Step, Leaf, Nested, If, Switch, Loop, Cases, NoCase, Case, Simple, Call}
use Rattle.shader_uniformity.specs.Words.{EntryPoint, Function, Module}
use Rattle.shader_uniformity.specs.declared.facts.BodyLocation.{BodyLocation}
use Rattle.shader_uniformity.specs.declared.facts.BodyLocation.TheVariants as body
use Rattle.shader_uniformity.specs.declared.facts.Fact.TheVariants.{Flow}
use Rattle.shader_uniformity.specs.declared.facts.Place.{Place}
use Rattle.shader_uniformity_needs.specs.Passes.{block_passes, cases_passes, passes_at, passes_of_function, passes_of_point, passes_to}
use Rattle.shader_uniformity_needs.specs.Passes.{pass as pass_at, simple_passes, step_passes}
use Rattle.shader_uniformity_needs.specs.declared.needs.Pass.{Pass}
use Rattle.shader_uniformity_causes.proofs.PassLemmas.{in_map}

module _ (functions : List Function) (all : List Place) where
  to_callee : (n : ℕ) (around : Option ℕ) (arguments : List ℕ) (value : Option ℕ) (c : ℕ) (found : Option Function) (pass : Pass) →
      slice_get functions c ≡ found → Contains (passes_to all n around arguments value c found) pass → pass.function < length functions
  to_callee n around arguments value c (Some f) pass e h =
      let by = in_map (pass_at all n around arguments value c) (Flow ∷ arguments_from 0 f.arguments) pass h in
      let P : Pass → Type 0 = λ v. v.function < length functions in
      subst P by.2 (slice_get_within functions c f e)
  to_callee n around arguments value c None pass e h = absurd (nowhere pass h)

  of_simple : (n : ℕ) (around : Option ℕ) (x : Simple) (pass : Pass) → Contains (simple_passes functions all n around x) pass →
      pass.function < length functions
  of_simple n around (Call c arguments result) pass h =
      to_callee n around arguments result c (slice_get functions c) pass refl h
  of_simple n around _ pass h = absurd (nowhere pass h)

  mutual
    of_step : (n : ℕ) (around : Option ℕ) (s : Step) (pass : Pass) → Contains (step_passes functions all n around s) pass →
        pass.function < length functions
    of_step n around (Leaf x) pass h = of_simple n around x pass h
    of_step n around (Nested x) pass h = of_block (n + 1) around x pass h
    of_step n around (If c x y) pass h =
        elim (Contains-append_cases (block_passes functions all (n + 1) around x)
        (block_passes functions all (block_end (n + 1) x) around y) pass h) [
          | inl i ↦ of_block (n + 1) around x pass i
          | inr i ↦ of_block (block_end (n + 1) x) around y pass i
        ]
    of_step n around (Switch e cs) pass h = of_cases ((n + 1) + 1) around cs pass h
    of_step n around (Loop x y k) pass h =
        elim (Contains-append_cases (block_passes functions all ((n + 1) + 1) (Some (reads_at n around)) x)
        (block_passes functions all (block_end ((n + 1) + 1) x) (Some (reads_at n around)) y) pass h) [
          | inl i ↦ of_block ((n + 1) + 1) (Some (reads_at n around)) x pass i
          | inr i ↦ of_block (block_end ((n + 1) + 1) x) (Some (reads_at n around)) y pass i
        ]

    of_block : (n : ℕ) (around : Option ℕ) (b : Body) (pass : Pass) → Contains (block_passes functions all n around b) pass →
        pass.function < length functions
    of_block n around End pass h = absurd (nowhere pass h)
    of_block n around (Then s b) pass h =
        elim (Contains-append_cases (step_passes functions all n around s) (block_passes functions all (step_end n s) around b) pass h) [
          | inl i ↦ of_step n around s pass i
          | inr i ↦ of_block (step_end n s) around b pass i
        ]

    of_cases : (n : ℕ) (around : Option ℕ) (cs : Cases) (pass : Pass) → Contains (cases_passes functions all n around cs) pass →
        pass.function < length functions
    of_cases n around NoCase pass h = absurd (nowhere pass h)
    of_cases n around (Case v x fall cs) pass h =
        elim (Contains-append_cases (block_passes functions all n around x) (cases_passes functions all (block_end n x) around cs) pass h) [
          | inl i ↦ of_block n around x pass i
          | inr i ↦ of_cases (block_end n x) around cs pass i
        ]

module _ (m : Module) where
  of_function : (found : Option Function) (pass : Pass) → Contains (passes_of_function m found) pass → pass.function < length m.functions
  of_function (Some f) pass h = of_block m.functions (places m f.expressions) 1 None f.body pass h
  of_function None pass h = absurd (nowhere pass h)

  of_point : (found : Option EntryPoint) (pass : Pass) → Contains (passes_of_point m found) pass → pass.function < length m.functions
  of_point (Some point) pass h = of_block m.functions (places m point.function.expressions) 1 None point.function.body pass h
  of_point None pass h = absurd (nowhere pass h)

  pub passed_inside : (place : BodyLocation) (pass : Pass) → Contains (passes_at m place) pass → pass.function < length m.functions
  passed_inside (body.Function i) pass h = of_function (slice_get m.functions i) pass h
  passed_inside (body.EntryPoint i) pass h = of_point (slice_get m.entry_points i) pass h

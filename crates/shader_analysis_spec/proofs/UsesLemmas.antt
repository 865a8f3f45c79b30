-- The step equations of uses give the interprocedural uses.
use Rattle.std.proofs.Common.{ℕ, ◌↔◌, List}
use Rattle.shader_analysis_spec.specs.Program.{Function, Module}
use Rattle.shader_analysis_spec.specs.Calls.{CallPath, here, via, CallsTo}
use Rattle.shader_analysis_spec.specs.Infos.{Info, Use, Queries, RecordsUse, EachNamed}
use Rattle.shader_analysis_spec.specs.Uses.{Uses, directly, by_name, UsesDirectly, NeverUsed}
use Rattle.shader_analysis_spec.specs.Steps.{CalleeUses, own, callee, StepUse, joined, patched}
use Rattle.shader_analysis_spec.proofs.Order.{info_of_call, call_of_info}

-- the info records the function's uses of the globals
abbrev pub HasUses : Module → Function → Info → Type 0
HasUses m f info = (g : ℕ) (u : Use) → RecordsUse info g u ↔ Uses m f g u

module _ (m : Module) (infos : List Info) (f : Function) (named : EachNamed (HasUses m) m infos f) (g : ℕ) where
  -- a use by a function that f calls is joined
  from_callee : (u : Use) (r : Function) → CallsTo m f r → Uses m r g u → CalleeUses infos f g u
  from_callee u r call uses =
      let (info, stored, has) = info_of_call (HasUses m) m infos f named r call in callee stored ((has g u).1 uses)

  -- a direct use along a call path is joined
  along : (u : Use) (s : Function) → CallPath m f s → UsesDirectly s g u → CalleeUses infos f g u
  along u s here d = own d
  along u s (via {c = r} call rest) d = from_callee u r call (directly rest d)

  further : {r : Function} → CallsTo m f r → (u : Use) → Uses m r g u → Uses m f g u
  further call u (directly path d) = directly (via call path) d
  further call _ (by_name path n never) = by_name (via call path) n never

  of_joined : (u : Use) → CalleeUses infos f g u → Uses m f g u
  of_joined u (own d) = directly here d
  of_joined u (callee stored records) =
      let (r, call, _, has) = call_of_info (HasUses m) m infos f named stored in further call u ((has g u).0 records)

  of_step : (u : Use) → StepUse infos f g u → Uses m f g u
  of_step u (joined j) = of_joined u j
  of_step _ (patched n none) = by_name here n (λ s v path d. none v (along v s path d))

  -- if no function that f reaches uses g, a joined use is a query by name in a callee
  query_alone : (v : Use) → NeverUsed m f g → CalleeUses infos f g v → CalleeUses infos f g Queries
  query_alone v never j = from_uses v j (of_joined v j)
    where
      from_uses : (v : Use) → CalleeUses infos f g v → Uses m f g v → CalleeUses infos f g Queries
      from_uses v j (directly path d) = absurd (never _ _ path d)
      from_uses _ j (by_name path n _) = j

  -- this depends on bits being decidable: if Queries isn't recorded, no use is joined, so Queries is added
  to_step : (info : Info) → ((u : Use) → RecordsUse info g u ↔ StepUse infos f g u) → (u : Use) → Uses m f g u → RecordsUse info g u
  to_step info step u (directly {r = s} path d) = (step u).1 (joined (along u s path d))
  to_step info step _ (by_name (via {c = r} call path) n never) =
      (step Queries).1 (joined (from_callee Queries r call (by_name path n never)))
  to_step info step _ (by_name here n never) =
      λ not_set. let no_query : CalleeUses infos f g Queries → ⊥ = λ j. (step Queries).1 (joined j) not_set in
      (step Queries).1 (patched n (λ v j. no_query (query_alone v never j))) not_set

  pub exact_uses : (info : Info) → ((u : Use) → RecordsUse info g u ↔ StepUse infos f g u) → (u : Use) → RecordsUse info g u ↔ Uses m f g u
  exact_uses info step u = (λ h. of_step u ((step u).0 h), to_step info step u)

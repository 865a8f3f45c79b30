-- The step equation of kills gives the interprocedural kills.
use Rattle.std.proofs.Common.{◌≡◌, ℕ, ◌<◌, ◌↔◌, List, length, Bool, false, Option, Some, None, IsTrue, sym, ◌∙◌, subst, arith}
use Rattle.std.specs.List.{slice_get}
use Rattle.std.proofs.lemmas.Option.{same_Some, slice_get_within, slice_get-get_or}
use Rattle.shader_analysis_spec.specs.Program.{Function, Module, Leaf, Call}
use Rattle.shader_analysis_spec.specs.Calls.{here, via, CallsTo}
use Rattle.shader_analysis_spec.specs.Infos.{Info, EachNamed, IsWitness, by_call}
use Rattle.shader_analysis_spec.specs.Origins.{Origin, source, result, DependsOn, itself, through, IsSource}
use Rattle.shader_analysis_spec.specs.Kills.{Counts, Kills, kills, HasOrigin}
use Rattle.shader_analysis_spec.specs.Steps.{StepKill, own, callee, RecordsVaried, RecordsKills}
use Rattle.shader_analysis_spec.proofs.Order.{info_of_call, call_of_info}
use Rattle.shader_analysis_spec.proofs.FlowLemmas.{more_disrupted, occurs_within}
use Rattle.std.proofs.Common.{get_or}

abbrev pub HasKills : Module → Function → Info → Type 0
HasKills m f info = IsTrue info.may_kill ↔ Kills m f

further : {m : Module} {f d : Function} → CallsTo m f d → Kills m d → Kills m f
further call (kills path known target there all p d) = kills (via call path) known target there all p d

-- the record at a position
abbrev recorded : Option Info → Bool
recorded None = false
recorded (Some info) = info.may_kill

source_within : (m : Module) (f : Function) (h : ℕ) → IsSource m f h → h < length f.expressions
source_within m f h is = slice_get_within f.expressions h is.expression is.is_there

leads_within : (f : Function) (e h : ℕ) → DependsOn f e h → h < length f.expressions → e < length f.expressions
leads_within f e h itself within = within
leads_within f e h (through s _ _) within = slice_get_within f.expressions e _ s

pub origin_within : (m : Module) (f : Function) (e : ℕ) (r : Function) (h : ℕ) → Origin m f e r h → e < length f.expressions
origin_within m f e r h (source leads is) = leads_within f e h leads (source_within m f h is)
origin_within m f e r h (result {k = k} leads s _ _) = leads_within f e k leads (slice_get_within f.expressions k _ s)

module _ (m : Module) (infos : List Info) (f : Function) (named : EachNamed (HasKills m) m infos f) (info : Info)
    (complete : length info.non_uniform ≡ length f.expressions)
    (origins : (e : ℕ) (o : Option ℕ) → slice_get info.non_uniform e ≡ Some o → IsWitness (λ h. (r : Function) × Origin m f e r h) o) where
  to_origin : (e : ℕ) → RecordsVaried info e → HasOrigin m f e
  to_origin e (h, is) = let (r, o) = origins e (Some h) is in (r, h, o)

  of_origin : (e : ℕ) → HasOrigin m f e → RecordsVaried info e
  of_origin e (r, h, o) =
      let within = origin_within m f e r h o in
      at (get_or info.non_uniform e None) (slice_get-get_or info.non_uniform e None (omega arith))
    where
      at : (x : Option ℕ) → slice_get info.non_uniform e ≡ Some x → RecordsVaried info e
      at (Some k) is = (k, is)
      at None is = absurd (origins e None is h (r, o))

  of_step : StepKill infos f info → Kills m f
  of_step (callee stored may) = let (d, call, _, has) = call_of_info (HasKills m) m infos f named stored in further call (has.0 may)
  of_step (own p d) =
      let known : ℕ → Bool = λ c. recorded (slice_get infos c) in
      kills here known (λ c. get_or m.functions c f) (λ c counted. (counted_kills c counted).0) (λ c counted. (counted_kills c counted).1)
      p (more_disrupted (RecordsVaried info) (HasOrigin m f) (RecordsKills infos) (λ c. IsTrue (known c)) f.body to_origin
      (λ c arguments result b q is_killing. subst (λ o. IsTrue (recorded o)) (sym is_killing.1) is_killing.2) _ p d)
    where
      counted_kills : (c : ℕ) → Counts f (λ c. recorded (slice_get infos c)) c →
          (slice_get m.functions c ≡ Some (get_or m.functions c f)) × Kills m (get_or m.functions c f)
      counted_kills c counted =
          let (r, i, is_r, is_i, has) = named c (by_call counted.3) in
          let there = slice_get-get_or m.functions c f (slice_get_within m.functions c r is_r) in
          let found = has.0 (subst (λ o. IsTrue (recorded o)) is_i counted.0) in
          (there, subst (Kills m) (same_Some r _ (sym is_r ∙ there)) found)

  to_step : Kills m f → StepKill infos f info
  to_step (kills (via {c = d} call path) known target there all p at) =
      let (i, stored, has) = info_of_call (HasKills m) m infos f named d call in
      callee stored (has.1 (kills path known target there all p at))
  to_step (kills here known target there all p at) = own p (more_disrupted (HasOrigin m f) (RecordsVaried info) (λ c. IsTrue (known c))
      (RecordsKills infos) f.body of_origin
      (λ c arguments result b q k.
      let holds = occurs_within f.body (Leaf (Call c arguments result)) b q in
      let (r, i, is_r, is_i, has) = named c (by_call holds) in
      let counted : Counts f known c = (k, arguments, result, holds) in
      (i, is_i, has.1 (subst (Kills m) (same_Some _ r (sym (there c counted) ∙ is_r)) (all c counted))))
      _ p at)

  pub exact_kills : (IsTrue info.may_kill ↔ StepKill infos f info) → HasKills m f info
  exact_kills step = (λ h. of_step (step.0 h), λ k. step.1 (to_step k))

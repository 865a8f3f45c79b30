-- The chain from a link to a source.
use Rattle.std.proofs.Common.{◌≡◌, refl, sym, ap, subst, ◌∙◌, ℕ, zero, suc, ◌+◌, ◌<◌, ◌↔◌, List, [], ◌∷◌, ◌++◌}
use Rattle.std.proofs.Common.{Option, Some, None, IsTrue, is_some, slice_get, length, append_assoc, arith}
use Rattle.std.specs.Option.{option_and_then}
use Rattle.shader_ir.specs.declared.function.EntryPoint.{EntryPoint}
use Rattle.shader_resolve.specs.WellFormed.{IsWellFormed}
use Rattle.shader_analysis_spec.specs.Infos.{by_call, by_result}
use Rattle.shader_analysis_spec.specs.Program.{Function, Module}
use Rattle.shader_uniformity_trace.specs.declared.trace.Table.{Table}
use Rattle.shader_uniformity_trace.specs.declared.link.FunctionLocation.{FunctionLocation}
use Rattle.shader_uniformity_trace.specs.declared.link.FunctionLocation.TheVariants as location
use Rattle.shader_uniformity_trace.specs.declared.link.Link.{Link}
use Rattle.shader_uniformity_trace.specs.declared.link.Link.TheVariants as link
use Rattle.shader_uniformity_trace.specs.declared.reasons.Trace.{Trace}
use Rattle.shader_uniformity_trace.specs.declared.reasons.Reason.{Reason}
use Rattle.shader_uniformity_trace.specs.declared.reasons.Reason.TheVariants.{Source, Through}
use Rattle.shader_uniformity_trace.specs.Chains.{LinksTo, HasOriginAt, IsChain, IsFunctionAt, IsOriginChain, IsSourceAt, earlier_functions}
use Rattle.shader_uniformity_trace.specs.Chains as chain
use Rattle.shader_uniformity_trace.specs.Trace.{IsReason, IsTable, LeadsTo, Determines}
use Rattle.shader_uniformity_trace.specs.Reasons.{trace_at, next_link, next_of, reason_at, reason_of}
use Rattle.shader_uniformity_trace.proofs.TraceLemmas.{trace_there, is_trace, names_before, operands_before}
use Rattle.shader_uniformity_trace.proofs.LinkLemmas.{origin_reason, reason_origin, within}
use Rattle.shader_uniformity_trace.proofs.ReasonLemmas.{all_reported}

-- the table's entry for a link
module _ (m : Module) (table : Table) (are : IsTable m table) where
  reported : (first : Link) → Determines (IsReason m first) (reason_of table first)
  reported (link.Expression at e) = seen (trace_at table at) refl where
    seen : (o : Option Trace) → trace_at table at ≡ o →
        Determines (IsReason m (link.Expression at e)) (option_and_then (λ (trace : Trace). reason_at trace.expressions.items e) o)
    seen (Some trace) is =
        let item = is_trace m table are at trace is in all_reported m at trace.expressions.items item.complete item.expressions e
    seen None is = λ r t.
        let has = reason_origin m (link.Expression at e) r t in trace_there m table are at (has.0, has.1) is
  reported (link.Result at) = seen (trace_at table at) refl where
    seen : (o : Option Trace) → trace_at table at ≡ o →
        Determines (IsReason m (link.Result at)) (option_and_then (λ (trace : Trace). trace.result) o)
    seen (Some trace) is = (is_trace m table are at trace is).result
    seen None is = λ r t. let has = reason_origin m (link.Result at) r t in trace_there m table are at (has.0, has.1) is

  pub leads_to : (first : Link) → HasOriginAt m first → LeadsTo m first (next_of table first)
  leads_to first has = next (reason_of table first) (reported first) where
    next : (o : Option Reason) → Determines (IsReason m first) o → LeadsTo m first (option_and_then next_link o)
    next None none = let (r, is) = origin_reason m first has in absurd (none r is)
    next (Some Source) is = is
    next (Some (Through other)) is = is

  pub has_reason : (first : Link) → IsTrue (is_some (reason_of table first)) ↔ HasOriginAt m first
  has_reason first = both (reason_of table first) (reported first) where
    both : (o : Option Reason) → Determines (IsReason m first) o → IsTrue (is_some o) ↔ HasOriginAt m first
    both None none = (λ some. absurd (cc), λ has. let (r, is) = origin_reason m first has in absurd (none r is))
    both (Some reason) is = (λ some. reason_origin m first reason is, λ has. refl)

-- a chain with one link more
pub longer : (m : Module) {first last next : Link} {links : List Link} → IsChain m first links last → LinksTo m last next →
    IsChain m first (links ++ next ∷ []) next
longer m chain.one leads = chain.more leads chain.one
longer m (chain.more step rest) leads = chain.more step (longer m rest leads)

-- the number of links before those of a function, and the number of its own links before its result
abbrev pub width : Option Function → ℕ
width (Some f) = length f.expressions
width None = 0

abbrev pub entry_width : Option EntryPoint → ℕ
entry_width (Some entry) = length entry.function.expressions
entry_width None = 0

abbrev pub width_at : Module → FunctionLocation → ℕ
width_at m (location.Function i) = width (slice_get m.functions i)
width_at m (location.EntryPoint i) = entry_width (slice_get m.entry_points i)

abbrev pub links_before : List Function → ℕ → ℕ
links_before [] n = 0
links_before (f ∷ fs) zero = 0
links_before (f ∷ fs) (suc n) = length f.expressions + 1 + links_before fs n

-- the position of a link among all links
abbrev pub rank : Module → Link → ℕ
rank m (link.Expression at e) = links_before m.functions (earlier_functions m at) + e
rank m (link.Result at) = links_before m.functions (earlier_functions m at) + width_at m at

-- the links of a function are before those of a later one
function_below : (fs : List Function) (c n : ℕ) (f : Function) → slice_get fs c ≡ Some f → c < n →
    links_before fs c + width (slice_get fs c) < links_before fs n
function_below [] c n f is lt = absurd (cc)
function_below (g ∷ fs) c zero f is lt = absurd (omega arith)
function_below (g ∷ fs) zero (suc n) f is lt = omega arith
function_below (g ∷ fs) (suc c) (suc n) f is lt = omega (arith, function_below fs c n f is (omega arith))

width_is : (m : Module) (at : FunctionLocation) (f : Function) → IsFunctionAt m at f → width_at m at ≡ length f.expressions
width_is m (location.Function i) f is = ap width is
width_is m (location.EntryPoint i) f is = ap entry_width is.1 ∙ ap (λ (g : Function). length g.expressions) is.2

module _ (m : Module) (well : IsWellFormed m) where
  -- a link to a callee leads to an earlier function
  falls_to : (at : FunctionLocation) (c : ℕ) → HasOriginAt m (link.Result (location.Function c)) → c < earlier_functions m at →
      rank m (link.Result (location.Function c)) < links_before m.functions (earlier_functions m at)
  falls_to at c has lt = function_below m.functions c (earlier_functions m at) has.0 has.1 lt

  -- an expression that may differ is within its function
  value_falls : (at : FunctionLocation) (e : ℕ) → HasOriginAt m (link.Expression at e) →
      rank m (link.Expression at e) < rank m (link.Result at)
  value_falls at e has =
      let reason = origin_reason m (link.Expression at e) has in
      let inside = within m at e reason.0 reason.1 in
      omega (arith, inside.2, width_is m at inside.0 inside.1)

  falls : (first next : Link) → LinksTo m first next → HasOriginAt m next → rank m next < rank m first
  falls _ _ (chain.LinksTo.operand {at = at} {e = e} {h = h} f {x = x} {label = l} is is_there holds) has =
      omega (arith, operands_before m well at f is e x (h, l) is_there holds)
  falls _ _ (chain.LinksTo.result {at = at} {e = e} {c = c} f is is_there) has =
      omega (arith, falls_to at c has (names_before m well at f is c (by_result e is_there)))
  falls _ _ (chain.LinksTo.value {at = at} {e = e} f is gives) has = value_falls at e has
  falls _ _ (chain.LinksTo.by_callee {at = at} {c = c} f is holds) has =
      omega (arith, falls_to at c has (names_before m well at f is c (by_call holds)))

-- the links lead from the first to another that has an origin too
abbrev pub Walked : Module → Link → List Link → Link → Type 0
Walked m first links reached =
    ((last : Link) (rest : List Link) → IsChain m reached rest last → IsChain m first (links ++ rest) last) × HasOriginAt m reached

pub walk_begins : (m : Module) (first : Link) → HasOriginAt m first → Walked m first [] first
walk_begins m first has = (λ last rest is. is, has)

module _ (m : Module) (first : Link) (links : List Link) (reached : Link) (o : Option Link) (leads : LeadsTo m reached o) where
  led : (next : Link) → o ≡ Some next → LeadsTo m reached (Some next)
  led next is = let P : Option Link → Type 0 = λ v. LeadsTo m reached v in subst P is leads

  pub walk_goes_on : Walked m first links reached → (next : Link) → o ≡ Some next → Walked m first (links ++ reached ∷ []) next
  walk_goes_on walked next is = (
    λ last rest more.
        let P : List Link → Type 0 = λ v. IsChain m first v last in
        subst P (sym (append_assoc links (reached ∷ []) rest))
        (walked.0 last (reached ∷ rest) (chain.IsChain.more (led next is).0 more)),
    (led next is).1,
  )

  pub walk_falls : IsWellFormed m → (next : Link) → o ≡ Some next → rank m next < rank m reached
  walk_falls well next is = falls m well reached next (led next is).0 (led next is).1

  pub walk_ends : Walked m first links reached → o ≡ None → (all : List Link) → all ≡ links ++ reached ∷ [] → IsOriginChain m first all
  walk_ends walked is all same =
      let P : Option Link → Type 0 = λ v. LeadsTo m reached v in
      let Q : List Link → Type 0 = λ v. IsOriginChain m first v in
      subst Q (sym same)
      (record { last = reached; chain = walked.0 reached (reached ∷ []) chain.IsChain.one; source = subst P is leads })

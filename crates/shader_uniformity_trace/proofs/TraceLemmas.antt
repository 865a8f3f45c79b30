-- Correctness of the reasons computed for functions.
use Rattle.std.proofs.Common.{◌≡◌, refl, sym, ap, subst, ◌∙◌, ℕ, ◌+◌, ◌<◌, inl, inr, List, [], ◌∷◌, ◌++◌}
use Rattle.std.proofs.Common.{Option, Some, None, zero, suc, slice_get, length, length-append, arith}
use Rattle.std.specs.List.{enumerate_from}
use Rattle.std.specs.Option.{option_and_then}
use Rattle.std.proofs.lemmas.Bool.{cases_lt}
use Rattle.std.proofs.lemmas.Option.{same_Some, slice_get_within}
use Rattle.shader_resolve.specs.WellFormed.{IsWellFormed}
use Rattle.shader_analysis_spec.specs.Infos.{HasCallee, NamesEarlier}
use Rattle.shader_analysis_spec.specs.Program.{Function, Module, statements}
use Rattle.shader_analysis_spec.proofs.EarlierLemmas.{point_backwards}
use Rattle.shader_passes.specs.InfoOf.{PointsBackwards}
use Rattle.shader_passes.proofs.FactLemmas.{get_seam, get_left}
use Rattle.shader_uniformity_trace.specs.declared.trace.Table.{Table}
use Rattle.shader_uniformity_trace.specs.declared.link.FunctionLocation.{FunctionLocation}
use Rattle.shader_uniformity_trace.specs.declared.link.FunctionLocation.TheVariants as location
use Rattle.shader_uniformity_trace.specs.declared.link.Link.TheVariants as link
use Rattle.shader_uniformity_trace.specs.declared.reasons.Trace.{Trace}
use Rattle.shader_uniformity_trace.specs.declared.reasons.Reason.{Reason}
use Rattle.shader_uniformity_trace.specs.Chains.{HasFunction, IsFunctionAt, earlier_functions}
use Rattle.shader_uniformity_trace.specs.Trace.{AreTraces, AreTracesAt, AreReasons, IsTrace, IsReason, IsTable, Determines}
use Rattle.shader_uniformity_trace.specs.Reasons.{first_given, trace_at, result_reason_at, reasons_after}
use Rattle.shader_uniformity_trace.proofs.LinkLemmas.{same_function}
use Rattle.shader_uniformity_trace.proofs.ReasonLemmas.{all_reported, given_back, reasons_after_long, reasons_are_determined}

-- a function names earlier functions only
pub names_before : (m : Module) → IsWellFormed m → (at : FunctionLocation) (f : Function) → IsFunctionAt m at f →
    NamesEarlier (earlier_functions m at) f
names_before m well (location.Function i) f is = (point_backwards m well).functions i f is
names_before m well (location.EntryPoint i) f is =
    let P : Function → Type 0 = λ v. NamesEarlier (length m.functions) v in
    subst P is.2 ((point_backwards m well).entry_points i is.0 is.1)

pub operands_before : (m : Module) → IsWellFormed m → (at : FunctionLocation) (f : Function) → IsFunctionAt m at f → PointsBackwards f
operands_before m well (location.Function i) f is = λ e x o is_there holds. (point_backwards m well).expressions i f is e x o is_there holds
operands_before m well (location.EntryPoint i) f is =
    let P : Function → Type 0 = λ v. PointsBackwards v in
    subst P is.2 (λ e x o is_there holds. (point_backwards m well).entry_expressions i is.0 is.1 e x o is_there holds)

-- a list has an item at each position below its length
pub item_at : {X : Type 0} (xs : List X) (i : ℕ) → i < length xs → (x : X) × (slice_get xs i ≡ Some x)
item_at [] i lt = absurd (omega arith)
item_at (x ∷ xs) zero lt = (x, refl)
item_at (x ∷ xs) (suc i) lt = item_at xs i (omega arith)

-- the reason for an earlier function's result
pub result_reported : (m : Module) (count : ℕ) (traces : List Trace) → AreTraces m count traces → (c : ℕ) → c < count →
    Determines (IsReason m (link.Result (location.Function c))) (result_reason_at traces c)
result_reported m count traces are c lt =
    let item = item_at traces c (omega (arith, lt, are.complete)) in
    let P : Option Trace → Type 0 =
    λ v. Determines (IsReason m (link.Result (location.Function c))) (option_and_then (λ (trace : Trace). trace.result) v) in
    subst P (sym item.1) (are.each c item.0 item.1).result

-- the result of the pass over a function
pub trace_is : (m : Module) (at : FunctionLocation) (f : Function) (traces : List Trace) (trace : Trace) → IsWellFormed m →
    AreTraces m (earlier_functions m at) traces → IsFunctionAt m at f →
    trace.expressions.items ≡ reasons_after m traces at f [] (enumerate_from 0 f.expressions) →
    trace.result ≡ first_given at traces trace.expressions.items (statements f.body) → IsTrace m at trace
trace_is m at f traces trace well are is expressions_are result_is =
    let by_callee : (c : ℕ) → HasCallee f c → Determines (IsReason m (link.Result (location.Function c))) (result_reason_at traces c) =
    λ c named. result_reported m (earlier_functions m at) traces are c (names_before m well at f is c named) in
    let P : List (Option Reason) → Type 0 = λ v. AreReasons m at v in
    let reported : AreReasons m at trace.expressions.items =
    subst P (sym expressions_are) (reasons_are_determined m traces at f is by_callee (operands_before m well at f is)) in
    let long : length trace.expressions.items ≡ length f.expressions =
    ap length expressions_are ∙ reasons_after_long m traces at f is by_callee in
    let complete : (g : Function) → IsFunctionAt m at g → length trace.expressions.items ≡ length g.expressions =
    λ g too. long ∙ ap (λ (v : Function). length v.expressions) (same_function m at f g is too) in
    let Q : Option Reason → Type 0 = λ v. Determines (IsReason m (link.Result at)) v in
    record {
      complete = complete;
      expressions = reported;
      result = subst Q (sym result_is)
          (given_back m traces at f is by_callee trace.expressions.items (all_reported m at trace.expressions.items complete reported));
    }

-- the empty table is right of no function, and one more row is right of the next
pub no_traces : (m : Module) (at : ℕ → FunctionLocation) → AreTracesAt m at 0 []
no_traces m at = record { complete = refl; each = λ i trace is. absurd (cc) }

one_more : (m : Module) (at : ℕ → FunctionLocation) (count : ℕ) (traces : List Trace) (trace : Trace) → AreTracesAt m at count traces →
    IsTrace m (at count) trace → AreTracesAt m at (count + 1) (traces ++ trace ∷ [])
one_more m at count traces trace are own = record {
  complete = omega (arith, are.complete, length-append traces (trace ∷ []));
  each = each;
}
  where
    each : (i : ℕ) (other : Trace) → slice_get (traces ++ trace ∷ []) i ≡ Some other → IsTrace m (at i) other
    each i other is = elim (cases_lt i (length traces)) [
      | inl lt ↦ are.each i other (sym (get_left traces (trace ∷ []) i lt) ∙ is)
      | inr le ↦
          let whole = slice_get_within (traces ++ trace ∷ []) i other is in
          let last : length traces ≡ i = omega (arith, le, whole, length-append traces (trace ∷ [])) in
          let same : trace ≡ other = same_Some trace other (sym (get_seam traces trace [] i last) ∙ is) in
          let P : Trace → Type 0 = λ v. IsTrace m (at i) v in
          let Q : ℕ → Type 0 = λ v. IsTrace m (at v) trace in
          subst P same (subst Q (sym are.complete ∙ last) own)
    ]

pub one_more_trace : (m : Module) (at : ℕ → FunctionLocation) (count here : ℕ) (traces more : List Trace) (trace : Trace) →
    AreTracesAt m at count traces → here ≡ count → IsTrace m (at here) trace → more ≡ traces ++ trace ∷ [] →
    AreTracesAt m at (count + 1) more
one_more_trace m at count here traces more trace are same own is =
    let P : ℕ → Type 0 = λ v. IsTrace m (at v) trace in
    let Q : List Trace → Type 0 = λ v. AreTracesAt m at (count + 1) v in
    subst Q (sym is) (one_more m at count traces trace are (subst P same own))

-- a location below the count has a function
pub function_there : (m : Module) (i : ℕ) → i < length m.functions → HasFunction m (location.Function i)
function_there m i lt = item_at m.functions i lt

pub entry_point_there : (m : Module) (i : ℕ) → i < length m.entry_points → HasFunction m (location.EntryPoint i)
entry_point_there m i lt = let entry = item_at m.entry_points i lt in (entry.0.function, (entry.0, entry.1, refl))

-- the table's row of a location
module _ (m : Module) (table : Table) (are : IsTable m table) where
  pub is_trace : (at : FunctionLocation) (trace : Trace) → trace_at table at ≡ Some trace → IsTrace m at trace
  is_trace (location.Function i) trace is = are.0.each i trace is
  is_trace (location.EntryPoint i) trace is = are.1.each i trace is

  has_trace : (at : FunctionLocation) → HasFunction m at → (trace : Trace) × (trace_at table at ≡ Some trace)
  has_trace (location.Function i) (f, is) =
      let lt = slice_get_within m.functions i f is in
      item_at table.functions.items i (omega (arith, lt, are.0.complete))
  has_trace (location.EntryPoint i) (f, is) =
      let lt = slice_get_within m.entry_points i is.0 is.1 in
      item_at table.entry_points.items i (omega (arith, lt, are.1.complete))

  pub trace_there : (at : FunctionLocation) → HasFunction m at → trace_at table at ≡ None → ⊥
  trace_there at there none =
      let item = has_trace at there in
      let some = item.1 in
      cc

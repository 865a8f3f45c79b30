-- Induction along calls: if a function has a property whenever the functions that it names have it, all functions have it.
use Rattle.std.proofs.Common.{◌≡◌, refl, ℕ, zero, suc, ◌<◌, List, length, Some, sym, ◌∙◌, subst, arith, get_or}
use Rattle.std.specs.List.{slice_get}
use Rattle.std.proofs.lemmas.Option.{slice_get_within, slice_get-get_or, same_Some}
use Rattle.shader_analysis_spec.specs.Program.{Function, Module}
use Rattle.shader_analysis_spec.specs.Calls.{CallsTo}
use Rattle.shader_analysis_spec.specs.Infos.{Info, by_call, EachNamed, IsOrdered, Pairwise}
use Rattle.shader_analysis_spec.specs.Steps.{CalleeInfo}

module _ (P : Function → Info → Type 0) (m : Module) (infos : List Info) (same : length m.functions ≡ length infos) (ordered : IsOrdered m)
    (step : (f : Function) (info : Info) → ((i : ℕ) × (slice_get m.functions i ≡ Some f) × (slice_get infos i ≡ Some info)) →
    EachNamed P m infos f → P f info) where
  below : (n i : ℕ) (f : Function) (info : Info) → i < n → slice_get m.functions i ≡ Some f → slice_get infos i ≡ Some info → P f info
  below zero i f info lt _ _ = absurd (omega arith)
  below (suc n) i f info lt is_f is_info =
      step f info (i, is_f, is_info) (λ c mention.
      let within : i < length m.functions = slice_get_within m.functions i f is_f in
      let earlier : c < i = ordered i f is_f c mention in
      let r = get_or m.functions c f in
      let s = get_or infos c info in
      let is_r : slice_get m.functions c ≡ Some r = slice_get-get_or m.functions c f (omega arith) in
      let is_s : slice_get infos c ≡ Some s = slice_get-get_or infos c info (omega arith) in
      (r, s, is_r, is_s, below n c r s (omega arith) is_r is_s))

  pub by_order : Pairwise P m infos
  by_order i f info is_f is_info = below (suc i) i f info (omega arith) is_f is_info

-- a call of f in the module gives one in the infos, and conversely
module _ (P : Function → Info → Type 0) (m : Module) (infos : List Info) (f : Function) (named : EachNamed P m infos f) where
  pub info_of_call : (r : Function) → (call : CallsTo m f r) → (info : Info) × CalleeInfo infos f call.arguments info × P r info
  info_of_call r call =
      let (r', info, is_r, is_info, p) = named call.callee (by_call call.holds) in
      let e : r' ≡ r = same_Some r' r (sym is_r ∙ call.calls) in
      (info, record { callee = call.callee; result = call.result; holds = call.holds; stored = is_info }, subst (λ x. P x info) e p)

  pub call_of_info : {arguments : List ℕ} {info : Info} → CalleeInfo infos f arguments info →
      (r : Function) × (call : CallsTo m f r) × (call.arguments ≡ arguments) × P r info
  call_of_info {arguments} {info} call =
      let (r, info', is_r, is_info, p) = named call.callee (by_call call.holds) in
      let e : info' ≡ info = same_Some info' info (sym is_info ∙ call.stored) in (
        r,
        record { callee = call.callee; arguments = arguments; result = call.result; holds = call.holds; calls = is_r },
        refl,
        subst (λ x. P r x) e p,
      )

-- Links and their origins.
use Rattle.std.proofs.Common.{◌≡◌, refl, sym, ap, subst, ◌∙◌, ℕ, ◌<◌, length}
use Rattle.std.specs.List.{Contains}
use Rattle.std.proofs.lemmas.Option.{same_Some, slice_get_within}
use Rattle.shader_ir.specs.declared.expression.Expression.TheVariants as form
use Rattle.shader_ir.specs.declared.function.EntryPoint.{EntryPoint}
use Rattle.shader_analysis_spec.specs.Calls.{here, via, CallsTo}
use Rattle.shader_analysis_spec.specs.Origins.{through, itself, Origin, source, result, ResultOrigin, of_value}
use Rattle.shader_analysis_spec.specs.Program.{Function, Module, Expression, Label, IsExpressionAt, expression_operands}
use Rattle.shader_uniformity_trace.specs.declared.link.FunctionLocation.{FunctionLocation}
use Rattle.shader_uniformity_trace.specs.declared.link.FunctionLocation.TheVariants as location
use Rattle.shader_uniformity_trace.specs.declared.link.Link.{Link}
use Rattle.shader_uniformity_trace.specs.declared.link.Link.TheVariants as link
use Rattle.shader_uniformity_trace.specs.declared.reasons.Reason.{Reason}
use Rattle.shader_uniformity_trace.specs.declared.reasons.Reason.TheVariants.{Source, Through}
use Rattle.shader_uniformity_trace.specs.Chains.{LinksTo, HasOriginAt, IsFunctionAt, IsSourceAt}
use Rattle.shader_uniformity_trace.specs.Chains as chain
use Rattle.shader_uniformity_trace.specs.Trace.{IsReason}

-- a location has one function only
pub same_function : (m : Module) (at : FunctionLocation) (f g : Function) → IsFunctionAt m at f → IsFunctionAt m at g → f ≡ g
same_function m (location.Function i) f g is too = same_Some f g (sym is ∙ too)
same_function m (location.EntryPoint i) f g is too =
    let same : is.0 ≡ too.0 = same_Some is.0 too.0 (sym is.1 ∙ too.1) in
    sym is.2 ∙ (ap (λ (entry : EntryPoint). entry.function) same ∙ too.2)

module _ (m : Module) where
  -- an origin of an operand is one of the expression
  pub operand_origin : (f : Function) (e : ℕ) (x : Expression) (o : ℕ × Label) → IsExpressionAt f e x → Contains (expression_operands x) o →
      (r : Function) (h : ℕ) → Origin m f o.0 r h → Origin m f e r h
  operand_origin f e x o is_there holds r h (source leads is) = source (through is_there holds leads) is
  operand_origin f e x o is_there holds r h (result leads by_callee is_d from) = result (through is_there holds leads) by_callee is_d from

  pub call_origin : (f d : Function) → CallsTo m f d → (r : Function) (h : ℕ) → ResultOrigin m d r h → ResultOrigin m f r h
  call_origin f d call r h (of_value calls gives origin) = of_value (via call calls) gives origin

  -- an origin of a link is one of each link that depends on it
  pub followed : (first next : Link) → LinksTo m first next → HasOriginAt m next → HasOriginAt m first
  followed _ _ (chain.LinksTo.operand {at = at} {e = e} {h = h} f {x = x} {label = l} is is_there holds) (g, too, (r, k, origin)) =
      let P : Function → Type 0 = λ v. Origin m v h r k in
      let own = subst P (same_function m at g f too is) origin in
      (f, is, (r, k, operand_origin f e x (h, l) is_there holds r k own))
  followed _ _ (chain.LinksTo.result f is is_there) (d, is_d, (r, k, from)) = (f, is, (r, k, result itself is_there is_d from))
  followed _ _ (chain.LinksTo.value {at = at} {e = e} f is gives) (g, too, (r, k, origin)) =
      let P : Function → Type 0 = λ v. Origin m v e r k in
      let own = subst P (same_function m at g f too is) origin in
      (f, is, (r, k, of_value here gives own))
  followed _ _ (chain.LinksTo.by_callee {c = c} f {arguments = arguments} {value = value} is holds) (d, is_d, (r, k, from)) =
      let call : CallsTo m f d = record { callee = c; arguments = arguments; result = value; holds = holds; calls = is_d } in
      (f, is, (r, k, call_origin f d call r k from))

  pub source_origin : (first : Link) → IsSourceAt m first → HasOriginAt m first
  source_origin _ (chain.IsSourceAt.source {h = h} f is own) = (f, is, (f, h, source itself own))

  pub reason_origin : (first : Link) (reason : Reason) → IsReason m first reason → HasOriginAt m first
  reason_origin first Source is = source_origin first is
  reason_origin first (Through next) is = followed first next is.0 is.1

  -- a link that has an origin is a source, or depends on a link that has one
  of_expression : (at : FunctionLocation) (f : Function) → IsFunctionAt m at f → (e : ℕ) (r : Function) (h : ℕ) → Origin m f e r h →
      (reason : Reason) × IsReason m (link.Expression at e) reason
  of_expression at f is e r h (source itself own) = (Source, chain.IsSourceAt.source f is own)
  of_expression at f is e r h (source (through {o = o} is_there holds leads) own) =
      (Through (link.Expression at o.0), (chain.LinksTo.operand f is is_there holds, (f, is, (r, h, source leads own))))
  of_expression at f is e r h (result {c = c} {d = d} itself by_callee is_d from) =
      (Through (link.Result (location.Function c)), (chain.LinksTo.result f is by_callee, (d, is_d, (r, h, from))))
  of_expression at f is e r h (result (through {o = o} is_there holds leads) by_callee is_d from) =
      (Through (link.Expression at o.0), (chain.LinksTo.operand f is is_there holds, (f, is, (r, h, result leads by_callee is_d from))))

  of_result : (at : FunctionLocation) (f : Function) → IsFunctionAt m at f → (r : Function) (h : ℕ) → ResultOrigin m f r h →
      (reason : Reason) × IsReason m (link.Result at) reason
  of_result at f is r h (of_value {e = e} here gives origin) =
      (Through (link.Expression at e), (chain.LinksTo.value f is gives, (f, is, (r, h, origin))))
  of_result at f is r h (of_value (via {c = d} call calls) gives origin) = (
    Through (link.Result (location.Function call.callee)),
    (
      chain.LinksTo.by_callee f is call.holds,
      (d, call.calls, (r, h, of_value calls gives origin)),
    ),
  )

  pub origin_reason : (first : Link) → HasOriginAt m first → (reason : Reason) × IsReason m first reason
  origin_reason (link.Expression at e) (f, is, (r, h, origin)) = of_expression at f is e r h origin
  origin_reason (link.Result at) (f, is, (r, h, from)) = of_result at f is r h from

  -- a link that has a reason exists
  led_within : (at : FunctionLocation) (e : ℕ) (next : Link) → LinksTo m (link.Expression at e) next →
      (f : Function) × IsFunctionAt m at f × (e < length f.expressions)
  led_within at e _ (chain.LinksTo.operand f {x = x} is is_there holds) = (f, is, slice_get_within f.expressions e x is_there)
  led_within at e _ (chain.LinksTo.result {c = c} f is is_there) = (f, is, slice_get_within f.expressions e (form.CallResult c) is_there)

  pub source_is : (first : Link) → IsSourceAt m first → (at : FunctionLocation) × (h : ℕ) × (first ≡ link.Expression at h)
  source_is _ (chain.IsSourceAt.source {at = at} {h = h} f is own) = (at, h, refl)

  source_within : (at : FunctionLocation) (e : ℕ) → IsSourceAt m (link.Expression at e) →
      (f : Function) × IsFunctionAt m at f × (e < length f.expressions)
  source_within at e (chain.IsSourceAt.source f is own) = (f, is, slice_get_within f.expressions e own.expression own.is_there)

  pub within : (at : FunctionLocation) (e : ℕ) (reason : Reason) → IsReason m (link.Expression at e) reason →
      (f : Function) × IsFunctionAt m at f × (e < length f.expressions)
  within at e Source is = source_within at e is
  within at e (Through next) is = led_within at e next is.0

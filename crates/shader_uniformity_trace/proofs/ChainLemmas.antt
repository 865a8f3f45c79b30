-- A chain ends at an origin of its first link.
use Rattle.std.proofs.Common.{refl, subst, ℕ, List}
use Rattle.shader_analysis_spec.specs.Calls.{here, CallsTo}
use Rattle.shader_analysis_spec.specs.Origins.{Origin, source, result, of_value, itself}
use Rattle.shader_analysis_spec.specs.Program.{Function, Module}
use Rattle.shader_uniformity_trace.specs.declared.link.Link.{Link}
use Rattle.shader_uniformity_trace.specs.Chains.{LinksTo, IsChain, IsSourceAt}
use Rattle.shader_uniformity_trace.specs.Chains as chain
use Rattle.shader_uniformity_trace.specs.Laws.{ChainsAreOfOrigins, EndsAtOrigin, IsOriginOfLink}
use Rattle.shader_uniformity_trace.proofs.LinkLemmas.{same_function, operand_origin, call_origin}

module _ (m : Module) where
  -- an origin of a link is one of each link that depends on it
  onwards : (first next : Link) → LinksTo m first next → (r : Function) (h : ℕ) → IsOriginOfLink m next r h → IsOriginOfLink m first r h
  onwards _ _ (chain.LinksTo.operand {at = at} {e = e} {h = k} f {x = x} {label = l} is is_there holds) r h (g, too, origin) =
      let P : Function → Type 0 = λ v. Origin m v k r h in
      let own = subst P (same_function m at g f too is) origin in
      (f, is, operand_origin m f e x (k, l) is_there holds r h own)
  onwards _ _ (chain.LinksTo.result f is is_there) r h (d, is_d, from) = (f, is, result itself is_there is_d from)
  onwards _ _ (chain.LinksTo.value {at = at} {e = e} f is gives) r h (g, too, origin) =
      let P : Function → Type 0 = λ v. Origin m v e r h in
      let own = subst P (same_function m at g f too is) origin in
      (f, is, of_value here gives own)
  onwards _ _ (chain.LinksTo.by_callee {c = c} f {arguments = arguments} {value = value} is holds) r h (d, is_d, from) =
      let call : CallsTo m f d = record { callee = c; arguments = arguments; result = value; holds = holds; calls = is_d } in
      (f, is, call_origin m f d call r h from)

  at_source : (first : Link) → IsSourceAt m first → EndsAtOrigin m first first
  at_source _ (chain.IsSourceAt.source {h = h} f is own) =
      record { function = f; expression = h; origin = (f, is, source itself own); is_last = (is, refl) }

  before : (first next last : Link) → LinksTo m first next → EndsAtOrigin m next last → EndsAtOrigin m first last
  before first next last follows ends = record {
    function = ends.function;
    expression = ends.expression;
    origin = onwards first next follows ends.function ends.expression ends.origin;
    is_last = ends.is_last;
  }

  ends : (first last : Link) (links : List Link) → IsChain m first links last → IsSourceAt m last → EndsAtOrigin m first last
  ends _ _ _ (chain.IsChain.one {first = first}) is = at_source first is
  ends _ _ _ (chain.IsChain.more {first = first} {next = next} {last = last} {links = links} follows rest) is =
      before first next last follows (ends next last links rest is)

pub chains_are_of_origins : ChainsAreOfOrigins
chains_are_of_origins m first last links chain is = ends m first last links chain is

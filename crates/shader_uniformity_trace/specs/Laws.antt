-- The law that chains end at origins.
use Rattle.std.specs.Prelude.{◌≡◌, ℕ, List}
use Rattle.shader_analysis_spec.specs.Origins.{Origin, ResultOrigin}
use Rattle.shader_analysis_spec.specs.Program.{Function, Module}
use Rattle.shader_uniformity_trace.specs.declared.link.Link.{Link}
use Rattle.shader_uniformity_trace.specs.declared.link.Link.TheVariants as link
use Rattle.shader_uniformity_trace.specs.Chains.{IsChain, IsFunctionAt, IsSourceAt}

-- expression h of r is an origin of the link
abbrev pub IsOriginOfLink : Module → Link → Function → ℕ → Type 0
IsOriginOfLink m (link.Expression at e) r h = (f : Function) × IsFunctionAt m at f × Origin m f e r h
IsOriginOfLink m (link.Result at) r h = (f : Function) × IsFunctionAt m at f × ResultOrigin m f r h

-- the link is expression h of r
abbrev pub IsExpressionOf : Module → Link → Function → ℕ → Type 0
IsExpressionOf m (link.Expression at e) r h = IsFunctionAt m at r × (e ≡ h)
IsExpressionOf m (link.Result at) r h = ⊥

-- the last link is an expression that is an origin of the first
pub record EndsAtOrigin (m : Module) (first last : Link) : Type 0 where
  pub function : Function
  pub expression : ℕ
  pub origin : IsOriginOfLink m first function expression
  pub is_last : IsExpressionOf m last function expression

-- a chain to a source ends at an origin of its first link
abbrev pub ChainsAreOfOrigins : Type 0
ChainsAreOfOrigins = (m : Module) (first last : Link) (links : List Link) → IsChain m first links last → IsSourceAt m last →
    EndsAtOrigin m first last

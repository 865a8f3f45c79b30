-- Chains of links from a non-uniform value to its source.
use Rattle.std.specs.Prelude.{◌≡◌, ◌⊎◌, ℕ, List, [], ◌∷◌, Option, Some, None, slice_get, length}
use Rattle.std.specs.List.{Contains}
use Rattle.shader_ir.specs.declared.expression.Expression.TheVariants as form
use Rattle.shader_ir.specs.declared.function.EntryPoint.{EntryPoint}
use Rattle.shader_analysis_spec.specs.Kills.{HasOrigin}
use Rattle.shader_analysis_spec.specs.Origins.{HasResultValue, IsSource, ResultOrigin}
use Rattle.shader_analysis_spec.specs.Program.{Function, Module, Expression, Label, Leaf, Call, IsExpressionAt, expression_operands}
use Rattle.shader_analysis_spec.specs.Program.{statements}
use Rattle.shader_uniformity_trace.specs.declared.link.FunctionLocation.{FunctionLocation}
use Rattle.shader_uniformity_trace.specs.declared.link.FunctionLocation.TheVariants as location
use Rattle.shader_uniformity_trace.specs.declared.link.Link.{Link}
use Rattle.shader_uniformity_trace.specs.declared.link.Link.TheVariants as link

-- f is the function at the location
abbrev pub IsFunctionAt : Module → FunctionLocation → Function → Type 0
IsFunctionAt m (location.Function i) f = slice_get m.functions i ≡ Some f
IsFunctionAt m (location.EntryPoint i) f = (entry : EntryPoint) × (slice_get m.entry_points i ≡ Some entry) × (entry.function ≡ f)

abbrev pub HasFunction : Module → FunctionLocation → Type 0
HasFunction m at = (f : Function) × IsFunctionAt m at f

-- the number of functions before the location; all functions come before an entry point
abbrev pub earlier_functions : Module → FunctionLocation → ℕ
earlier_functions m (location.Function i) = i
earlier_functions m (location.EntryPoint i) = length m.functions

-- the link has an origin, interprocedurally
abbrev pub HasOriginAt : Module → Link → Type 0
HasOriginAt m (link.Expression at e) = (f : Function) × IsFunctionAt m at f × HasOrigin m f e
HasOriginAt m (link.Result at) = (f : Function) × IsFunctionAt m at f × ((r : Function) × (h : ℕ) × ResultOrigin m f r h)

module _ (m : Module) where
  -- the first link depends on the second. An expression depends on an operand, or on the result of the function whose CallResult it is; a
  -- function's result depends on an expression that it yields, or on the result of a callee
  pub data LinksTo : Link → Link → Type 0 where
    operand : {at : FunctionLocation} {e h : ℕ} (f : Function) {x : Expression} {label : Label} → IsFunctionAt m at f →
        IsExpressionAt f e x →
        Contains (expression_operands x) (h, label) → LinksTo (link.Expression at e) (link.Expression at h)
    result : {at : FunctionLocation} {e c : ℕ} (f : Function) → IsFunctionAt m at f → IsExpressionAt f e (form.CallResult c) →
        LinksTo (link.Expression at e) (link.Result (location.Function c))
    value : {at : FunctionLocation} {e : ℕ} (f : Function) → IsFunctionAt m at f → HasResultValue f e →
        LinksTo (link.Result at) (link.Expression at e)
    by_callee : {at : FunctionLocation} {c : ℕ} (f : Function) {arguments : List ℕ} {value : Option ℕ} → IsFunctionAt m at f →
        Contains (statements f.body) (Leaf (Call c arguments value)) → LinksTo (link.Result at) (link.Result (location.Function c))

  -- the link is an expression that is a source
  pub data IsSourceAt : Link → Type 0 where
    source : {at : FunctionLocation} {h : ℕ} (f : Function) → IsFunctionAt m at f → IsSource m f h → IsSourceAt (link.Expression at h)

  -- the links from the first to the last, each of which depends on the next
  pub data IsChain : Link → List Link → Link → Type 0 where
    one : {first : Link} → IsChain first (first ∷ []) first
    more : {first next last : Link} {links : List Link} → LinksTo first next → IsChain next links last → IsChain first (first ∷ links) last

-- a chain from the first link to a source
pub record IsOriginChain (m : Module) (first : Link) (links : List Link) : Type 0 where
  pub last : Link
  pub chain : IsChain m first links last
  pub source : IsSourceAt m last

-- the beginning of a chain to a source, of at most so many links: all of it, or so many links, the last of which has an origin
pub record BeginsChain (m : Module) (first : Link) (most : ℕ) (links : List Link) : Type 0 where
  pub last : Link
  pub chain : IsChain m first links last
  pub ends : IsSourceAt m last ⊎ ((length links ≡ most) × HasOriginAt m last)

-- the beginning of a chain if there is an origin, and None if there is none
abbrev pub ExplainsBeginning : Module → Link → ℕ → Option (List Link) → Type 0
ExplainsBeginning m first most (Some links) = BeginsChain m first most links
ExplainsBeginning m first most None = HasOriginAt m first → ⊥

-- a chain if there is an origin, and None if there is none
abbrev pub Explains : Module → Link → Option (List Link) → Type 0
Explains m first (Some links) = IsOriginChain m first links
Explains m first None = HasOriginAt m first → ⊥

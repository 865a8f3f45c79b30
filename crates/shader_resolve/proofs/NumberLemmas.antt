-- The handles that determine known numbers and sizes.
use Rattle.std.proofs.Common.{sym, subst, ℕ, zero, suc, ◌<◌, List, [], ◌∷◌, Option}
use Rattle.std.proofs.Common.{Some, None, IfSome, All, length, slice_get, arith}
use Rattle.std.specs.Option.{IsSomeAnd}
use Rattle.std.proofs.lemmas.List.Elements.{All-head, All-tail, All-weaker}
use Rattle.shader_ir.specs.KnownNumbers.{IsConstantInRange, IsOverrideInRange, IsStepInRange, IsKnownInRange}
use Rattle.shader_ir.specs.KnownNumbers.{IsInitInRange, IsSizeInRange, IsSizerInRange, IsSizingInRange}
use Rattle.shader_ir.specs.Sizes.{IsCountInRange, IsTypeSizeInRange}
use Rattle.shader_ir.specs.declared.expression.Expression.{Expression}
use Rattle.shader_ir.specs.declared.expression.Expression.TheVariants as form
use Rattle.shader_ir.specs.declared.«module».Constant.{Constant}
use Rattle.shader_ir.specs.declared.«module».GlobalCtx.{GlobalCtx}
use Rattle.shader_ir.specs.declared.«module».Module.{Module}
use Rattle.shader_ir.specs.declared.«module».Override.{Override}
use Rattle.shader_ir.specs.declared.types.«Type».{«Type»}
use Rattle.shader_ir.specs.declared.types.ArraySize.{ArraySize}
use Rattle.shader_ir.specs.declared.types.ArraySize.TheVariants.{Pending}
use Rattle.shader_ir.specs.declared.types.TypeInner.{TypeInner}
use Rattle.shader_ir.specs.declared.types.TypeInner.TheVariants.{Array}
use Rattle.shader_resolve.specs.ContextLaws.{IsCtxOf, NumbersFit}
use Rattle.shader_resolve.specs.WellFormed.{pending_size, sizing_override}

-- a property of each item holds of the one at a position below the length
found : {T : Type 0} (P : T → Type 0) (items : List T) (position : ℕ) → All P items → position < length items →
    IsSomeAnd (slice_get items position) P
found P [] position all lt = absurd (omega arith)
found P (item ∷ items) zero all lt = All-head P item items all
found P (item ∷ items) (suc position) all lt = found P items position (All-tail P item items all) (omega arith)

-- the constants and overrides that a global expression names are in range
abbrev pub IsStep : List Constant → List Override → Expression → Type 0
IsStep constants overrides (form.Constant constant) = constant < length constants
IsStep constants overrides (form.Override override) = override < length overrides
IsStep constants overrides _ = Unit {0}

-- the handles that determine known numbers are in range
pub record Numbered (types : List «Type») (constants : List Constant) (overrides : List Override)
    (expressions : List Expression) : Type 0 where
  pub sizes : All (λ (type : «Type»). IfSome (sizing_override type.inner) (λ override. override < length overrides)) types
  pub constants_in : All (λ (constant : Constant). constant.init < length expressions) constants
  pub overrides_in : All (λ (override : Override). IfSome override.init (λ init. init < length expressions)) overrides
  pub steps : All (IsStep constants overrides) expressions

module _ (ctx : GlobalCtx) (numbered : Numbered ctx.types.now ctx.constants.now ctx.overrides.now ctx.global_expressions.now) where
  constant-in : (constant : Option Constant) → IsSomeAnd constant (λ constant. constant.init < length ctx.global_expressions.now) →
      IsConstantInRange ctx constant
  constant-in (Some constant) lt = lt
  constant-in None none = none

  init-in : (init : Option ℕ) → IfSome init (λ init. init < length ctx.global_expressions.now) → IsInitInRange ctx init
  init-in (Some init) lt = lt
  init-in None none = tt

  override-in : (override : Option Override) → IsSomeAnd override
      (λ override. IfSome override.init (λ init. init < length ctx.global_expressions.now)) → IsOverrideInRange ctx override
  override-in (Some override) lt = init-in override.init lt
  override-in None none = none

  step-in : (expression : Option Expression) → IsSomeAnd expression (IsStep ctx.constants.now ctx.overrides.now) →
      IsStepInRange ctx expression
  step-in (Some (form.Constant constant)) lt = (
    lt,
    constant-in (slice_get ctx.constants.now constant)
        (found _ ctx.constants.now constant numbered.constants_in lt),
  )
  step-in (Some (form.Override override)) lt = (
    lt,
    override-in (slice_get ctx.overrides.now override)
        (found _ ctx.overrides.now override numbered.overrides_in lt),
  )
  step-in (Some expression) any = tt
  step-in None none = tt

  known-in : (expression : ℕ) → expression < length ctx.global_expressions.now → IsKnownInRange ctx expression
  known-in expression lt = (
    lt,
    step-in (slice_get ctx.global_expressions.now expression)
        (found _ ctx.global_expressions.now expression numbered.steps lt),
  )

  sizing-in : (init : Option ℕ) → IfSome init (λ init. init < length ctx.global_expressions.now) → IsSizingInRange ctx init
  sizing-in (Some init) lt = known-in init lt
  sizing-in None none = tt

  sizer-in : (override : Option Override) → IsSomeAnd override
      (λ override. IfSome override.init (λ init. init < length ctx.global_expressions.now)) → IsSizerInRange ctx override
  sizer-in (Some override) lt = sizing-in override.init lt
  sizer-in None none = none

  size-in : (override : ℕ) → override < length ctx.overrides.now → IsSizeInRange ctx override
  size-in override lt = (lt, sizer-in (slice_get ctx.overrides.now override) (found _ ctx.overrides.now override numbered.overrides_in lt))

  count-in : (size : ArraySize) → IfSome (pending_size size) (λ override. override < length ctx.overrides.now) → IsCountInRange ctx size
  count-in (Pending override) lt = size-in override lt
  count-in size none = tt

  type-in : (inner : TypeInner) → IfSome (sizing_override inner) (λ override. override < length ctx.overrides.now) →
      IsTypeSizeInRange ctx inner
  type-in (Array base size stride) lt = count-in size lt
  type-in inner any = tt

  -- the override that sizes a type is in range
  abbrev IsSized : «Type» → Type 0
  IsSized type = IfSome (sizing_override type.inner) (λ override. override < length ctx.overrides.now)

  numbers-fit : NumbersFit ctx
  numbers-fit = record {
    expressions = known-in;
    overrides = size-in;
    type_sizes =
        All-weaker IsSized (λ (type : «Type»). IsTypeSizeInRange ctx type.inner) (λ type sized. type-in type.inner sized) ctx.types.now
        numbered.sizes;
  }

-- the handles are in range in a context of a module's fields
pub module-numbers : (checked : Module) → Numbered checked.types checked.constants checked.overrides checked.global_expressions →
    (ctx : GlobalCtx) → IsCtxOf checked ctx → NumbersFit ctx
module-numbers checked numbered ctx is =
    numbers-fit ctx
    (subst (λ types. Numbered types ctx.constants.now ctx.overrides.now ctx.global_expressions.now) (sym is.types)
    (subst (λ constants. Numbered checked.types constants ctx.overrides.now ctx.global_expressions.now) (sym is.constants)
    (subst (λ overrides. Numbered checked.types checked.constants overrides ctx.global_expressions.now) (sym is.overrides)
    (subst (λ expressions. Numbered checked.types checked.constants checked.overrides expressions) (sym is.global_expressions) numbered))))

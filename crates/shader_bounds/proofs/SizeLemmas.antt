-- Numbers behind handles out of range.
use Rattle.std.proofs.Common.{◌≡◌, ◌∙◌, ℕ, ◌<◌, List, length, slice_get, Option, Some, None, Err, ap, refl, subst, sym}
use Rattle.std.proofs.lemmas.Option.{slice_get_within}
use Rattle.shader_ir.specs.KnownNumbers.{constant_index, index_in, index_size, initial_index, known_index, literal_in, optional_index}
use Rattle.shader_ir.specs.KnownNumbers.{override_index, override_size, sizer, sizing, IsConstantInRange, IsInitInRange, IsKnownInRange}
use Rattle.shader_ir.specs.KnownNumbers.{IsOverrideInRange, IsSizeInRange, IsSizerInRange, IsSizingInRange, IsStepInRange}
use Rattle.shader_ir.specs.declared.expression.Expression.{Expression}
use Rattle.shader_ir.specs.declared.expression.Expression.TheVariants.{Constant, Override}
use Rattle.shader_ir.specs.declared.«module».Constant as c
use Rattle.shader_ir.specs.declared.«module».GlobalCtx.{GlobalCtx}
use Rattle.shader_ir.specs.declared.«module».Module.{Module}
use Rattle.shader_ir.specs.declared.«module».Override as o
use Rattle.shader_ir.specs.declared.proc.known_numbers.KnownIndex.TheVariants.{NotInteger}
use Rattle.shader_ir.specs.declared.proc.known_numbers.ResolveArraySizeError.TheVariants.{NonConstArrayLength}
use Rattle.shader_ir.specs.declared.types.«Type».{«Type»}
use Rattle.shader_bounds.specs.Lengths.{globals_of}

module _ (ctx : GlobalCtx) where
  abbrev globals : List Expression
  globals = ctx.global_expressions.now

  init_absent : (init : ℕ) → ¬ (init < length globals) → initial_index globals init ≡ NotInteger
  init_absent init out = by (slice_get globals init) refl
    where
      by : (found : Option Expression) → slice_get globals init ≡ found → literal_in found ≡ NotInteger
      by None e = refl
      by (Some expression) e = absurd (out (slice_get_within globals init expression e))

  constant_absent : (handle : ℕ) → ¬ ((handle < length ctx.constants.now) × IsConstantInRange ctx (slice_get ctx.constants.now handle))
      → constant_index ctx (slice_get ctx.constants.now handle) ≡ NotInteger
  constant_absent handle out = by (slice_get ctx.constants.now handle) refl
    where
      by : (found : Option c.Constant) → slice_get ctx.constants.now handle ≡ found → constant_index ctx found ≡ NotInteger
      by None e = refl
      by (Some constant) e =
          init_absent constant.init (λ within. out (
            slice_get_within ctx.constants.now handle constant e,
            subst (λ found. IsConstantInRange ctx found) (sym e) within,
          ))

  optional_absent : (init : Option ℕ) → ¬ IsInitInRange ctx init → optional_index ctx init ≡ NotInteger
  optional_absent None out = refl
  optional_absent (Some init) out = init_absent init out

  override_absent : (handle : ℕ) → ¬ ((handle < length ctx.overrides.now) × IsOverrideInRange ctx (slice_get ctx.overrides.now handle))
      → override_index ctx (slice_get ctx.overrides.now handle) ≡ NotInteger
  override_absent handle out = by (slice_get ctx.overrides.now handle) refl
    where
      by : (found : Option o.Override) → slice_get ctx.overrides.now handle ≡ found → override_index ctx found ≡ NotInteger
      by None e = refl
      by (Some override) e =
          optional_absent override.init (λ within. out (
            slice_get_within ctx.overrides.now handle override e,
            subst (λ found. IsOverrideInRange ctx found) (sym e) within,
          ))

  step_absent : (expression : Expression) → ¬ IsStepInRange ctx (Some expression) → index_in ctx (Some expression) ≡ NotInteger
  step_absent (Constant handle) out = constant_absent handle out
  step_absent (Override handle) out = override_absent handle out
  step_absent _ out = absurd (out tt)

  known_absent : (expression : ℕ) → ¬ IsKnownInRange ctx expression → known_index ctx expression ≡ NotInteger
  known_absent expression out = by (slice_get globals expression) refl
    where
      by : (found : Option Expression) → slice_get globals expression ≡ found → index_in ctx found ≡ NotInteger
      by None e = refl
      by (Some it) e = step_absent it (λ within. out (
        slice_get_within globals expression it e,
        subst (λ found. IsStepInRange ctx found) (sym e) within,
      ))

  sizing_absent : (init : Option ℕ) → ¬ IsSizingInRange ctx init → sizing ctx init ≡ Err NonConstArrayLength
  sizing_absent None out = refl
  sizing_absent (Some init) out = ap index_size (known_absent init out)

  -- an override with a handle out of range gives no size
  pub no_size_out_of_range : (handle : ℕ) → ¬ IsSizeInRange ctx handle → override_size ctx handle ≡ Err NonConstArrayLength
  no_size_out_of_range handle out = by (slice_get ctx.overrides.now handle) refl
    where
      by : (found : Option o.Override) → slice_get ctx.overrides.now handle ≡ found → sizer ctx found ≡ Err NonConstArrayLength
      by None e = refl
      by (Some override) e =
          sizing_absent override.init (λ within. out (
            slice_get_within ctx.overrides.now handle override e,
            subst (λ found. IsSizerInRange ctx found) (sym e) within,
          ))

-- a context of these lists
abbrev over : List «Type» → List c.Constant → List o.Override → List Expression → GlobalCtx
over types constants overrides expressions =
    record {
      types = record { ref_ptr = (0, 0); now = types };
      constants = record { ref_ptr = (0, 0); now = constants };
      overrides = record { ref_ptr = (0, 0); now = overrides };
      global_expressions = record { ref_ptr = (0, 0); now = expressions };
    }

-- a size depends only on the lists of the context
pub same_size : (ctx : GlobalCtx) (checked : Module) (handle : ℕ) → ctx.constants.now ≡ checked.constants →
    ctx.overrides.now ≡ checked.overrides
    → ctx.global_expressions.now ≡ checked.global_expressions → override_size ctx handle ≡ override_size (globals_of checked) handle
same_size ctx checked handle constants overrides expressions =
    ap (λ items. override_size (over checked.types items ctx.overrides.now ctx.global_expressions.now) handle) constants
    ∙ ap (λ items. override_size (over checked.types checked.constants items ctx.global_expressions.now) handle) overrides
    ∙ ap (λ items. override_size (over checked.types checked.constants checked.overrides items) handle) expressions

-- An array among the arguments of a call leaves no rule, as no rule of a built-in function takes one.
use Rattle.std.proofs.Common.{◌≡◌, ℕ, zero, suc, ◌+◌, ◌<◌, Bool, false, ◌&&◌, ◌||◌, List, [], ◌∷◌, ◌++◌}
use Rattle.std.proofs.Common.{Option, Some, None, refl, ap, ◌∙◌, arith, get_or}
use Rattle.std.specs.List.{All, filter, slice_get}
use Rattle.std.specs.Option.{option_and_then}
use Rattle.std.proofs.Math.Bool.{and-false}
use Rattle.std.proofs.lemmas.Bool.{false_from_ne_true}
use Rattle.shader_ir.specs.Key.{inner_of}
use Rattle.shader_ir.specs.TypeTree.{PointsBelow}
use Rattle.shader_ir.specs.declared.operators.MathFunction.{MathFunction}
use Rattle.shader_ir.specs.declared.operators.MathFunction.TheVariants as f
use Rattle.shader_ir.specs.declared.proc.type_resolution.TypeResolution.{TypeResolution}
use Rattle.shader_ir.specs.declared.proc.type_resolution.TypeResolution.TheVariants.{Handle, Value}
use Rattle.shader_ir.specs.declared.types.ArraySize.{ArraySize}
use Rattle.shader_ir.specs.declared.types.ArraySize.TheVariants.{Constant}
use Rattle.shader_ir.specs.declared.types.«Type».{«Type»}
use Rattle.shader_ir.specs.declared.types.TypeInner.{TypeInner}
use Rattle.shader_ir.specs.declared.types.TypeInner.TheVariants as inner
use Rattle.shader_overloads.specs.declared.rule.Rule.{Rule}
use Rattle.shader_overloads.specs.Builtins.{rules_of}
use Rattle.shader_overloads.specs.Remaining.{ArgumentFits, RuleFits, argument_at, list_takes, some_list_takes, some_takes}
use Rattle.shader_overloads.specs.SameType.{same_type}
use Rattle.shader_overloads.proofs.BuiltinLemmas.{rules_fit}
use Rattle.shader_overloads.proofs.TakesLemmas.{same_type-reported}
use Rattle.shader_type_text.specs.declared.types.PlainType.{PlainType}
use Rattle.shader_type_text.specs.declared.types.SpelledType.{SpelledType}
use Rattle.shader_type_text.specs.declared.types.SpelledType.TheVariants.{Array}
use Rattle.shader_type_text.specs.Insertions.{own_types}
use Rattle.typer_answers.specs.Calls.{takes_all, takes_argument}
use Rattle.typer_answers.specs.Laws.{ArraysLeaveNoRule}

-- no handle is below 0
none_below : (handle : ℕ) (handles : List ℕ) → All (λ h. h < 0) (handle ∷ handles) → ⊥
none_below handle handles below =
    let none : handle < 0 = below 0 handle (omega arith) in
    absurd (omega arith)

-- ---- lists

module _ (types : List «Type») (base stride : ℕ) (size : ArraySize) where
  abbrev array : TypeInner
  array = inner.Array base size stride

  differs : (argument : TypeInner) → (array ≡ argument → ⊥) → (same_type array argument || false) ≡ false
  differs argument other =
      ap (λ (b : Bool). b || false) (false_from_ne_true (same_type array argument) (λ e. other (same_type-reported array argument e)))

  -- a type that names no other doesn't take an array
  array_taken : (argument : TypeInner) → PointsBelow 0 argument → list_takes types array argument ≡ false
  array_taken (inner.Scalar scalar) below = differs (inner.Scalar scalar) (λ e. absurd (cc))
  array_taken (inner.Vector n scalar) below = differs (inner.Vector n scalar) (λ e. absurd (cc))
  array_taken (inner.Matrix columns rows scalar) below = differs (inner.Matrix columns rows scalar) (λ e. absurd (cc))
  array_taken (inner.CooperativeMatrix columns rows scalar role) below =
      differs (inner.CooperativeMatrix columns rows scalar role) (λ e. absurd (cc))
  array_taken (inner.Atomic scalar) below = differs (inner.Atomic scalar) (λ e. absurd (cc))
  array_taken (inner.Pointer to space) below = absurd (none_below to [] below)
  array_taken (inner.ValuePointer n scalar space) below = differs (inner.ValuePointer n scalar space) (λ e. absurd (cc))
  array_taken (inner.Array to other distance) below = absurd (none_below to [] below)
  array_taken (inner.Struct span members) below = differs (inner.Struct span members) (λ e. absurd (cc))
  array_taken (inner.Image dim arrayed class) below = differs (inner.Image dim arrayed class) (λ e. absurd (cc))
  array_taken (inner.Sampler comparison) below = differs (inner.Sampler comparison) (λ e. absurd (cc))
  array_taken (inner.AccelerationStructure vertex_return) below = differs (inner.AccelerationStructure vertex_return) (λ e. absurd (cc))
  array_taken (inner.RayQuery vertex_return) below = differs (inner.RayQuery vertex_return) (λ e. absurd (cc))
  array_taken (inner.BindingArray to other) below = absurd (none_below to [] below)

  argument_taken : (argument : TypeResolution) → ArgumentFits [] argument →
      some_list_takes types array (inner_of types argument) ≡ false
  argument_taken (Value argument) fits = array_taken argument fits.0.0
  argument_taken (Handle handle) fits =
      let none : handle < 0 = fits.0 in
      absurd (omega arith)

  -- nor does an argument of a rule that fits an empty arena
  arguments_taken : (i : ℕ) (arguments : List TypeResolution) → All (ArgumentFits []) arguments →
      some_list_takes types array (option_and_then (inner_of types) (slice_get arguments i)) ≡ false
  arguments_taken i [] fits = refl
  arguments_taken zero (argument ∷ arguments) fits = argument_taken argument (fits 0 argument (omega arith))
  arguments_taken (suc i) (argument ∷ arguments) fits = arguments_taken i arguments (λ k d h. fits (suc k) d (omega arith))

-- ---- regular sets

some_taken : (base stride : ℕ) (size : ArraySize) (found : Option TypeInner) → some_takes (inner.Array base size stride) found ≡ false
some_taken base stride size None = refl
some_taken base stride size (Some argument) = refl

-- ---- calls

array_refused : (function : MathFunction) (position : ℕ) (base : PlainType) (count stride : ℕ) (rule : Rule) → RuleFits [] rule →
    takes_argument function position (Array base count stride) rule ≡ false
array_refused f.Ldexp position base count stride rule fits =
    arguments_taken (own_types (Array base count stride)) 0 stride (Constant count) position rule.arguments fits
array_refused f.Outer position base count stride rule fits =
    arguments_taken (own_types (Array base count stride)) 0 stride (Constant count) position rule.arguments fits
array_refused f.Refract position base count stride rule fits =
    arguments_taken (own_types (Array base count stride)) 0 stride (Constant count) position rule.arguments fits
array_refused f.Transpose position base count stride rule fits =
    arguments_taken (own_types (Array base count stride)) 0 stride (Constant count) position rule.arguments fits
array_refused f.ExtractBits position base count stride rule fits =
    arguments_taken (own_types (Array base count stride)) 0 stride (Constant count) position rule.arguments fits
array_refused f.InsertBits position base count stride rule fits =
    arguments_taken (own_types (Array base count stride)) 0 stride (Constant count) position rule.arguments fits
array_refused f.Mix position base count stride rule fits =
    arguments_taken (own_types (Array base count stride)) 0 stride (Constant count) position rule.arguments fits
array_refused function position base count stride rule fits =
    some_taken 0 stride (Constant count) (argument_at (own_types (Array base count stride)) position rule)

-- wherever the array stands
array_among : (function : MathFunction) (position : ℕ) (before after : List SpelledType) (base : PlainType) (count stride : ℕ)
    (rule : Rule) → RuleFits [] rule → takes_all function position (before ++ Array base count stride ∷ after) rule ≡ false
array_among function position [] after base count stride rule fits =
    ap (λ (b : Bool). b && takes_all function (position + 1) after rule) (array_refused function position base count stride rule fits)
array_among function position (argument ∷ before) after base count stride rule fits =
    ap (λ (b : Bool). takes_argument function position argument rule && b)
    (array_among function (position + 1) before after base count stride rule fits)
    ∙ and-false (takes_argument function position argument rule)

none_passes : (p : Rule → Bool) (rules : List Rule) → All (λ rule. p rule ≡ false) rules → filter p rules ≡ []
none_passes p [] refused = refl
none_passes p (rule ∷ rules) refused =
    rw (refused 0 rule (omega arith), none_passes p rules (λ k d h. refused (suc k) d (omega arith))) refl

pub arrays_leave_no_rule : ArraysLeaveNoRule
arrays_leave_no_rule function before after base count stride =
    none_passes _ (rules_of function) (λ k d h. array_among function 0 before after base count stride (get_or (rules_of function) k d)
    ((rules_fit [] function).each k d h))

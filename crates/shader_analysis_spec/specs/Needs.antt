-- Needs of uniform flow, interprocedurally.
use Rattle.std.specs.Prelude.{◌≡◌, ◌==◌, ℕ, ◌<◌, ◌≤◌, Bool, true, false, Some, slice_get, IsTrue}
use Rattle.std.specs.Int.{bit_at}
use Rattle.std.specs.List.{Contains}
use Rattle.shader_ir.specs.declared.expression.Expression.TheVariants as form
use Rattle.shader_ir.specs.declared.expression.SampleLevel.{SampleLevel}
use Rattle.shader_ir.specs.declared.expression.SampleLevel.TheVariants as level
use Rattle.shader_analysis_spec.specs.Program.{Function, Module, Expression, Step, Leaf, Simple, Emit, ControlBarrier, MemoryBarrier}
use Rattle.shader_analysis_spec.specs.Program.{WorkGroupUniformLoad, CooperativeStore, IsExpressionAt, statements}
use Rattle.shader_analysis_spec.specs.Calls.{CallPath}

-- a need: all invocations of a work group, of a quad or of a subgroup take part
pub data Need : Type 0 where
  WorkGroupBarrier Derivative ImplicitLevel CooperativeOperation : Need

-- the bit of a need
abbrev pub bit_of_need : Need → ℕ
bit_of_need WorkGroupBarrier = 0
bit_of_need Derivative = 1
bit_of_need ImplicitLevel = 2
bit_of_need CooperativeOperation = 3

-- true if the number has the bit of the need
abbrev pub has_need : ℕ → Need → Bool
has_need number n = bit_at number (bit_of_need n) == 1

-- true if the level is computed from neighbouring invocations
abbrev pub is_implicit : SampleLevel → Bool
is_implicit level.Auto = true
is_implicit (level.Bias bias) = true
is_implicit _ = false

-- true if an expression has the need by its own variant
abbrev pub expression_requires : Expression → Need → Bool
expression_requires (form.ImageSample image sampler gather clamp_to_edge coordinate array_index offset level depth_ref) ImplicitLevel =
    is_implicit level
expression_requires (form.Derivative axis ctrl expr) Derivative = true
expression_requires (form.CooperativeLoad columns rows role tile) CooperativeOperation = true
expression_requires (form.CooperativeMultiplyAdd a b c) CooperativeOperation = true
expression_requires _ _ = false

abbrev pub simple_requires : Simple → Need → Bool
simple_requires (ControlBarrier barrier) WorkGroupBarrier = true
simple_requires (MemoryBarrier barrier) WorkGroupBarrier = true
simple_requires (WorkGroupUniformLoad pointer result) WorkGroupBarrier = true
simple_requires (CooperativeStore target tile) CooperativeOperation = true
simple_requires _ _ = false

-- true if a statement has the need
abbrev pub statement_requires : Step → Need → Bool
statement_requires (Leaf simple) n = simple_requires simple n
statement_requires _ n = false

-- an Emit of f covers e
pub record Emitted (f : Function) (e : ℕ) : Type 0 where
  pub start : ℕ
  pub finish : ℕ
  pub holds : Contains (statements f.body) (Leaf (Emit start finish))
  pub from : start ≤ e
  pub to : e < finish

module _ (m : Module) (n : Need) where
  mutual
    -- f needs n
    pub data Needs : Function → Type 0 where
      by_statement : {f r : Function} {s : Step} → CallPath m f r → Contains (statements r.body) s → IsTrue (statement_requires s n) →
          Needs f
      by_expression : {f r : Function} (e : ℕ) → CallPath m f r → Emitted r e → ExpressionNeeds r e → Needs f

    -- expression e of f has the need by its own variant, or as the result of a call of a function that has it
    pub data ExpressionNeeds : Function → ℕ → Type 0 where
      by_form : {f : Function} {e : ℕ} {x : Expression} → IsExpressionAt f e x → IsTrue (expression_requires x n) → ExpressionNeeds f e
      by_callee : {f d : Function} {e c : ℕ} → IsExpressionAt f e (form.CallResult c) → slice_get m.functions c ≡ Some d → Needs d →
          ExpressionNeeds f e

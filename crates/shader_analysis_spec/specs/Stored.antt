-- Composition of the step, function by function, over the infos stored so far.
use Rattle.std.specs.Prelude.{◌≡◌, ℕ, ◌<◌, List, [], ◌∷◌, ◌++◌, Option, Some, slice_get, length}
use Rattle.std.specs.List.{Contains}
use Rattle.shader_ir.specs.declared.expression.Expression.TheVariants as form
use Rattle.shader_analysis_spec.specs.Program.{Function, Module, Expression, Label, expression_operands, IsExpressionAt}
use Rattle.shader_analysis_spec.specs.Infos.{Info, IsWitness, HasCallee, IsOrdered, Pairwise}
use Rattle.shader_analysis_spec.specs.Origins.{IsSource}
use Rattle.shader_analysis_spec.specs.Steps.{MeetsSteps, StepOrigin}
use Rattle.shader_analysis_spec.specs.Exact.{IsExact}

-- if the stored infos are exact, so is the info of the next function that meets the step equations over them
abbrev pub NextIsExact : Type 0
NextIsExact = (m : Module) (stored : List Info) (f : Function) (info : Info) → IsOrdered m →
    slice_get m.functions (length stored) ≡ Some f →
    Pairwise (IsExact m) m stored → MeetsSteps m stored f info → Pairwise (IsExact m) m (stored ++ info ∷ [])

-- if the stored infos are exact, so is the info of an entry point, which no function names
abbrev pub EntryIsExact : Type 0
EntryIsExact = (m : Module) (stored : List Info) (f : Function) (info : Info) → length stored ≡ length m.functions →
    ((c : ℕ) → HasCallee f c → c < length m.functions) → Pairwise (IsExact m) m stored → MeetsSteps m stored f info → IsExact m f info

-- expression e itself if it is a source of f, an origin recorded of one of its operands, or the one recorded of the result of its callee
pub data StepOperand (m : Module) (infos : List Info) (f : Function) (recorded : List (Option ℕ)) (e : ℕ) : ℕ → Type 0 where
  itself : IsSource m f e → StepOperand m infos f recorded e e
  operand : {h : ℕ} {x : Expression} {o : ℕ × Label} → IsExpressionAt f e x → Contains (expression_operands x) o →
      slice_get recorded o.0 ≡ Some (Some h) →
      StepOperand m infos f recorded e h
  callee : {h c : ℕ} {info : Info} → IsExpressionAt f e (form.CallResult c) → slice_get infos c ≡ Some info →
      info.non_uniform_result ≡ Some h →
      StepOperand m infos f recorded e h

-- recording origins operand by operand, in order, gives those that the step equation requires
abbrev pub OperandsGiveOrigins : Type 0
OperandsGiveOrigins = (m : Module) (infos : List Info) (f : Function) (recorded : List (Option ℕ)) →
    length recorded ≡ length f.expressions →
    ((e : ℕ) (x : Expression) (o : ℕ × Label) → IsExpressionAt f e x → Contains (expression_operands x) o → o.0 < e) →
    ((e : ℕ) (r : Option ℕ) → slice_get recorded e ≡ Some r → IsWitness (StepOperand m infos f recorded e) r) →
    (e : ℕ) (r : Option ℕ) → slice_get recorded e ≡ Some r → IsWitness (StepOrigin m infos f e) r

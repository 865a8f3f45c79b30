-- The types of expressions as derivations from expressions without operands upwards.
use Rattle.std.specs.Prelude.{◌≡◌, ℕ, List, Some, slice_get, length}
use Rattle.std.specs.List.{Contains}
use Rattle.shader_ir.specs.declared.proc.type_resolution.TypeResolution.{TypeResolution}
use Rattle.shader_resolve.specs.Context.{Context, context_of}
use Rattle.shader_resolve.specs.Outcome.{Outcome, Given, Refused, Refusal}
use Rattle.shader_resolve.specs.TypingRules.{Plain, One, Two, typing_rule}
use Rattle.shader_analysis_spec.specs.Program.{Function, Module, Expression, Label, expression_operands}

module _ (context : Context) (expressions : List Expression) where
  -- the typing rule of expression e gives this outcome for the types of the operands that it queries
  mutual
    pub data Answers : ℕ → Outcome → Type 0 where
      plain : {e : ℕ} {x : Expression} {outcome : Outcome} → slice_get expressions e ≡ Some x → typing_rule context x ≡ Plain outcome →
          Answers e outcome
      by_one : {e operand : ℕ} {x : Expression} {answer : TypeResolution → Outcome} {reported : TypeResolution} →
          slice_get expressions e ≡ Some x →
          typing_rule context x ≡ One operand answer → Derives operand reported → Answers e (answer reported)
      by_two : {e left right : ℕ} {x : Expression} {answer : TypeResolution → TypeResolution → Outcome} {first second : TypeResolution} →
          slice_get expressions e ≡ Some x → typing_rule context x ≡ Two left right answer → Derives left first → Derives right second →
          Answers e (answer first second)

    -- expression e has the type
    pub data Derives : ℕ → TypeResolution → Type 0 where
      given : {e : ℕ} {outcome : Outcome} {resolution : TypeResolution} → Answers e outcome → outcome ≡ Given resolution →
          Derives e resolution

  -- each operand of expression e has a type, and the typing rule of e rejects these types with this refusal
  pub record IsRefused (e : ℕ) (refusal : Refusal) : Type 0 where
    pub expression : Expression
    pub is_there : slice_get expressions e ≡ Some expression
    pub operands : (operand : ℕ × Label) → Contains (expression_operands expression) operand →
        (resolution : TypeResolution) × Derives operand.0 resolution
    pub refused : Answers e (Refused refusal)

  -- the list has the type of each expression, in order
  pub record AreTypes (types : List TypeResolution) : Type 0 where
    pub complete : length types ≡ length expressions
    pub derived : (e : ℕ) (resolution : TypeResolution) → slice_get types e ≡ Some resolution → Derives e resolution

-- the module data that the types of a function's expressions depend on
abbrev pub function_context : Module → Function → Context
function_context m f = context_of m f.local_variables f.arguments

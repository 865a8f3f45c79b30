-- Growth of a table of types.
use Rattle.std.specs.Prelude.{◌≡◌, ◌≤◌, ◌⊎◌, ◌++◌, ◌∷◌, [], ℕ, List, take, Err, Some, length, slice_get}
use Rattle.shader_ir.specs.declared.expression.Expression.{Expression}
use Rattle.shader_ir.specs.declared.proc.type_resolution.TypeResolution.{TypeResolution}
use Rattle.shader_ir.specs.Key.{FitsTypes}
use Rattle.shader_resolve.specs.Context.{Context, IsInRange}
use Rattle.shader_resolve.specs.DerivesByRule.{memory_of}
use Rattle.shader_resolve.specs.Outcome.{Given}
use Rattle.shader_resolve.specs.Stored.{IsOutcomeOf, outcome_at}
use Rattle.shader_resolve.specs.TypingRules.{typing_rule}
use Rattle.shader_resolve.specs.WellFormed.{OperandsBelow}
use Rattle.shader_resolve.specs.declared.error.ResolveError.{ResolveError}
use Rattle.shader_resolve.specs.declared.error.ResolveError.TheVariants as resolve
use Rattle.shader_typifier.specs.declared.error.TypifyError.{TypifyError}
use Rattle.shader_typifier.specs.declared.error.TypifyError.TheVariants as error

module _ (context : Context) (stored : List TypeResolution) (x : Expression) where
  -- the expression has the type, given the stored types of earlier ones
  pub record IsTyped (resolution : TypeResolution) : Type 0 where
    pub names : IsInRange context x
    pub operands : OperandsBelow (length stored) x
    pub reported : outcome_at stored (typing_rule context x) ≡ Some (Given resolution)
    pub fits : FitsTypes context.types resolution

  -- its typing rule gives a type that is out of range
  pub record GivesNoType : Type 0 where
    pub resolution : TypeResolution
    pub reported : outcome_at stored (typing_rule context x) ≡ Some (Given resolution)
    pub unfit : FitsTypes context.types resolution → ⊥

  -- memory ran out for the expression's type, which the table would store
  pub record RunsOut (failure : ResolveError) : Type 0 where
    pub resolution : TypeResolution
    pub typed : IsTyped resolution
    pub out_of_memory : failure ≡ resolve.OutOfMemory

  -- the error is a reason to reject the expression
  abbrev pub IsRefusedAs : TypifyError → Type 0
  IsRefusedAs error.HandleOutOfRange = (IsInRange context x → ⊥) ⊎ GivesNoType
  IsRefusedAs error.OperandNotEarlier = OperandsBelow (length stored) x → ⊥
  IsRefusedAs (error.Resolve failure) = IsOutcomeOf stored (memory_of x) (typing_rule context x) (Err failure) ⊎ RunsOut failure

module _ (context : Context) (expressions : List Expression) where
  -- the table grows by the types of the next expressions, each given the types stored before it
  pub data Grows (from : List TypeResolution) : List TypeResolution → Type 0 where
    stays : Grows from from
    grows : {stored : List TypeResolution} {x : Expression} {resolution : TypeResolution} → Grows from stored →
        slice_get expressions (length stored) ≡ Some x → IsTyped context stored x resolution → Grows from (stored ++ resolution ∷ [])

  -- from an index on, each type is that of its expression, at the types before it
  abbrev pub AreTyped : ℕ → List TypeResolution → Type 0
  AreTyped first stored = (e : ℕ) (x : Expression) (resolution : TypeResolution) → first ≤ e → slice_get expressions e ≡ Some x →
      slice_get stored e ≡ Some resolution → IsTyped context (take e stored) x resolution

  -- the error is a reason to reject the next expression
  pub record IsRefusedNext (stored : List TypeResolution) (failure : TypifyError) : Type 0 where
    pub expression : Expression
    pub is_there : slice_get expressions (length stored) ≡ Some expression
    pub refused : IsRefusedAs context stored expression failure

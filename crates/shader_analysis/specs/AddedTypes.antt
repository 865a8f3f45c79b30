-- The effect of one more global expression on a record.
use Rattle.std.specs.Prelude.{◌≡◌, ◌<◌, All, List, [], ◌∷◌, ◌++◌, ◌⊎◌, ℕ, Some, slice_get, length}
use Rattle.shader_analysis_spec.specs.Derivable.{Derives, IsRefused}
use Rattle.shader_analysis_spec.specs.Program.{Expression}
use Rattle.shader_expression_types.specs.Typed.{AreOfTheFirst}
use Rattle.shader_ir.specs.Key.{FitsTypes}
use Rattle.shader_ir.specs.TypeTree.{IsBackward}
use Rattle.shader_ir.specs.declared.proc.type_resolution.TypeResolution.{TypeResolution}
use Rattle.shader_resolve.specs.Context.{Context, IsInRange, TypesInRange}
use Rattle.shader_resolve.specs.DerivesByRule.{memory_of}
use Rattle.shader_resolve.specs.Outcome.{Given, IsOutOfMemory, refusal_of}
use Rattle.shader_resolve.specs.Stored.{outcome_at}
use Rattle.shader_resolve.specs.TypingRules.{typing_rule}
use Rattle.shader_resolve.specs.WellFormed.{OperandsBelow}
use Rattle.shader_resolve.specs.declared.error.ResolveError.{ResolveError}
use Rattle.shader_resolve.specs.declared.error.ResolveError.TheVariants.{OutOfMemory}
use Rattle.shader_analysis.specs.Recorded.{Recorded}

module _ (context : Context) (expressions : List Expression) where
  -- the expression is the next, what it names exists, its operands are earlier, and the stored types name only types that exist
  pub record CanType (types : List TypeResolution) (e : ℕ) : Type 0 where
    pub next : e ≡ length types
    pub there : e < length expressions
    pub backward : IsBackward context.types
    pub names : (x : Expression) → slice_get expressions e ≡ Some x → IsInRange context x
    pub operands : (x : Expression) → slice_get expressions e ≡ Some x → OperandsBelow e x
    pub fit : All (FitsTypes context.types) types

  -- the type is the rule's outcome at the types before it, and that of the next expression if those before it have theirs; it names only
  -- types that exist if those of the context do
  pub record IsNextType (types : List TypeResolution) (ty : TypeResolution) : Type 0 where
    pub by_rule : (x : Expression) → slice_get expressions (length types) ≡ Some x →
        outcome_at types (typing_rule context x) ≡ Some (Given ty)
    pub derived : AreOfTheFirst context expressions types → Derives context expressions (length types) ty
    pub fits : TypesInRange context → FitsTypes context.types ty

  -- one type is added, that of the next expression
  pub record AddsType (old new : Recorded) : Type 0 where
    pub ty : TypeResolution
    pub added : new ≡ record old { global_expressions = old.global_expressions ++ ty ∷ [] }
    pub is_next : IsNextType old.global_expressions ty

  -- memory ran out in the next expression's rule, which allocates, or for its type, which it has
  pub data RunsOut (types : List TypeResolution) (failure : ResolveError) : Type 0 where
    in_rule : (x : Expression) → slice_get expressions (length types) ≡ Some x → IsOutOfMemory (memory_of x) failure → RunsOut types failure
    for_type : (ty : TypeResolution) → Derives context expressions (length types) ty → failure ≡ OutOfMemory → RunsOut types failure

  -- if the expressions before it have their types, the next one is refused so, or memory ran out
  abbrev pub IsTypeRefusal : List TypeResolution → ResolveError → Type 0
  IsTypeRefusal types failure = AreOfTheFirst context expressions types →
      IsRefused context expressions (length types) (refusal_of failure) ⊎ RunsOut types failure

-- The outcome of typing an expression, given a list of the types of the expressions before it.
use Rattle.std.specs.Prelude.{◌≡◌, ℕ, List, Some, Result, slice_get}
use Rattle.shader_ir.specs.declared.proc.type_resolution.TypeResolution.{TypeResolution}
use Rattle.shader_analysis_spec.specs.Derivable.{Derives, IsRefused}
use Rattle.shader_analysis_spec.specs.Program.{Expression}
use Rattle.shader_resolve.specs.declared.error.ResolveError.{ResolveError}
use Rattle.shader_resolve.specs.Context.{Context}
use Rattle.shader_resolve.specs.Outcome.{Given, MeetsWithoutCopy, Memory, Outcome, Refused}

module _ (context : Context) (expressions : List Expression) where
  -- the types are those of the first expressions, in order
  abbrev pub AreOfTheFirst : List TypeResolution → Type 0
  AreOfTheFirst types = (e : ℕ) (resolution : TypeResolution) → slice_get types e ≡ Some resolution →
      Derives context expressions e resolution

  -- the expression has that outcome: the type, or the refusal
  abbrev pub HasOutcome : ℕ → Outcome → Type 0
  HasOutcome e (Given resolution) = Derives context expressions e resolution
  HasOutcome e (Refused refusal) = IsRefused context expressions e refusal

  -- the result meets the expression's outcome
  abbrev pub IsResultOf : ℕ → Memory → Result TypeResolution ResolveError → Type 0
  IsResultOf e memory result = (outcome : Outcome) × HasOutcome e outcome × MeetsWithoutCopy memory result outcome

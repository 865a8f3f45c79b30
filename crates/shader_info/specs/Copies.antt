-- Equal errors: a text is compared byte by byte.
use Rattle.std.specs.Prelude.{◌≡◌}
use Rattle.shader_info.specs.declared.error.AnalysisError.{AnalysisError}
use Rattle.shader_info.specs.declared.error.ExpressionError.{ExpressionError}
use Rattle.shader_info.specs.declared.error.ExpressionError.TheVariants.{Resolve}
use Rattle.shader_info.specs.declared.error.FunctionError.{FunctionError}
use Rattle.shader_info.specs.declared.error.FunctionError.TheVariants.{Expression}
use Rattle.shader_resolve.specs.Outcome.{HasWords, refusal_of, words_of}
use Rattle.shader_resolve.specs.declared.error.ResolveError.{ResolveError}

-- both are the same refusal with the same text
pub record SameRefusal (failure copy : ResolveError) : Type 0 where
  pub refusal : refusal_of copy ≡ refusal_of failure
  pub words : words_of copy ≡ words_of failure

abbrev pub SameExpressionError : ExpressionError → ExpressionError → Type 0
SameExpressionError (Resolve failure) (Resolve copy) = SameRefusal failure copy
SameExpressionError error copy = copy ≡ error

abbrev pub SameFunctionError : FunctionError → FunctionError → Type 0
SameFunctionError (Expression e source) (Expression other copy) = (other ≡ e) × SameExpressionError source copy
SameFunctionError error copy = copy ≡ error

pub record SameAnalysisError (error copy : AnalysisError) : Type 0 where
  pub place : copy.place ≡ error.place
  pub cause : SameFunctionError error.cause copy.cause

-- the error has a text
abbrev pub ExpressionHasText : ExpressionError → Type 0
ExpressionHasText (Resolve failure) = HasWords failure
ExpressionHasText _ = ⊥

abbrev pub HasText : FunctionError → Type 0
HasText (Expression e source) = ExpressionHasText source
HasText _ = ⊥

-- In a well-formed module, the preconditions of type resolution on contexts hold.
use Rattle.std.specs.Prelude.{◌≡◌, ℕ, ◌<◌, List, [], length, All}
use Rattle.shader_ir.specs.KnownNumbers.{IsKnownInRange, IsSizeInRange}
use Rattle.shader_ir.specs.Sizes.{AreTypeSizesInRange}
use Rattle.shader_ir.specs.TypeTree.{IsBackward}
use Rattle.shader_ir.specs.declared.expression.Expression.{Expression}
use Rattle.shader_ir.specs.declared.function.Function.{Function}
use Rattle.shader_ir.specs.declared.function.FunctionArgument.{FunctionArgument}
use Rattle.shader_ir.specs.declared.function.LocalVariable.{LocalVariable}
use Rattle.shader_ir.specs.declared.function.EntryPoint.{EntryPoint}
use Rattle.shader_ir.specs.declared.«module».GlobalCtx.{GlobalCtx}
use Rattle.shader_ir.specs.declared.«module».Module.{Module}
use Rattle.shader_resolve.specs.Context.{Context, context_of, IsInRange, TypesInRange}
use Rattle.shader_resolve.specs.DerivesByRule.{EachQueried}
use Rattle.shader_resolve.specs.TypingRules.{typing_rule}
use Rattle.shader_resolve.specs.WellFormed.{AtEach, IsWellFormed}

-- the handles that determine known numbers and sizes are in range
pub record NumbersFit (ctx : GlobalCtx) : Type 0 where
  pub expressions : (expression : ℕ) → expression < length ctx.global_expressions.now → IsKnownInRange ctx expression
  pub overrides : (override : ℕ) → override < length ctx.overrides.now → IsSizeInRange ctx override
  pub type_sizes : AreTypeSizesInRange ctx

-- each operand that an expression queries is earlier
abbrev pub QueriedEarlier : Context → List Expression → Type 0
QueriedEarlier context expressions =
    AtEach (λ position expression. EachQueried (λ operand. operand < position) (typing_rule context expression)) expressions

module _ (checked : Module) where
  -- for these locals, arguments and expressions: the types that the context names are in range, so is everything that each expression
  -- names, and each operand that it queries is earlier
  pub record ContextFits (locals : List LocalVariable) (arguments : List FunctionArgument) (expressions : List Expression) : Type 0 where
    pub types : TypesInRange (context_of checked locals arguments)
    pub names : All (IsInRange (context_of checked locals arguments)) expressions
    pub queried : QueriedEarlier (context_of checked locals arguments) expressions

  abbrev pub FunctionFits : Function → Type 0
  FunctionFits function = ContextFits function.local_variables function.arguments function.expressions

  abbrev pub EntryPointFits : EntryPoint → Type 0
  EntryPointFits entry = FunctionFits entry.function

  -- the context consists of the module's fields
  pub record IsCtxOf (ctx : GlobalCtx) : Type 0 where
    pub types : ctx.types.now ≡ checked.types
    pub constants : ctx.constants.now ≡ checked.constants
    pub overrides : ctx.overrides.now ≡ checked.overrides
    pub global_expressions : ctx.global_expressions.now ≡ checked.global_expressions

  -- all contexts of functions, entry points and global expressions fit; types name earlier ones, and known numbers can be determined
  pub record ContextsFit : Type 0 where
    pub backward : IsBackward checked.types
    pub functions : All FunctionFits checked.functions
    pub entry_points : All EntryPointFits checked.entry_points
    pub global_expressions : ContextFits [] [] checked.global_expressions
    pub numbers : (ctx : GlobalCtx) → IsCtxOf ctx → NumbersFit ctx

abbrev pub WellFormedContextsFit : Type 0
WellFormedContextsFit = (checked : Module) → IsWellFormed checked → ContextsFit checked

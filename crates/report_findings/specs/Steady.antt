-- Expressions that read nothing that changes while an entry point runs.
use Rattle.std.specs.Prelude.{◌≡◌, ◌&&◌, ◌++◌, ◌∷◌, [], ℕ, nat_eq, Bool, true, false, not, List, Option, Some, None, is_some}
use Rattle.std.specs.Prelude.{map, slice_get}
use Rattle.std.specs.List.{Contains, enumerate_from, list_all}
use Rattle.std.specs.Map.{lookup}
use Rattle.shader_ir.specs.Operands.{expression_operands}
use Rattle.shader_ir.specs.declared.expression.Expression.{Expression}
use Rattle.shader_ir.specs.declared.expression.Expression.TheVariants as form
use Rattle.shader_ir.specs.declared.function.Function.{Function}
use Rattle.shader_ir.specs.declared.module.Module.{Module}
use Rattle.shader_uniformity.specs.Places.{place_at, places}
use Rattle.shader_uniformity.specs.declared.facts.Place.{Place}
use Rattle.shader_uniformity.specs.declared.facts.Place.TheVariants.{Fixed}

-- what an expression of that form reads may change, where it leads to memory of that place. Its operands may change, too
abbrev pub changes : Place → Expression → Bool
changes Fixed (form.GlobalVariable variable) = false
changes place (form.GlobalVariable variable) = true
changes place (form.LocalVariable variable) = true
changes place (form.CallResult function) = true
changes place (form.AtomicResult ty comparison) = true
changes place (form.WorkGroupUniformLoadResult ty) = true
changes place (form.RayQueryProceedResult) = true
changes place (form.RayQueryVertexPositions query committed) = true
changes place (form.RayQueryGetIntersection query committed) = true
changes place (form.SubgroupBallotResult) = true
changes place (form.SubgroupOperationResult ty) = true
changes place expression = false

abbrev pub is_argument : Expression → Bool
is_argument (form.FunctionArgument index) = true
is_argument expression = false

abbrev is_let_of : Option Expression → (named : Bool) → Bool
is_let_of (Some expression) named = named && not (is_argument expression)
is_let_of None named = named

-- a `let` names it, which stands where it is computed
abbrev pub is_let : Function → ℕ → Bool
is_let function e = is_let_of (slice_get function.expressions e) (is_some (lookup (nat_eq e) function.named_expressions))

abbrev pub operands_of : Expression → List ℕ
operands_of expression = map (λ operand. operand.0) (expression_operands expression)

-- it reads nothing that changes, nor do its operands, none of which is a `let`
pub data IsSteady (m : Module) (function : Function) : ℕ → Type 0 where
  reads_nothing : (e : ℕ) (expression : Expression) → slice_get function.expressions e ≡ Some expression →
      changes (place_at (places m function.expressions) e) expression ≡ false →
      list_all (λ o. not (is_let function o)) (operands_of expression) ≡ true →
      ((o : ℕ) → Contains (operands_of expression) o → IsSteady m function o) → IsSteady m function e

-- a table has a value for each of the first expressions, and true for this one
abbrev is_true : Option Bool → Bool
is_true (Some is) = is
is_true None = false

abbrev pub is_steady_by : List Bool → ℕ → Bool
is_steady_by steady e = is_true (slice_get steady e)

-- it is steady by the table, and no `let`
abbrev pub is_steady_value : Function → List Bool → ℕ → Bool
is_steady_value function steady e = not (is_let function e) && is_steady_by steady e

abbrev pub has_steady_operands : Function → List Bool → Expression → Bool
has_steady_operands function steady expression = list_all (is_steady_value function steady) (operands_of expression)

-- it reads nothing that changes, and its operands are steady by the table
abbrev pub is_steady_next : Function → List Place → List Bool → ℕ → Expression → Bool
is_steady_next function memory steady e expression =
    not (changes (place_at memory e) expression) && has_steady_operands function steady expression

-- the table with further expressions, each with its number
abbrev pub steady_after : Module → Function → List Bool → List (ℕ × Expression) → List Bool
steady_after m function steady [] = steady
steady_after m function steady (entry ∷ rest) =
    steady_after m function (steady ++ is_steady_next function (places m function.expressions) steady entry.0 entry.1 ∷ []) rest

-- the table of all expressions
abbrev pub steady_table : Module → Function → List Bool
steady_table m function = steady_after m function [] (enumerate_from 0 function.expressions)

-- Functions without an effect besides those on their own variables, which read nothing that is written while the shader runs.
use Rattle.std.specs.Prelude.{ℕ, zero, suc, Bool, true, false, ◌&&◌, not, List, [], ◌∷◌, ◌++◌, Option, Some, None, slice_get}
use Rattle.std.specs.List.{enumerate_from, list_all}
use Rattle.shader_ir.specs.Body.{Body, End, Then, Step, Leaf, Nested, If, Switch, Loop, Cases, NoCase, Case, Simple}
use Rattle.shader_ir.specs.Body.{Emit, Break, Continue, Return, Store, Call}
use Rattle.shader_ir.specs.declared.expression.Expression.{Expression}
use Rattle.shader_ir.specs.declared.expression.Expression.TheVariants.{LocalVariable, CallResult}
use Rattle.shader_ir.specs.declared.function.Function.{Function}
use Rattle.shader_ir.specs.declared.module.Module.{Module}
use Rattle.shader_uniformity.specs.Places.{place_at, places}
use Rattle.shader_uniformity.specs.declared.facts.Place.{Place}
use Rattle.shader_uniformity.specs.declared.facts.Place.TheVariants.{Local, Pointee, Shared, Fixed}
use Rattle.report_findings.specs.Steady.{changes}

-- what an expression reads is a variable of the function, or doesn't change
abbrev pub reads_own : Place → Expression → Bool
reads_own place (LocalVariable variable) = true
reads_own place (CallResult function) = true
reads_own place expression = not (changes place expression)

abbrev pub is_local : Place → Bool
is_local (Local variable) = true
is_local (Pointee argument) = false
is_local Shared = false
is_local Fixed = false

abbrev is_true : Option Bool → Bool
is_true (Some is) = is
is_true None = false

-- a function is one of the first, and has no effect
abbrev pub is_quiet_at : List Bool → ℕ → Bool
is_quiet_at quiet function = is_true (slice_get quiet function)

-- `quiet`: of the functions before
module _ (places : List Place) (quiet : List Bool) where
  -- of statements without blocks only stores to the function's own variables and calls of such functions may do something
  abbrev pub is_quiet_simple : Simple → Bool
  is_quiet_simple (Emit start end) = true
  is_quiet_simple Break = true
  is_quiet_simple Continue = true
  is_quiet_simple (Return value) = true
  is_quiet_simple (Store pointer value) = is_local (place_at places pointer)
  is_quiet_simple (Call function arguments result) = is_quiet_at quiet function
  is_quiet_simple simple = false

  abbrev pub is_quiet_leaf : Step → Bool
  is_quiet_leaf (Leaf simple) = is_quiet_simple simple
  is_quiet_leaf step = false

  abbrev mutual
    pub is_quiet_step : Step → Bool
    is_quiet_step (Leaf simple) = is_quiet_simple simple
    is_quiet_step (Nested x) = is_quiet_block x
    is_quiet_step (If c x y) = is_quiet_block x && is_quiet_block y
    is_quiet_step (Switch e cs) = are_quiet_cases cs
    is_quiet_step (Loop x y k) = is_quiet_block x && is_quiet_block y

    pub is_quiet_block : Body → Bool
    is_quiet_block End = true
    is_quiet_block (Then s b) = is_quiet_step s && is_quiet_block b

    pub are_quiet_cases : Cases → Bool
    are_quiet_cases NoCase = true
    are_quiet_cases (Case v x fall cs) = is_quiet_block x && are_quiet_cases cs

-- the expressions of a function
abbrev pub read_own : List Place → List Expression → Bool
read_own memory expressions = list_all (λ entry. reads_own (place_at memory entry.0) entry.1) (enumerate_from 0 expressions)

module _ (m : Module) where
  abbrev pub is_quiet_function : List Bool → Function → Bool
  is_quiet_function quiet function =
      read_own (places m function.expressions) function.expressions
      && is_quiet_block (places m function.expressions) quiet function.body

  abbrev pub is_quiet_next : List Bool → Option Function → Bool
  is_quiet_next quiet (Some function) = is_quiet_function quiet function
  is_quiet_next quiet None = false

  -- for each of the first functions whether it has no effect
  abbrev pub first_quiet : ℕ → List Bool
  first_quiet zero = []
  first_quiet (suc n) = first_quiet n ++ is_quiet_next (first_quiet n) (slice_get m.functions n) ∷ []

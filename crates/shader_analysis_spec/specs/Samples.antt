-- Small functions with known results, as examples of the definitions.
use Rattle.std.specs.Prelude.{◌≡◌, ℕ, Bool, true, false, List, [], ◌∷◌, Option, Some, None, IsTrue, nat_eq, nat_lt}
use Rattle.shader_ir.specs.declared.binding.Binding.{Binding}
use Rattle.shader_ir.specs.declared.binding.Binding.TheVariants as binding
use Rattle.shader_ir.specs.declared.binding.BuiltIn.TheVariants as built_in
use Rattle.shader_ir.specs.declared.expression.Expression.TheVariants as form
use Rattle.shader_ir.specs.declared.expression.SampleLevel.TheVariants as level
use Rattle.shader_ir.specs.declared.function.FunctionArgument.{FunctionArgument}
use Rattle.shader_ir.specs.declared.literal.Literal.TheVariants as literal
use Rattle.shader_ir.specs.declared.operators.DerivativeAxis.TheVariants as axis
use Rattle.shader_ir.specs.declared.operators.DerivativeControl.TheVariants as control
use Rattle.shader_ir.specs.declared.statement.SwitchValue.TheVariants as value
use Rattle.shader_analysis_spec.specs.Program.{Function, Module, Expression, Body, End, Then, Leaf, If}
use Rattle.shader_analysis_spec.specs.Program.{Switch, NoCase, Case, Emit, Return, Kill, Store, Call}
use Rattle.shader_analysis_spec.specs.Flow.{At, start, rest, inside, case_of, after, from_first, Disrupted}
use Rattle.shader_analysis_spec.specs.Infos.{InGlobal, Resource, Reads, Writes, Queries}
use Rattle.shader_analysis_spec.specs.Kills.{HasOrigin, Kills}
use Rattle.shader_analysis_spec.specs.Needs.{Needs, Derivative}
use Rattle.shader_analysis_spec.specs.Pairs.{IsPair}
use Rattle.shader_analysis_spec.specs.Uses.{Uses}
use Rattle.shader_analysis_spec.specs.Walks.{Walk, Alike, Passes}

-- a function with these arguments, expressions, named expressions and statements
abbrev pub function_of : List FunctionArgument → List Expression → List (ℕ × List ℕ) → Body → Function
function_of arguments expressions named body = record {
  name = None;
  arguments = arguments;
  result = None;
  local_variables = [];
  expressions = expressions;
  named_expressions = named;
  body = body;
  diagnostic_filter_leaf = None;
}

-- a module of these functions
abbrev pub module_of : List Function → Module
module_of functions = record {
  types = [];
  special_types = record { ray_intersection = None; ray_vertex_return = None; predeclared_types = [] };
  constants = [];
  overrides = [];
  global_variables = [];
  global_expressions = [];
  functions = functions;
  entry_points = [];
  diagnostic_filters = [];
}

-- a global that is only named is queried; one that is written too is not
abbrev pub naming : Body → Function
naming body = function_of [] (form.GlobalVariable 0 ∷ form.Literal (literal.U32 1) ∷ []) ((0, []) ∷ []) body

abbrev pub named : Function
named = naming End

abbrev pub stored : Function
stored = naming (Then (Leaf (Store 0 1)) End)

abbrev pub NamedIsQueried : Type 0
NamedIsQueried = (m : Module) → Uses m named 0 Queries × (Uses m named 0 Reads → ⊥) × Uses m stored 0 Writes × (Uses m stored 0 Queries → ⊥)

-- an argument varies, and one that is the same in the whole work group does not
abbrev pub taking : Option Binding → Body → Function
taking bound body = function_of (record { name = None; ty = 0; binding = bound } ∷ []) (form.FunctionArgument 0 ∷ []) [] body

abbrev pub shared : Option Binding
shared = Some (binding.BuiltIn built_in.WorkGroupId)

abbrev pub ArgumentsVary : Type 0
ArgumentsVary = (m : Module) → HasOrigin m (taking None End) 0 × (HasOrigin m (taking shared End) 0 → ⊥)

-- a Kill in a branch on a varying condition kills, and one that all invocations reach does not
abbrev pub branching : Body
branching = Then (If 0 (Then (Leaf Kill) End) End) End

abbrev pub BranchesKill : Type 0
BranchesKill = (m : Module) → Kills m (taking None branching) × (Kills m (taking None (Then (Leaf Kill) End)) → ⊥)

-- the needs of an expression count if it is emitted, and only then
abbrev pub differentiating : Body → Function
differentiating body = function_of [] (form.Literal (literal.U32 0) ∷ form.Derivative axis.X control.None 0 ∷ []) [] body

abbrev pub EmittedIsNeeded : Type 0
EmittedIsNeeded = (m : Module) → Needs m Derivative (differentiating (Then (Leaf (Emit 0 2)) End)) ×
    (Needs m Derivative (differentiating End) → ⊥)

-- an image and a sampler that are passed to a function are sampled
abbrev pub sampling : Function
sampling = function_of [] (form.FunctionArgument 0 ∷ form.FunctionArgument 1
    ∷ form.ImageSample 0 1 None false 0 None None level.Zero None ∷ []) [] End

abbrev pub passing : Function
passing = function_of [] (form.GlobalVariable 0 ∷ form.GlobalVariable 1 ∷ []) [] (Then (Leaf (Call 0 (0 ∷ 1 ∷ []) None)) End)

abbrev pub PairsAreLedBack : Type 0
PairsAreLedBack = IsPair (module_of (sampling ∷ passing ∷ [])) passing (InGlobal 0) (InGlobal 1)
    × ((m : Module) (g : ℕ) (sampler : Resource) → IsPair m sampling (InGlobal g) sampler → ⊥)

-- a Switch whose first case may return and may fall through, and whose second has an Emit
abbrev pub returning : Bool → Body
returning falls =
    Then (Switch 1 (Case (value.U32 0) (Then (If 0 (Then (Leaf (Return None)) End) End) End) falls
    (Case value.Default (Then (Leaf (Emit 4 5)) End) false NoCase))) End

abbrev pub point_of_emit : (falls : Bool) → At (returning falls) (Then (Leaf (Emit 4 5)) End)
point_of_emit falls = inside start (case_of (after from_first))

-- expression 0 alone varies, and nothing kills
abbrev pub DisruptedIn : Bool → Type 0
DisruptedIn falls = Disrupted (λ e. IsTrue (nat_eq e 0)) (λ c. IsTrue (nat_lt c 0)) (returning falls) _ (point_of_emit falls)

abbrev pub FallThroughDisrupts : Type 0
FallThroughDisrupts = DisruptedIn true × (DisruptedIn false → ⊥)

-- an If on a varying condition whose first branch returns, followed by an Emit
abbrev pub parting : Body
parting = Then (If 0 (Then (Leaf (Return None)) End) End) (Then (Leaf (Emit 4 5)) End)

abbrev pub emit_at_end : At parting (Then (Leaf (Emit 4 5)) End)
emit_at_end = rest start

-- a walk that takes the first branch or the second; the body has no call, so any function may kill
abbrev pub any_function : ℕ → Type 0
any_function c = Unit {0}

abbrev pub takes_branch : Bool → Walk any_function parting
takes_branch first = record { accepts = λ p. first; selects = λ p. 0; ends = λ p. false; ends_by_kill = λ p ended. tt }

-- if expression 0 varies, two walks that agree on uniform choices part: one passes the Emit and the other doesn't
abbrev pub WalksPart : Type 0
WalksPart = Alike (λ e. e ≡ 0) (takes_branch true) (takes_branch false) × Passes (takes_branch false) _ emit_at_end ×
    (Passes (takes_branch true) _ emit_at_end → ⊥)

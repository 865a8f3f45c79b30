-- Where nothing that needs all invocations follows from what differs, all pass it together: laws over every run in lockstep. Beside them
-- one says of calls that they have runs.
use Rattle.std.specs.Prelude.{◌≡◌, ◌⊎◌, ◌<◌, ℕ, Bool, false, List, [], Some, None, length, slice_get}
use Rattle.std.specs.List.{AllByRecursion, Contains}
use Rattle.shader_ir.specs.declared.expression.Expression.TheVariants as form
use Rattle.shader_uniformity.specs.Differs.{argument_is_uniform}
use Rattle.shader_uniformity.specs.Fault.{AreKnown, IsFault, function_rules, severity}
use Rattle.shader_uniformity.specs.Lockstep.{On, Left, State, Meaning, Group, Trace, RunsBlock, RunsStep}
use Rattle.shader_uniformity.specs.Marks.{Marked}
use Rattle.shader_uniformity.specs.Words.{End, Leaf, Call, Function, FunctionArgument, Module}
use Rattle.shader_uniformity.specs.declared.facts.Fact.{Fact}
use Rattle.shader_uniformity.specs.declared.facts.Fact.TheVariants.{Always, Flow, Argument, Behind, Must}
use Rattle.shader_uniformity.specs.declared.facts.Jump.{Jump}
use Rattle.shader_uniformity.specs.declared.facts.Place.{Place}
use Rattle.shader_uniformity.specs.declared.facts.Place.TheVariants.{Pointee}
use Rattle.shader_uniformity.specs.declared.facts.Rule.{Rule}

module _ (I V : Type 0) where
  -- if one takes part, so do all
  abbrev pub IsTogether : Group I V → Type 0
  IsTogether g = (i x : I) → g i ≡ On → g x ≡ On

  -- expression h of an entry point is an argument that each invocation is given for itself
  pub record IsGiven (f : Function) (h : ℕ) : Type 0 where
    pub index : ℕ
    pub stands : slice_get f.expressions h ≡ Some (form.FunctionArgument index)
    pub varies : argument_is_uniform (slice_get f.arguments index) ≡ false

  -- the invocations begin an entry point alike, but for such arguments
  pub record Begin (f : Function) (s : State I V) : Type 0 where
    pub values : (h : ℕ) → IsGiven f h ⊎ ((i x : I) → s.values i h ≡ s.values x h)
    pub memory : (p : Place) (i x : I) → s.memory i p ≡ s.memory x p
    pub results : (i x : I) → s.results i ≡ s.results x

  -- no run of an entry point that isn't at fault lets some invocations alone pass what needs all of them, in any function
  abbrev pub EntryPointsStayTogether : Type 0
  EntryPointsStayTogether = (first : I) (t : Meaning I V) (m : Module) (callees : List (List Rule)) → AreKnown m callees → (f : Function) →
      (IsFault m callees f → ⊥) → (s u : State I V) (h : Group I V) (a : Trace I V) → Begin f s →
      RunsBlock I V t m (λ d. severity m d) (length callees) f f.body s (λ i. On) u h a → AllByRecursion IsTogether a

  -- expression h of a function is an argument that differs
  pub record IsPassed (differing : List Fact) (f : Function) (h : ℕ) : Type 0 where
    pub index : ℕ
    pub stands : slice_get f.expressions h ≡ Some (form.FunctionArgument index)
    pub argument : FunctionArgument
    pub declared : slice_get f.arguments index ≡ Some argument
    pub differs : Contains differing (Argument index)

  pub record IsPointed (differing : List Fact) (f : Function) (p : Place) : Type 0 where
    pub index : ℕ
    pub is : p ≡ Pointee index
    pub argument : FunctionArgument
    pub declared : slice_get f.arguments index ≡ Some argument
    pub differs : Contains differing (Behind index)

  -- they begin a function alike, but for the arguments that differ, what arguments point to, and who takes part
  pub record BeginCall (differing : List Fact) (f : Function) (g : Group I V) (s : State I V) : Type 0 where
    pub always : Contains differing Always
    pub flow : ((i x : I) → g i ≡ g x) ⊎ Contains differing Flow
    pub unleft : (i : I) (j : Jump) → g i ≡ Left j → ⊥
    pub values : (h : ℕ) → IsPassed differing f h ⊎ ((i x : I) → s.values i h ≡ s.values x h)
    pub memory : (p : Place) → IsPointed differing f p ⊎ ((i x : I) → s.memory i p ≡ s.memory x p)
    pub results : (i x : I) → s.results i ≡ s.results x

  -- where no need follows from what differs in a call of a function, all pass each together
  abbrev pub FunctionsStayTogether : Type 0
  FunctionsStayTogether = (first : I) (t : Meaning I V) (m : Module) (callees : List (List Rule)) → AreKnown m callees → (f : Function) →
      (differing : List Fact) →
      ((b : Fact) → Contains differing b → Marked (function_rules m callees (severity m f) false f) b Must → ⊥) →
      (g : Group I V) (s u : State I V) (h : Group I V) (a : Trace I V) → BeginCall differing f g s →
      RunsBlock I V t m (λ d. severity m d) (length callees) f f.body s g u h a → AllByRecursion IsTogether a

  -- a call of a function without statements has a run, whatever is passed
  abbrev pub EmptyCallsRun : Type 0
  EmptyCallsRun = (t : Meaning I V) (m : Module) (severity : Function → Bool) (n c : ℕ) (f d : Function) (arguments : List ℕ) → c < n →
      slice_get m.functions c ≡ Some d → d.body ≡ End → (s : State I V) (g : Group I V) →
      (u : State I V) × RunsStep I V t m severity n f (Leaf (Call c arguments None)) s g u g []

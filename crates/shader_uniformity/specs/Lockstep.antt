-- A group of invocations that run a function in lockstep: an If and a Switch part it and it meets again behind them, who leaves a Loop
-- waits behind it, who returns waits for the call's end, and a Kill goes on as a helper. Runs are finite.
use Rattle.std.specs.Prelude.{◌≡◌, ◌⊎◌, ℕ, ◌+◌, ◌<◌, Bool, true, false, not, ◌||◌, ◌&&◌, List, [], ◌∷◌, ◌++◌, Option, Some, None, map}
use Rattle.std.specs.Prelude.{slice_get}
use Rattle.std.specs.Prelude.{cond, nat_eq}
use Rattle.shader_ir.specs.declared.expression.Expression.TheVariants as form
use Rattle.shader_ir.specs.declared.statement.RayPipelineFunction.TheVariants.{TraceRay}
use Rattle.shader_ir.specs.declared.statement.RayQueryFunction.TheVariants.{Proceed}
use Rattle.shader_uniformity.specs.Words.{Module, Function, Expression, expression_operands, positions_between}
use Rattle.shader_uniformity.specs.Words.{Body, End, Then, Step, Leaf, Nested, If, Switch, Loop, Cases, NoCase, Case, Simple, Emit, Break}
use Rattle.shader_uniformity.specs.Words.{Continue, Return, Kill, ControlBarrier, MemoryBarrier, Store, ImageStore, Atomic, ImageAtomic}
use Rattle.shader_uniformity.specs.Words.{WorkGroupUniformLoad, Call, RayQuery, RayPipeline, SubgroupBallot, SubgroupGather}
use Rattle.shader_uniformity.specs.Words.{SubgroupCollectiveOperation, CooperativeStore, RayQueryFunction, CooperativeData}
use Rattle.shader_uniformity.specs.Words.{FunctionArgument}
use Rattle.shader_uniformity.specs.RunWords.{AtomicFunction, Barrier, CollectiveOperation, GatherMode, SubgroupOperation, SwitchValue}
use Rattle.shader_uniformity.specs.Needs.{is_implicit}
use Rattle.shader_uniformity.specs.Places.{place_at, places}
use Rattle.shader_uniformity.specs.declared.facts.Jump.{Jump}
use Rattle.shader_uniformity.specs.declared.facts.Jump.TheVariants as jump
use Rattle.shader_uniformity.specs.declared.facts.Place.{Place}
use Rattle.shader_uniformity.specs.declared.facts.Place.TheVariants.{Local, Pointee, Shared, Fixed}

-- an invocation takes part, or doesn't, or has left by a jump
pub data Status : Type 0 where
  On Off : Status
  Left : Jump → Status

abbrev pub is_on : Status → Bool
is_on On = true
is_on _ = false

-- those that take part and pass a test enter a block
abbrev pub enter_one : Status → Bool → Status
enter_one On b = cond b On Off
enter_one Off b = Off
enter_one (Left j) b = Off

-- and what came of them is what they do behind it
abbrev pub meet_one : (outside inside : Status) → Status
meet_one On inside = inside
meet_one outside inside = outside

abbrev pub leave_one : Status → Jump → Status
leave_one On j = Left j
leave_one s j = s

-- of two that ran one after the other, each went into one block
abbrev pub pick : Bool → Status → Status → Status
pick true a b = a
pick false a b = b

-- at the end of a Loop's body, at the end of a round, behind a Loop, and behind a case of a Switch
abbrev pub behind_body : Status → Status
behind_body (Left jump.Continue) = On
behind_body s = s

abbrev pub behind_round : Bool → Status → Status
behind_round true On = Left jump.Break
behind_round b s = behind_body s

abbrev pub behind_loop : Status → Status
behind_loop (Left jump.Break) = On
behind_loop (Left jump.Continue) = On
behind_loop s = s

abbrev pub behind_case : Status → Status
behind_case (Left jump.Break) = On
behind_case s = s

-- what an expression reads beside its operands, and whether each invocation may be given what it likes
abbrev pub read_of : Expression → Option ℕ
read_of (form.Load pointer) = Some pointer
read_of (form.ImageLoad image coordinate array_index sample level) = Some image
read_of (form.RayQueryVertexPositions query committed) = Some query
read_of (form.RayQueryGetIntersection query committed) = Some query
read_of (form.CooperativeLoad columns rows role tile) = Some tile.pointer
read_of _ = None

abbrev pub is_source : Expression → Bool
is_source (form.ImageSample image sampler gather clamp_to_edge coordinate array_index offset level depth_ref) = is_implicit level
is_source (form.Derivative axis ctrl expr) = true
is_source _ = false

-- whether it needs all invocations. `severe`: the filters leave what they may lift an error
abbrev pub needs_all : Bool → Expression → Bool
needs_all severe (form.ImageSample image sampler gather clamp_to_edge coordinate array_index offset level depth_ref) =
    is_implicit level && severe
needs_all severe (form.Derivative axis ctrl expr) = severe
needs_all severe (form.CooperativeLoad columns rows role tile) = true
needs_all severe (form.CooperativeMultiplyAdd a b c) = true
needs_all severe _ = false

-- `I`: the invocations that entered the call. `V`: values
module _ (I V : Type 0) where
  pub record State : Type 0 where
    pub values : I → ℕ → V
    pub memory : I → Place → V
    pub results : I → V

  -- what the program means: any functions
  pub record Meaning : Type 0 where
    pub given : Expression → (operands : List V) → (content : V) → V
    pub stored : (content pointer value : V) → V
    pub nothing : V
    pub fixed : V
    pub is_true : V → Bool
    pub chosen : V → Cases → ℕ
    pub constant : Function → ℕ → V
    pub local : Function → ℕ → V

  abbrev pub Group : Type 0
  Group = I → Status

  -- the statements that needed all invocations, each with what they did there
  abbrev pub Trace : Type 0
  Trace = List Group

  -- a change of those that take part at one expression, or at one place
  pub record Assigns (g : Group) (h : ℕ) (P : I → V → Type 0) (s t : State) : Type 0 where
    pub values : (i : I) (e : ℕ) → (e ≡ h) × (g i ≡ On) × P i (t.values i e) ⊎
        ((e ≡ h → g i ≡ On → ⊥) × (t.values i e ≡ s.values i e))
    pub memory : (i : I) (p : Place) → t.memory i p ≡ s.memory i p
    pub results : (i : I) → t.results i ≡ s.results i

  pub record Writes (g : Group) (p : Place) (P : I → V → Type 0) (s t : State) : Type 0 where
    pub values : (i : I) (e : ℕ) → t.values i e ≡ s.values i e
    pub memory : (i : I) (q : Place) → (q ≡ p) × (g i ≡ On) × P i (t.memory i q) ⊎
        ((q ≡ p → g i ≡ On → ⊥) × (t.memory i q ≡ s.memory i q))
    pub results : (i : I) → t.results i ≡ s.results i

  pub record Gives (g : Group) (value : ℕ) (s t : State) : Type 0 where
    pub values : (i : I) (e : ℕ) → t.values i e ≡ s.values i e
    pub memory : (i : I) (p : Place) → t.memory i p ≡ s.memory i p
    pub results : (i : I) → (g i ≡ On) × (t.results i ≡ s.values i value) ⊎ ((g i ≡ On → ⊥) × (t.results i ≡ s.results i))

  abbrev pub anything : I → V → Type 0
  anything i v = Unit {0}

  -- shared memory gives each invocation what it likes
  abbrev pub Content : Meaning → Place → (content read : V) → Type 0
  Content t Shared content read = Unit {0}
  Content t Fixed content read = read ≡ t.fixed
  Content t (Local l) content read = read ≡ content
  Content t (Pointee k) content read = read ≡ content

  abbrev pub Read : Meaning → (ℕ → Place) → State → I → Option ℕ → V → Type 0
  Read t at s i (Some pointer) c = Content t (at pointer) (s.memory i (at pointer)) c
  Read t at s i None c = c ≡ t.nothing

  -- what an invocation is given by an emitted expression; a source gives each what it likes
  abbrev pub GivenBy : Meaning → (ℕ → Place) → State → Bool → Expression → I → V → Type 0
  GivenBy t at s true x i v = Unit {0}
  GivenBy t at s false x i v =
      (c : V) × Read t at s i (read_of x) c × (v ≡ t.given x (map (λ o. s.values i o.0) (expression_operands x)) c)

  abbrev pub need_of : Bool → Group → Trace
  need_of true g = g ∷ []
  need_of false g = []

  abbrev pub enter : Group → (I → Bool) → Group
  enter g b i = enter_one (g i) (b i)

  abbrev pub meet : Group → Group → Group
  meet g h i = meet_one (g i) (h i)

  abbrev pub meet_two : Group → (I → Bool) → Group → Group → Group
  meet_two g b h k i = meet_one (g i) (pick (b i) (h i) (k i))

  abbrev pub leave : Group → Jump → Group
  leave g j i = leave_one (g i) j

  abbrev pub everyone : I → Bool
  everyone i = true

  abbrev pub passes_test : Meaning → State → Option ℕ → I → Bool
  passes_test t s (Some e) i = t.is_true (s.values i e)
  passes_test t s None i = false

  -- with what a called function begins: an argument that isn't passed is nothing
  abbrev pub passed_value : Meaning → State → I → Option ℕ → V
  passed_value t s i (Some e) = s.values i e
  passed_value t s i None = t.nothing

  abbrev pub argument_value : Meaning → State → I → Option FunctionArgument → Option ℕ → V
  argument_value t s i (Some declared) e = passed_value t s i e
  argument_value t s i None e = t.nothing

  abbrev pub first_value : Meaning → Function → List ℕ → State → I → ℕ → Option Expression → V
  first_value t f arguments s i h (Some (form.FunctionArgument k)) =
      argument_value t s i (slice_get f.arguments k) (slice_get arguments k)
  first_value t f arguments s i h x = t.constant f h

  abbrev pub PassedTo : Meaning → (ℕ → Place) → State → I → Option FunctionArgument → Option ℕ → V → Type 0
  PassedTo t at s i (Some declared) (Some e) c = Content t (at e) (s.memory i (at e)) c
  PassedTo t at s i _ _ c = c ≡ t.nothing

  pub record Begins (t : Meaning) (at : ℕ → Place) (f : Function) (arguments : List ℕ) (s u : State) : Type 0 where
    pub values : (i : I) (h : ℕ) → u.values i h ≡ first_value t f arguments s i h (slice_get f.expressions h)
    pub locals : (i : I) (l : ℕ) → u.memory i (Local l) ≡ t.local f l
    pub pointees : (i : I) (k : ℕ) → PassedTo t at s i (slice_get f.arguments k) (slice_get arguments k) (u.memory i (Pointee k))
    pub results : (i : I) → u.results i ≡ t.nothing

  -- the place of a pointer that is passed for an argument
  abbrev pub Passes : (ℕ → Place) → Function → List ℕ → ℕ → Place → Type 0
  Passes at f arguments k p = (e : ℕ) × (d : FunctionArgument) × (slice_get arguments k ≡ Some e) × (slice_get f.arguments k ≡ Some d)
      × (at e ≡ p)

  -- and with what it leaves its caller: a result, and at a place what it left at one argument that has this place
  pub record Leaves (at : ℕ → Place) (f : Function) (arguments : List ℕ) (s w v : State) : Type 0 where
    pub values : (i : I) (h : ℕ) → v.values i h ≡ s.values i h
    pub memory : (p : Place) → ((k : ℕ) × Passes at f arguments k p × ((i : I) → v.memory i p ≡ w.memory i (Pointee k))) ⊎
        (((k : ℕ) → Passes at f arguments k p → ⊥) × ((i : I) → v.memory i p ≡ s.memory i p))
    pub results : (i : I) → v.results i ≡ s.results i

  pub data Takes (g : Group) (w : State) : Option ℕ → State → State → Type 0 where
    nothing : {s : State} → Takes g w None s s
    takes : {e : ℕ} {s u : State} → Assigns g e (λ i v. v ≡ w.results i) s u → Takes g w (Some e) s u

  -- the runs of the functions of a module. `severity`: whether the filters around one leave what needs uniform flow an error
  module _ (t : Meaning) (m : Module) (severity : Function → Bool) where
    abbrev pub at_in : Function → ℕ → Place
    at_in f = place_at (places m f.expressions)

    pub data Emits (f : Function) (g : Group) : List ℕ → State → State → Trace → Type 0 where
      none : {s : State} → Emits f g [] s s []
      one : {h : ℕ} {hs : List ℕ} {s u w : State} {needs : Trace} (x : Expression) → slice_get f.expressions h ≡ Some x →
          Assigns g h (GivenBy t (at_in f) s (is_source x) x) s u → Emits f g hs u w needs →
          Emits f g (h ∷ hs) s w (need_of (needs_all (severity f) x) g ++ needs)
      missing : {h : ℕ} {hs : List ℕ} {s w : State} {needs : Trace} → slice_get f.expressions h ≡ None → Emits f g hs s w needs →
          Emits f g (h ∷ hs) s w needs

    -- a statement without blocks, but a Call: what it does, and whether it needs all invocations
    pub data Does (f : Function) (g : Group) : Simple → State → State → Group → Trace → Type 0 where
      emits : {a b : ℕ} {s u : State} {needs : Trace} → Emits f g (positions_between a b) s u needs → Does f g (Emit a b) s u g needs
      breaks : {s : State} → Does f g Break s s (leave g jump.Break) []
      continues : {s : State} → Does f g Continue s s (leave g jump.Continue) []
      returns : {s : State} → Does f g (Return None) s s (leave g jump.Return) []
      gives : {v : ℕ} {s u : State} → Gives g v s u → Does f g (Return (Some v)) s u (leave g jump.Return) []
      waits : {b : Barrier} {s : State} → Does f g (ControlBarrier b) s s g (g ∷ [])
      orders : {b : Barrier} {s : State} → Does f g (MemoryBarrier b) s s g (g ∷ [])
      stores : {p v : ℕ} {s u : State} →
          Writes g (at_in f p) (λ i c. c ≡ t.stored (s.memory i (at_in f p)) (s.values i p) (s.values i v)) s u →
          Does f g (Store p v) s u g []
      changes : {p v r : ℕ} {fun : AtomicFunction} {s u w : State} → Assigns g r anything s u → Writes g (at_in f p) anything u w →
          Does f g (Atomic p fun v r) s w g []
      loads : {p r : ℕ} {s u : State} (v : V) → Assigns g r (λ i c. c ≡ v) s u → Does f g (WorkGroupUniformLoad p r) s u g (g ∷ [])
      queries : {q : ℕ} {fun : RayQueryFunction} {s u : State} → Writes g (at_in f q) anything s u → Does f g (RayQuery q fun) s u g []
      proceeds : {q r : ℕ} {s u w : State} → Assigns g r anything s u → Writes g (at_in f q) anything u w →
          Does f g (RayQuery q (Proceed r)) s w g []
      traces : {a d p : ℕ} {s u : State} → Writes g (at_in f p) anything s u → Does f g (RayPipeline (TraceRay a d p)) s u g []
      votes : {r : ℕ} {p : Option ℕ} {s u : State} → Assigns g r anything s u → Does f g (SubgroupBallot r p) s u g []
      gathers : {k : GatherMode} {a r : ℕ} {s u : State} → Assigns g r anything s u → Does f g (SubgroupGather k a r) s u g []
      collects : {o : SubgroupOperation} {c : CollectiveOperation} {a r : ℕ} {s u : State} → Assigns g r anything s u →
          Does f g (SubgroupCollectiveOperation o c a r) s u g []
      puts : {v : ℕ} {tile : CooperativeData} {s u : State} →
          Writes g (at_in f tile.pointer)
          (λ i c. c ≡ t.stored (s.memory i (at_in f tile.pointer)) (s.values i tile.pointer) (s.values i v)) s u →
          Does f g (CooperativeStore v tile) s u g (g ∷ [])
      helps : {s : State} → Does f g Kill s s g []
      paints : {a b d : ℕ} {c : Option ℕ} {s : State} → Does f g (ImageStore a b c d) s s g []
      repaints : {a b d : ℕ} {c : Option ℕ} {fun : AtomicFunction} {s : State} → Does f g (ImageAtomic a b c fun d) s s g []

    -- what goes on in a function whose number is n, which calls those before it
    mutual
      pub data RunsStep : ℕ → Function → Step → State → Group → State → Group → Trace → Type 0 where
        does : {n : ℕ} {f : Function} {x : Simple} {s u : State} {g h : Group} {a : Trace} → Does f g x s u h a →
            RunsStep n f (Leaf x) s g u h a
        calls : {n c : ℕ} {f d : Function} {arguments : List ℕ} {value : Option ℕ} {s u w v r : State} {g h : Group} {a : Trace} → c < n →
            slice_get m.functions c ≡ Some d → Begins t (at_in f) d arguments s u → RunsBlock c d d.body u (enter g everyone) w h a →
            Leaves (at_in f) d arguments s w v → Takes g w value v r → RunsStep n f (Leaf (Call c arguments value)) s g r g a
        nests : {n : ℕ} {f : Function} {x : Body} {s u : State} {g h : Group} {a : Trace} →
            RunsBlock n f x s (enter g everyone) u h a → RunsStep n f (Nested x) s g u (meet g h) a
        branches : {n c : ℕ} {f : Function} {x y : Body} {s u w : State} {g h k : Group} {a b : Trace} →
            RunsBlock n f x s (enter g (passes_test t s (Some c))) u h a →
            RunsBlock n f y u (enter g (λ i. not (passes_test t s (Some c) i))) w k b →
            RunsStep n f (If c x y) s g w (meet_two g (passes_test t s (Some c)) h k) (a ++ b)
        selects : {n e : ℕ} {f : Function} {cs : Cases} {s u : State} {g h : Group} {a : Trace} →
            RunsCases n f (λ i. t.chosen (s.values i e) cs) 0 (λ i. false) cs s (enter g everyone) u h a →
            RunsStep n f (Switch e cs) s g u (meet g h) a
        loops : {n : ℕ} {f : Function} {x y : Body} {k : Option ℕ} {s u : State} {g h : Group} {a : Trace} →
            RunsRounds n f x y k s (enter g everyone) u h a → RunsStep n f (Loop x y k) s g u (meet g (λ i. behind_loop (h i))) a

      pub data RunsBlock : ℕ → Function → Body → State → Group → State → Group → Trace → Type 0 where
        ends : {n : ℕ} {f : Function} {s : State} {g : Group} → RunsBlock n f End s g s g []
        on : {n : ℕ} {f : Function} {x : Step} {b : Body} {s u w : State} {g h k : Group} {a c : Trace} → RunsStep n f x s g u h a →
            RunsBlock n f b u h w k c → RunsBlock n f (Then x b) s g w k (a ++ c)

      -- the cases from the one of a number on; `fell`: who falls into it
      pub data RunsCases : ℕ → Function → (I → ℕ) → ℕ → (I → Bool) → Cases → State → Group → State → Group → Trace → Type 0 where
        past : {n c : ℕ} {f : Function} {choice : I → ℕ} {fell : I → Bool} {s : State} {g : Group} →
            RunsCases n f choice c fell NoCase s g s g []
        case_by : {n c : ℕ} {f : Function} {choice : I → ℕ} {fell : I → Bool} {v : SwitchValue} {x : Body} {fall : Bool} {cs : Cases}
            {s u w : State} {g h k : Group} {a b : Trace} →
            RunsBlock n f x s (enter g (λ i. nat_eq (choice i) c || fell i)) u h a →
            RunsCases n f choice (c + 1) (λ i. fall && is_on (h i)) cs u
            (meet_two g (λ i. nat_eq (choice i) c || fell i) (λ i. behind_case (h i)) (enter g (λ i. not (nat_eq (choice i) c || fell i))))
            w k b → RunsCases n f choice c fell (Case v x fall cs) s g w k (a ++ b)

      -- rounds of a Loop, until nobody is left in it
      pub data RunsRounds : ℕ → Function → Body → Body → Option ℕ → State → Group → State → Group → Trace → Type 0 where
        over : {n : ℕ} {f : Function} {x y : Body} {k : Option ℕ} {s : State} {g : Group} → ((i : I) → is_on (g i) ≡ false) →
            RunsRounds n f x y k s g s g []
        round : {n : ℕ} {f : Function} {x y : Body} {k : Option ℕ} {s u w z : State} {g h j l : Group} {a b c : Trace} →
            RunsBlock n f x s (enter g everyone) u h a →
            RunsBlock n f y u (enter (λ i. behind_body (meet_one (g i) (h i))) everyone) w j b →
            RunsRounds n f x y k w (λ i. behind_round (passes_test t w k i) (meet_one (behind_body (meet_one (g i) (h i))) (j i))) z l c →
            RunsRounds n f x y k s g z l (a ++ (b ++ c))

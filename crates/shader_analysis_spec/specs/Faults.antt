-- The faults for which the analysis rejects a module, over call paths.
use Rattle.std.specs.Prelude.{◌≡◌, ℕ, ◌<◌, ◌≤◌, ◌^◌, ◌↔◌, Bool, false, IsTrue, List, [], Option, Some, None, slice_get}
use Rattle.std.specs.List.{Contains}
use Rattle.shader_ir.specs.Key.{found_inner, inner_of}
use Rattle.shader_ir.specs.declared.expression.Expression.TheVariants as form
use Rattle.shader_ir.specs.declared.function.EntryPoint.{EntryPoint}
use Rattle.shader_ir.specs.declared.image.ImageClass.TheVariants as class
use Rattle.shader_ir.specs.declared.module.Severity.TheVariants as severity
use Rattle.shader_ir.specs.declared.proc.type_resolution.TypeResolution.{TypeResolution}
use Rattle.shader_ir.specs.declared.types.ArraySize.{ArraySize}
use Rattle.shader_ir.specs.declared.types.TypeInner.{TypeInner}
use Rattle.shader_ir.specs.declared.types.TypeInner.TheVariants as type
use Rattle.shader_resolve.specs.Context.{context_of}
use Rattle.shader_resolve.specs.Outcome.{Refusal}
use Rattle.shader_analysis_spec.specs.Program.{Function, Module, Body, Then, Leaf, Step, Emit, Return, Kill, Call, statements}
use Rattle.shader_analysis_spec.specs.Program.{IsExpressionAt}
use Rattle.shader_analysis_spec.specs.Counts.{count_of}
use Rattle.shader_analysis_spec.specs.Derivable.{Derives, IsRefused, function_context}
use Rattle.shader_analysis_spec.specs.Filters.{Governs}
use Rattle.shader_analysis_spec.specs.Flow.{At, rest, inside, Child, BranchOn, Disrupted}
use Rattle.shader_analysis_spec.specs.Infos.{Resource, InArgument}
use Rattle.shader_analysis_spec.specs.Kills.{KillsAt}
use Rattle.shader_analysis_spec.specs.Needs.{Need, ExpressionNeeds}
use Rattle.shader_analysis_spec.specs.Origins.{Origin}
use Rattle.shader_analysis_spec.specs.Pairs.{resource, samples, IsPair}

-- a capability of the device: to index a binding array by a value that differs among invocations
pub data Capability : Type 0 where
  IndexTextures IndexStorageTextures : Capability

-- the settings of the analysis: which checks it makes, and which capabilities are available
pub record Settings : Type 0 where
  pub checks_flow : Bool
  pub indexes_textures : Bool
  pub indexes_storage_textures : Bool

abbrev pub allows : Settings → Capability → Bool
allows settings IndexTextures = settings.indexes_textures
allows settings IndexStorageTextures = settings.indexes_storage_textures

-- a cause of disrupted flow: a source of the condition or selector around it, an earlier Return, or an earlier Kill
pub data Disruptor : Type 0 where
  Source : (expression : ℕ) → Disruptor
  EarlierReturn EarlierDiscard : Disruptor

-- the cause of a rejection
pub data Cause : Type 0 where
  Untyped : (expression : ℕ) → Refusal → Cause
  MissingCapability : (expression : ℕ) → Capability → Cause
  NoResource : (expression : ℕ) → Cause
  BindingArrayElement : (expression : ℕ) → Cause
  NonUniformControlFlow : (needs : Need → Bool) (expression : ℕ) → Disruptor → Cause
  CountFull : (expression : ℕ) → Cause

-- the capability that is needed to index a binding array of these elements by an index that differs among invocations, if there is one
abbrev pub element_capability : Option TypeInner → Option Capability
element_capability (Some (type.Image dim arrayed (class.Storage format access))) = Some IndexStorageTextures
element_capability (Some (type.Image dim arrayed class)) = Some IndexTextures
element_capability (Some (type.Sampler comparison)) = Some IndexTextures
element_capability _ = None

-- f has a Call statement of the function at position c that passes expression e for argument i
pub record PassesArgument (f : Function) (c i e : ℕ) : Type 0 where
  pub arguments : List ℕ
  pub result : Option ℕ
  pub holds : Contains (statements f.body) (Leaf (Call c arguments result))
  pub passed_argument : slice_get arguments i ≡ Some e

-- e is an Access by `index` on a binding array that is held by value and has these elements
pub record IndexesBindings (m : Module) (f : Function) (e index element : ℕ) : Type 0 where
  pub base : ℕ
  pub is_there : IsExpressionAt f e (form.Access base index)
  pub resolution : TypeResolution
  pub derives : Derives (function_context m f) f.expressions base resolution
  pub size : ArraySize
  pub is : inner_of m.types resolution ≡ Some (type.BindingArray element size)

-- the path point is inside an If or a Switch on an expression with origin h
pub data IsEnclosedBy (OriginOf : ℕ → ℕ → Type 0) (h : ℕ) (root : Body) : (b : Body) → At root b → Type 0 where
  branch : {s : Step} {b x : Body} {e : ℕ} (p : At root (Then s b)) {child : Child s x} → BranchOn e s x child → OriginOf e h →
      IsEnclosedBy OriginOf h root _ (inside p child)
  deeper : {s : Step} {b x : Body} {p : At root (Then s b)} {child : Child s x} → IsEnclosedBy OriginOf h root _ p →
      IsEnclosedBy OriginOf h root _ (inside p child)
  later : {s : Step} {b : Body} {p : At root (Then s b)} → IsEnclosedBy OriginOf h root _ p → IsEnclosedBy OriginOf h root _ (rest p)

-- `OriginOf e h`: h is an origin of expression e. `Kills c`: the function at position c kills. `NeededBy n e`: expression e has the need n.
-- `PairOf c p q`: the function at position c samples p with q
module _ (OriginOf : ℕ → ℕ → Type 0) (Kills : ℕ → Type 0) (NeededBy : Need → ℕ → Type 0) (PairOf : ℕ → Resource → Resource →
    Type 0) (m : Module) (settings : Settings)
    (f : Function) where
  abbrev pub HasOriginOf : ℕ → Type 0
  HasOriginOf e = (h : ℕ) × OriginOf e h

  -- a disruptor that may be reported for a disrupted path point
  pub data MayDisrupt (b : Body) (p : At f.body b) : Disruptor → Type 0 where
    a_source : {h : ℕ} → IsEnclosedBy OriginOf h f.body b p → MayDisrupt b p (Source h)
    a_return : {value : Option ℕ} {left : Body} (q : At f.body (Then (Leaf (Return value)) left)) → Disrupted HasOriginOf Kills f.body _ q →
        MayDisrupt b p EarlierReturn
    a_kill : {left : Body} (q : At f.body (Then (Leaf Kill) left)) → Disrupted HasOriginOf Kills f.body _ q → MayDisrupt b p EarlierDiscard
    a_call : {c : ℕ} {arguments : List ℕ} {result : Option ℕ} → Contains (statements f.body) (Leaf (Call c arguments result)) → Kills c →
        MayDisrupt b p EarlierDiscard

  -- a disrupted Emit covers the expression, and these are the needs of the expression
  pub record IsFlowViolation (needs : Need → Bool) (expression : ℕ) (disruptor : Disruptor) : Type 0 where
    pub start : ℕ
    pub finish : ℕ
    pub left : Body
    pub at : At f.body (Then (Leaf (Emit start finish)) left)
    pub from : start ≤ expression
    pub to : expression < finish
    pub disrupted : Disrupted HasOriginOf Kills f.body _ at
    pub need : Need
    pub needed : NeededBy need expression
    pub all : (n : Need) → IsTrue (needs n) ↔ NeededBy n expression
    pub disrupts : MayDisrupt _ at disruptor

  -- a fault of f
  pub data HasFault : Cause → Type 0 where
    -- an expression whose operands have types has none itself
    untyped : {e : ℕ} {refusal : Refusal} → IsRefused (function_context m f) f.expressions e refusal → HasFault (Untyped e refusal)
    -- a binding array of images or samplers is indexed non-uniformly without the capability
    no_capability : {e index element : ℕ} {capability : Capability} → IndexesBindings m f e index element →
        element_capability (found_inner (slice_get m.types element)) ≡ Some capability → HasOriginOf index →
        allows settings capability ≡ false →
        HasFault (MissingCapability e capability)
    -- a binding array of other elements is indexed
    bad_element : {e index element : ℕ} → IndexesBindings m f e index element →
        element_capability (found_inner (slice_get m.types element)) ≡ None →
        HasFault (BindingArrayElement e)
    -- an image or a sampler that is sampled is no resource
    no_image_resource : {e image sampler : ℕ} → samples f e ≡ Some (image, sampler) → resource f image ≡ None → HasFault (NoResource e)
    no_sampler_resource : {e image sampler : ℕ} → samples f e ≡ Some (image, sampler) → resource f sampler ≡ None → HasFault (NoResource e)
    -- the value passed for an argument that is sampled is no resource
    no_image_passed : {e c i : ℕ} {q : Resource} → PassesArgument f c i e → resource f e ≡ None → PairOf c (InArgument i) q →
        HasFault (NoResource e)
    no_sampler_passed : {e c i : ℕ} {p : Resource} → PassesArgument f c i e → resource f e ≡ None → PairOf c p (InArgument i) →
        HasFault (NoResource e)
    -- an expression that needs undisrupted flow is emitted in disrupted flow, and that is checked
    flow_violation : {needs : Need → Bool} {e : ℕ} {disruptor : Disruptor} → IsTrue settings.checks_flow →
        Governs m.diagnostic_filters f.diagnostic_filter_leaf severity.Error → IsFlowViolation needs e disruptor →
        HasFault (NonUniformControlFlow needs e disruptor)
    -- the reference count of an expression exceeds every usize
    count_full : {e : ℕ} → 2 ^ 64 ≤ count_of f e → HasFault (CountFull e)

-- h is an origin of expression e of f
abbrev pub IsOriginOf : Module → Function → ℕ → ℕ → Type 0
IsOriginOf m f e h = (r : Function) × Origin m f e r h

-- the function at position c samples p with q
abbrev pub PairAt : Module → ℕ → Resource → Resource → Type 0
PairAt m c p q = (d : Function) × (slice_get m.functions c ≡ Some d) × IsPair m d p q

-- a fault of f, interprocedurally
abbrev pub IsFault : Module → Function → Settings → Cause → Type 0
IsFault m f settings = HasFault (IsOriginOf m f) (KillsAt m) (λ n e. ExpressionNeeds m n f e) (PairAt m) m settings f

-- an analysed item
pub data Site : Type 0 where
  OfGlobalExpression : (expression : ℕ) → Site
  OfFunction OfEntryPoint : (position : ℕ) → Site

-- a fault of a module: a global expression without a type, or a fault of a function or an entry point
pub data ModuleFault (m : Module) (settings : Settings) : Site → Cause → Type 0 where
  in_expression : {e : ℕ} {refusal : Refusal} → IsRefused (context_of m [] []) m.global_expressions e refusal →
      ModuleFault m settings (OfGlobalExpression e) (Untyped e refusal)
  in_function : {i : ℕ} {f : Function} {cause : Cause} → slice_get m.functions i ≡ Some f → IsFault m f settings cause →
      ModuleFault m settings (OfFunction i) cause
  in_entry_point : {i : ℕ} {entry : EntryPoint} {cause : Cause} → slice_get m.entry_points i ≡ Some entry →
      IsFault m entry.function settings cause →
      ModuleFault m settings (OfEntryPoint i) cause

-- the order in which the items of a module are analysed
abbrev pub ComesBefore : Site → Site → Type 0
ComesBefore (OfGlobalExpression e) (OfGlobalExpression d) = e < d
ComesBefore (OfGlobalExpression e) (OfFunction i) = Unit {0}
ComesBefore (OfGlobalExpression e) (OfEntryPoint i) = Unit {0}
ComesBefore (OfFunction i) (OfGlobalExpression e) = ⊥
ComesBefore (OfFunction i) (OfFunction j) = i < j
ComesBefore (OfFunction i) (OfEntryPoint j) = Unit {0}
ComesBefore (OfEntryPoint i) (OfGlobalExpression e) = ⊥
ComesBefore (OfEntryPoint i) (OfFunction j) = ⊥
ComesBefore (OfEntryPoint i) (OfEntryPoint j) = i < j

-- a fault of the first item that has one
pub record IsFirstFault (m : Module) (settings : Settings) (site : Site) (cause : Cause) : Type 0 where
  pub is_there : ModuleFault m settings site cause
  pub first : (other : Site) (reported : Cause) → ComesBefore other site → ModuleFault m settings other reported → ⊥

-- the module has no fault
abbrev pub IsAccepted : Module → Settings → Type 0
IsAccepted m settings = (site : Site) (cause : Cause) → ModuleFault m settings site cause → ⊥

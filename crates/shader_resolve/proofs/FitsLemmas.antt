-- What all types have that a module names, that operands have, and that rules build, the outcome of each typing rule has.
use Rattle.std.proofs.Common.{◌≡◌, sym, refl, subst, ℕ, ◌<◌, Bool, true, false, List, [], ◌∷◌, Option, Some, None}
use Rattle.std.proofs.Common.{Result, Ok, Err, IfOk, IfSome, All, length, slice_get, is_some, nat_lt, if◌then◌else◌}
use Rattle.std.proofs.lemmas.List.Elements.{All-nil, All-cons, All-head}
use Rattle.shader_ir.specs.declared.expression.Expression.{Expression}
use Rattle.shader_ir.specs.declared.expression.Expression.TheVariants as form
use Rattle.shader_ir.specs.declared.expression.ImageQuery.{ImageQuery}
use Rattle.shader_ir.specs.declared.expression.ImageQuery.TheVariants as query
use Rattle.shader_ir.specs.declared.function.Function.{Function}
use Rattle.shader_ir.specs.declared.function.FunctionArgument.{FunctionArgument}
use Rattle.shader_ir.specs.declared.function.FunctionResult.{FunctionResult}
use Rattle.shader_ir.specs.declared.function.LocalVariable.{LocalVariable}
use Rattle.shader_ir.specs.declared.image.ImageClass.{ImageClass}
use Rattle.shader_ir.specs.declared.image.ImageClass.TheVariants.{Sampled, Depth, Storage, External}
use Rattle.shader_ir.specs.declared.image.ImageDimension.{ImageDimension}
use Rattle.shader_ir.specs.declared.image.ImageDimension.TheVariants.{D1, D2, D3, Cube}
use Rattle.shader_ir.specs.declared.module.Constant.{Constant}
use Rattle.shader_ir.specs.declared.module.GlobalVariable.{GlobalVariable}
use Rattle.shader_ir.specs.declared.module.Override.{Override}
use Rattle.shader_ir.specs.declared.module.PredeclaredType.{PredeclaredType}
use Rattle.shader_ir.specs.declared.operators.BinaryOperator.{BinaryOperator}
use Rattle.shader_ir.specs.declared.operators.BinaryOperator.TheVariants as operator
use Rattle.shader_ir.specs.declared.operators.MathFunction.{MathFunction}
use Rattle.shader_ir.specs.declared.operators.RelationalFunction.{RelationalFunction}
use Rattle.shader_ir.specs.declared.operators.RelationalFunction.TheVariants as relational
use Rattle.shader_ir.specs.declared.operators.SwizzleComponent.{SwizzleComponent}
use Rattle.shader_ir.specs.declared.scalar.CooperativeRole.{CooperativeRole}
use Rattle.shader_ir.specs.declared.scalar.CooperativeSize.{CooperativeSize}
use Rattle.shader_ir.specs.declared.scalar.Scalar.{Scalar}
use Rattle.shader_ir.specs.declared.scalar.ScalarKind.{ScalarKind}
use Rattle.shader_ir.specs.declared.scalar.VectorSize.{VectorSize}
use Rattle.shader_ir.specs.declared.types.«Type».{«Type»}
use Rattle.shader_ir.specs.declared.types.AddressSpace.{AddressSpace}
use Rattle.shader_ir.specs.declared.types.AddressSpace.TheVariants as space
use Rattle.shader_ir.specs.declared.types.StructMember.{StructMember}
use Rattle.shader_ir.specs.declared.types.TypeInner.{TypeInner}
use Rattle.shader_ir.specs.declared.types.TypeInner.TheVariants as type
use Rattle.shader_ir.specs.declared.proc.type_resolution.TypeResolution.{TypeResolution}
use Rattle.shader_ir.specs.declared.proc.type_resolution.TypeResolution.TheVariants.{Handle, Value}
use Rattle.shader_ir.specs.Alignments.{vector_count}
use Rattle.shader_ir.specs.Key.{found_inner, inner_of}
use Rattle.shader_ir.specs.TypeTree.{type_handles}
use Rattle.shader_resolve.specs.declared.error.ResolveError.{ResolveError}
use Rattle.shader_resolve.specs.declared.resolve.access.Component.{Component}
use Rattle.shader_resolve.specs.declared.resolve.access.Component.TheVariants as component_kind
use Rattle.shader_resolve.specs.declared.resolve.access.BadIndex.{BadIndex}
use Rattle.shader_resolve.specs.declared.resolve.access.BadIndex.TheVariants.{PastEnd, NotIndexable}
use Rattle.shader_resolve.specs.Context.{Context}
use Rattle.shader_resolve.specs.DerivesByRule.{OperandAnswer, DerivesByRule, EachQueried}
use Rattle.shader_resolve.specs.Images.{bool_scalar, texel, extent, gather_type, sample_type, extent_type}
use Rattle.shader_resolve.specs.Operations.{test_type, logical_type}
use Rattle.shader_resolve.specs.declared.resolve.operations.Product.{Product}
use Rattle.shader_resolve.specs.declared.resolve.operations.Product.TheVariants.{AsLeft, AsRight, Built, NoProduct}
use Rattle.shader_resolve.specs.Operations.{product_of, product_type, cast_type, product, left_type}
use Rattle.shader_resolve.specs.Outcome.{Refusal, IncompatibleOperands, InvalidAccess, InvalidSubAccess}
use Rattle.shader_resolve.specs.Outcome.{Given, Meets, Memory, Outcome, Refused, at_inner}
use Rattle.shader_resolve.specs.Component.{checked, member_component, indexed_member, component, component_value}
use Rattle.shader_resolve.specs.Component.{component_pointer, component_outcome, pointed_outcome, lifted}
use Rattle.shader_resolve.specs.TypingRules.{TypingRule, Plain, One, Two, constant_type, override_type, argument_type, variable_type}
use Rattle.shader_resolve.specs.TypingRules.{global_type, local_type, result_type, call_type, special_type, splat_type, swizzle_type}
use Rattle.shader_resolve.specs.TypingRules.{pointed_type, load_type, matrix_type, tile_type, pointed_scalar, on_shape, binary_rule}
use Rattle.shader_resolve.specs.TypingRules.{relational_rule, sample_rule, query_rule, math_rule, typing_rule}
use Rattle.shader_resolve.proofs.BuiltinLemmas.{first-fits, is_plain_inner}
use Rattle.shader_resolve.proofs.KeyLemmas.{at_position, member_named}

-- a property of each item holds of the one at a position, if any
listed : {T : Type 0} (P : T → Type 0) (xs : List T) (i : ℕ) → All P xs → IfSome (slice_get xs i) P
listed {T} P xs i all = by (slice_get xs i) refl
  where
    by : (found : Option T) → slice_get xs i ≡ found → IfSome found P
    by (Some x) is = at_position P xs i x all is
    by None is = tt

-- the types that a context names have a property
pub record NamesFit (context : Context) (Named : ℕ → Type 0) : Type 0 where
  pub constants : All (λ (constant : Constant). Named constant.ty) context.constants
  pub overrides : All (λ (override : Override). Named override.ty) context.overrides
  pub globals : All (λ (variable : GlobalVariable). Named variable.ty) context.globals
  pub locals : All (λ (variable : LocalVariable). Named variable.ty) context.locals
  pub results : All (λ (function : Function). IfSome function.result (λ result. Named result.ty)) context.functions
  pub arguments : All (λ (argument : FunctionArgument). Named argument.ty) context.arguments
  pub ray_intersection : IfSome context.special_types.ray_intersection Named
  pub ray_vertex_return : IfSome context.special_types.ray_vertex_return Named
  pub predeclared : All (λ (entry : PredeclaredType × ℕ). Named entry.1) context.special_types.predeclared_types

-- the types that an expression names itself have a property
abbrev pub NamesHave : (ℕ → Type 0) → Expression → Type 0
NamesHave Named (form.ZeroValue ty) = Named ty
NamesHave Named (form.Compose ty components) = Named ty
NamesHave Named (form.AtomicResult ty comparison) = Named ty
NamesHave Named (form.WorkGroupUniformLoadResult ty) = Named ty
NamesHave Named (form.SubgroupOperationResult ty) = Named ty
NamesHave Named _ = Unit {0}

-- a type that a rule may build outside the arena
abbrev pub IsBuilt : TypeInner → Type 0
IsBuilt (type.Array base size stride) = ⊥
IsBuilt (type.BindingArray base size) = ⊥
IsBuilt (type.Struct span members) = ⊥
IsBuilt _ = Unit {0}

-- a property of handles, and one of types outside the arena
module _ (Named : ℕ → Type 0) (Outside : TypeInner → Type 0) where
  abbrev pub Has : TypeResolution → Type 0
  Has (Handle handle) = Named handle
  Has (Value inner) = All Named (type_handles inner) × Outside inner

  abbrev pub OutcomeHas : Outcome → Type 0
  OutcomeHas (Given resolution) = Has resolution
  OutcomeHas (Refused refusal) = Unit {0}

  -- the rule's outcome has both if the types of its operands have them
  abbrev pub RuleKeeps : TypingRule → Type 0
  RuleKeeps (Plain outcome) = OutcomeHas outcome
  RuleKeeps (One operand answer) = (reported : TypeResolution) → Has reported → OutcomeHas (answer reported)
  RuleKeeps (Two left right answer) = (first second : TypeResolution) → Has first → Has second → OutcomeHas (answer first second)

-- a property of handles, which all that a module names have, and one of types outside the arena, which all have that rules build
module _ (context : Context) (Named : ℕ → Type 0) (Outside : TypeInner → Type 0)
    (built : (inner : TypeInner) → IsBuilt inner → Outside inner)
    (reached : (position : ℕ) (type : «Type») → slice_get context.types position ≡ Some type → All Named (type_handles type.inner))
    (stored : NamesFit context Named) where
  abbrev Fits : TypeResolution → Type 0
  Fits = Has Named Outside

  abbrev OutcomeFits : Outcome → Type 0
  OutcomeFits = OutcomeHas Named Outside

  abbrev NumberFits : TypingRule → Type 0
  NumberFits = RuleKeeps Named Outside

  bare : All Named []
  bare = All-nil Named

  one : (handle : ℕ) → Named handle → All Named (handle ∷ [])
  one handle lt = All-cons Named handle [] lt bare

  head : (handle : ℕ) → All Named (handle ∷ []) → Named handle
  head handle all = All-head Named handle [] all

  plain-fits : (inner : TypeInner) → is_plain_inner inner ≡ true → Fits (Value inner)
  plain-fits (type.Scalar scalar) e = (bare, built _ tt)
  plain-fits (type.Vector size scalar) e = (bare, built _ tt)
  plain-fits (type.Matrix columns rows scalar) e = (bare, built _ tt)
  plain-fits inner e = absurd (cc)

  inner-fits : (resolution : TypeResolution) (inner : TypeInner) → inner_of context.types resolution ≡ Some inner → Fits resolution →
      All Named (type_handles inner)
  inner-fits (Handle handle) inner e fits = at (slice_get context.types handle) refl e
    where
      at : (found : Option «Type») → slice_get context.types handle ≡ found → found_inner found ≡ Some inner →
          All Named (type_handles inner)
      at (Some type) is e = let same : type.inner ≡ inner = cc in subst (λ a. All Named (type_handles a)) same (reached handle type is)
      at None is e = absurd (cc)
  inner-fits (Value value) inner e fits = let same : value ≡ inner = cc in subst (λ a. All Named (type_handles a)) same fits.0

  at_inner-fits : (found : Option TypeInner) (answer : TypeInner → Outcome) → ((inner : TypeInner) → OutcomeFits (answer inner)) →
      OutcomeFits (at_inner found answer)
  at_inner-fits (Some inner) answer fits = fits inner
  at_inner-fits None answer fits = tt

  -- an outcome that reads a shape whose handles are in range
  shape-fits : (operand : ℕ) (answer : TypeInner → Outcome) →
      ((inner : TypeInner) → All Named (type_handles inner) → OutcomeFits (answer inner)) →
      NumberFits (on_shape context.types operand answer)
  shape-fits operand answer fits reported reported_fits = by (inner_of context.types reported) refl
    where
      by : (found : Option TypeInner) → inner_of context.types reported ≡ found → OutcomeFits (at_inner found answer)
      by (Some inner) is = fits inner (inner-fits reported inner is reported_fits)
      by None is = tt

  texel-fits : (class : ImageClass) → Fits (Value (texel class))
  texel-fits (Depth multi) = (bare, built _ tt)
  texel-fits (Sampled kind multi) = (bare, built _ tt)
  texel-fits (Storage format access) = (bare, built _ tt)
  texel-fits External = (bare, built _ tt)

  size-fits : (dim : ImageDimension) → Fits (Value (extent dim))
  size-fits D1 = (bare, built _ tt)
  size-fits D2 = (bare, built _ tt)
  size-fits Cube = (bare, built _ tt)
  size-fits D3 = (bare, built _ tt)

  sample-fits : (image : ℕ) (inner : TypeInner) → OutcomeFits (sample_type image inner)
  sample-fits image (type.Image dim arrayed class) = texel-fits class
  sample-fits image inner = tt

  gather-fits : (image : ℕ) (inner : TypeInner) → OutcomeFits (gather_type image inner)
  gather-fits image (type.Image dim arrayed class) = (bare, built _ tt)
  gather-fits image inner = tt

  extent-fits : (image : ℕ) (inner : TypeInner) → OutcomeFits (extent_type image inner)
  extent-fits image (type.Image dim arrayed class) = size-fits dim
  extent-fits image inner = tt

  test-fits : (inner : TypeInner) → OutcomeFits (test_type inner)
  test-fits (type.Scalar scalar) = (bare, built _ tt)
  test-fits (type.Vector size scalar) = (bare, built _ tt)
  test-fits inner = tt

  bool-fits : (test : Bool) → OutcomeFits (if test then Given (Value (type.Scalar bool_scalar)) else Refused IncompatibleOperands)
  bool-fits true = (bare, built _ tt)
  bool-fits false = tt

  logical-fits : (inner : TypeInner) → OutcomeFits (logical_type inner)
  logical-fits (type.Scalar scalar) = bool-fits _
  logical-fits inner = tt

  cast-fits : (kind : ScalarKind) (convert : Option ℕ) (inner : TypeInner) → OutcomeFits (cast_type kind convert inner)
  cast-fits kind convert (type.Scalar old) = (bare, built _ tt)
  cast-fits kind convert (type.Vector size old) = (bare, built _ tt)
  cast-fits kind convert (type.Matrix columns rows old) = (bare, built _ tt)
  cast-fits kind convert inner = tt

  splat-fits : (operand : ℕ) (size : VectorSize) (inner : TypeInner) → OutcomeFits (splat_type operand size inner)
  splat-fits operand size (type.Scalar scalar) = (bare, built _ tt)
  splat-fits operand size inner = tt

  swizzle-fits : (operand : ℕ) (size : VectorSize) (inner : TypeInner) → OutcomeFits (swizzle_type operand size inner)
  swizzle-fits operand size (type.Vector old_size scalar) = (bare, built _ tt)
  swizzle-fits operand size inner = tt

  abbrev ProductFits : Product → Type 0
  ProductFits (Built inner) = Fits (Value inner)
  ProductFits _ = Unit {0}

  product_of-fits : (left right : TypeInner) → ProductFits (product_of left right)
  product_of-fits (type.Matrix columns rows scalar) (type.Matrix right_columns right_rows right_scalar) = (bare, built _ tt)
  product_of-fits (type.Matrix columns rows scalar) (type.Vector size right_scalar) = (bare, built _ tt)
  product_of-fits (type.Vector size scalar) (type.Matrix columns rows right_scalar) = (bare, built _ tt)
  product_of-fits (type.Scalar scalar) right = tt
  product_of-fits left (type.Scalar scalar) = tt
  product_of-fits (type.Vector size scalar) (type.Vector right_size right_scalar) = tt
  product_of-fits (type.CooperativeMatrix columns rows scalar role)
      (type.CooperativeMatrix right_columns right_rows right_scalar right_role) = (bare, built _ tt)
  product_of-fits left right = tt

  product_type-fits : (built : Product) → ProductFits built → (left right : TypeResolution) → Fits left → Fits right →
      OutcomeFits (product_type built left right)
  product_type-fits AsLeft fits left right left_fits right_fits = left_fits
  product_type-fits AsRight fits left right left_fits right_fits = right_fits
  product_type-fits (Built inner) fits left right left_fits right_fits = fits
  product_type-fits NoProduct fits left right left_fits right_fits = tt

  product-fits : (left right : ℕ) → NumberFits (Two left right (product context.types))
  product-fits left right first second first_fits second_fits =
      at_inner-fits (inner_of context.types first) _ (λ left_inner.
      at_inner-fits (inner_of context.types second) _ (λ right_inner.
      product_type-fits (product_of left_inner right_inner) (product_of-fits left_inner right_inner) first second first_fits second_fits))

  left-fits : (op : BinaryOperator) (left : TypeResolution) → Fits left → OutcomeFits (left_type context.types op left)
  left-fits operator.Equal left fits = at_inner-fits (inner_of context.types left) test_type test-fits
  left-fits operator.NotEqual left fits = at_inner-fits (inner_of context.types left) test_type test-fits
  left-fits operator.Less left fits = at_inner-fits (inner_of context.types left) test_type test-fits
  left-fits operator.LessEqual left fits = at_inner-fits (inner_of context.types left) test_type test-fits
  left-fits operator.Greater left fits = at_inner-fits (inner_of context.types left) test_type test-fits
  left-fits operator.GreaterEqual left fits = at_inner-fits (inner_of context.types left) test_type test-fits
  left-fits operator.LogicalAnd left fits = at_inner-fits (inner_of context.types left) logical_type logical-fits
  left-fits operator.LogicalOr left fits = at_inner-fits (inner_of context.types left) logical_type logical-fits
  left-fits op left fits = fits

  binary-fits : (op : BinaryOperator) (left right : ℕ) → NumberFits (binary_rule context.types op left right)
  binary-fits operator.Multiply left right = product-fits left right
  binary-fits op left right = left-fits op

  relational-fits : (fun : RelationalFunction) (argument : ℕ) → NumberFits (relational_rule context.types fun argument)
  relational-fits relational.All argument = (bare, built _ tt)
  relational-fits relational.Any argument = (bare, built _ tt)
  relational-fits relational.IsNan argument = shape-fits argument test_type (λ inner h. test-fits inner)
  relational-fits relational.IsInf argument = shape-fits argument test_type (λ inner h. test-fits inner)

  sampled-fits : (image : ℕ) (gather : Option SwizzleComponent) → NumberFits (sample_rule context.types image gather)
  sampled-fits image (Some component) = shape-fits image (gather_type image) (λ inner h. gather-fits image inner)
  sampled-fits image None = shape-fits image (sample_type image) (λ inner h. sample-fits image inner)

  query-fits : (image : ℕ) (queried : ImageQuery) → NumberFits (query_rule context.types image queried)
  query-fits image (query.Size level) = shape-fits image (extent_type image) (λ inner h. extent-fits image inner)
  query-fits image queried = (bare, built _ tt)

  abbrev ComponentFits : Component → Type 0
  ComponentFits (component_kind.Type handle) = Named handle
  ComponentFits _ = Unit {0}

  abbrev ReachedFits : Result Component BadIndex → Type 0
  ReachedFits (Ok reached) = ComponentFits reached
  ReachedFits (Err failure) = Unit {0}

  tested-fits : (test : Bool) (reached : Component) (failure : BadIndex) → ComponentFits reached →
      ReachedFits (if test then Ok reached else Err failure)
  tested-fits true reached failure fits = fits
  tested-fits false reached failure fits = tt

  checked-fits : (index : Option ℕ) (count : ℕ) (reached : Component) → ComponentFits reached → ReachedFits (checked index count reached)
  checked-fits None count reached fits = fits
  checked-fits (Some index) count reached fits = tested-fits (nat_lt index count) reached (PastEnd index) fits

  member-fits : (index : Option ℕ) (members : List StructMember) (span : ℕ) → All Named (type_handles (type.Struct span members)) →
      ReachedFits (indexed_member index members)
  member-fits None members span h = tt
  member-fits (Some index) members span h = by (slice_get members index) refl
    where
      by : (found : Option StructMember) → slice_get members index ≡ found → ReachedFits (member_component index found)
      by (Some member) is = member_named Named members span index member h is
      by None is = tt

  component-fits : (index : Option ℕ) (inner : TypeInner) → All Named (type_handles inner) → ReachedFits (component index inner)
  component-fits index (type.Vector size scalar) h = checked-fits index (vector_count size) (component_kind.Scalar scalar) tt
  component-fits index (type.Matrix columns rows scalar) h =
      checked-fits index (vector_count columns) (component_kind.Vector rows scalar) tt
  component-fits index (type.Array base size stride) h = head base h
  component-fits index (type.BindingArray base size) h = head base h
  component-fits index (type.Struct span members) h = member-fits index members span h
  component-fits index inner h = tt

  value-fits : (reached : Component) → ComponentFits reached → Fits (component_value reached)
  value-fits (component_kind.Scalar scalar) fits = (bare, built _ tt)
  value-fits (component_kind.Vector size scalar) fits = (bare, built _ tt)
  value-fits (component_kind.Type handle) fits = fits

  pointer-fits : (space : AddressSpace) (reached : Component) → ComponentFits reached →
      Fits (Value (component_pointer space reached))
  pointer-fits space (component_kind.Scalar scalar) fits = (bare, built _ tt)
  pointer-fits space (component_kind.Vector size scalar) fits = (bare, built _ tt)
  pointer-fits space (component_kind.Type handle) fits = (one handle fits, built _ tt)

  outcome-fits : (base : ℕ) (refusal : Refusal) (answer : Component → TypeResolution) →
      ((reached : Component) → ComponentFits reached → Fits (answer reached))
      → (reached : Result Component BadIndex) → ReachedFits reached → OutcomeFits (component_outcome base refusal answer reached)
  outcome-fits base refusal answer fits (Ok reached) h = fits reached h
  outcome-fits base refusal answer fits (Err (PastEnd index)) h = tt
  outcome-fits base refusal answer fits (Err NotIndexable) h = tt

  lifted-fits : (base : ℕ) (index : Option ℕ) (inner : TypeInner) → All Named (type_handles inner) →
      OutcomeFits (lifted context.types base index inner)
  lifted-fits base index (type.Pointer pointed space) h = by (slice_get context.types pointed) refl
    where
      by : (found : Option «Type») → slice_get context.types pointed ≡ found →
          OutcomeFits (pointed_outcome base index pointed space (found_inner found))
      by (Some found) is = outcome-fits base (InvalidSubAccess pointed (is_some index)) (λ reached. Value (component_pointer space reached))
          (pointer-fits space) (component index found.inner)
          (component-fits index found.inner (reached pointed found is))
      by None is = tt
  lifted-fits base index (type.ValuePointer (Some size) scalar space) h =
      outcome-fits base (InvalidAccess base (is_some index)) (λ reached. Value (component_pointer space reached)) (pointer-fits space)
      (component index (type.Vector size scalar)) (checked-fits index (vector_count size) (component_kind.Scalar scalar) tt)
  lifted-fits base index inner h =
      outcome-fits base (InvalidAccess base (is_some index)) component_value value-fits (component index inner)
      (component-fits index inner h)

  pointed-fits : (pointer base : ℕ) → Named base → (found : Option TypeInner) → OutcomeFits (pointed_type pointer base found)
  pointed-fits pointer base lt (Some (type.Atomic scalar)) = (bare, built _ tt)
  pointed-fits pointer base lt (Some inner) = lt
  pointed-fits pointer base lt None = tt

  load-fits : (pointer : ℕ) (inner : TypeInner) → All Named (type_handles inner) → OutcomeFits (load_type pointer context.types inner)
  load-fits pointer (type.Pointer base space) h = pointed-fits pointer base (head base h) (found_inner (slice_get context.types base))
  load-fits pointer (type.ValuePointer (Some size) scalar space) h = (bare, built _ tt)
  load-fits pointer (type.ValuePointer None scalar space) h = (bare, built _ tt)
  load-fits pointer inner h = tt

  tile-fits : (pointer : ℕ) (columns rows : CooperativeSize) (role : CooperativeRole) (found : Option Scalar) →
      OutcomeFits (matrix_type pointer columns rows role found)
  tile-fits pointer columns rows role (Some scalar) = (bare, built _ tt)
  tile-fits pointer columns rows role None = tt

  constant-fits : (found : Option Constant) → IfSome found (λ constant. Named constant.ty) → OutcomeFits (constant_type found)
  constant-fits (Some constant) lt = lt
  constant-fits None lt = tt

  override-fits : (found : Option Override) → IfSome found (λ override. Named override.ty) → OutcomeFits (override_type found)
  override-fits (Some override) lt = lt
  override-fits None lt = tt

  argument-fits : (index : ℕ) (found : Option FunctionArgument) → IfSome found (λ argument. Named argument.ty) →
      OutcomeFits (argument_type index found)
  argument-fits index (Some argument) lt = lt
  argument-fits index None lt = tt

  variable-fits : (at : AddressSpace) (ty : ℕ) → Named ty → OutcomeFits (variable_type at ty)
  variable-fits space.Handle ty lt = lt
  variable-fits at ty lt = (one ty lt, built _ tt)

  global-fits : (found : Option GlobalVariable) → IfSome found (λ variable. Named variable.ty) → OutcomeFits (global_type found)
  global-fits (Some variable) lt = variable-fits variable.space variable.ty lt
  global-fits None lt = tt

  local-fits : (found : Option LocalVariable) → IfSome found (λ variable. Named variable.ty) → OutcomeFits (local_type found)
  local-fits (Some variable) lt = (one variable.ty lt, built _ tt)
  local-fits None lt = tt

  result-fits : (found : Option FunctionResult) → IfSome found (λ result. Named result.ty) → OutcomeFits (result_type found)
  result-fits (Some result) lt = lt
  result-fits None lt = tt

  result_of-fits : (found : Option Function) → IfSome found (λ function. IfSome function.result (λ result. Named result.ty)) →
      OutcomeFits (call_type found)
  result_of-fits (Some function) lt = result-fits function.result lt
  result_of-fits None lt = tt

  special-fits : (found : Option ℕ) → IfSome found (λ ty. Named ty) → OutcomeFits (special_type found)
  special-fits (Some ty) lt = lt
  special-fits None lt = tt

  call-fits : (fun : MathFunction) (arg : ℕ) (arg1 : Option ℕ) → NumberFits (math_rule context fun arg arg1)
  call-fits fun arg None = λ reported fits. at_inner-fits (inner_of context.types reported) _
      (λ inner. first-fits Fits plain-fits context.special_types stored.predeclared _ fun)
  call-fits fun arg (Some arg1) = λ first second first_fits second_fits.
      at_inner-fits (inner_of context.types first) _ (λ first_inner.
      at_inner-fits (inner_of context.types second) _ (λ second_inner.
      first-fits Fits plain-fits context.special_types stored.predeclared _ fun))

  -- the outcome of each typing rule has the property
  pub typing_rule-fits : (expression : Expression) → NamesHave Named expression → NumberFits (typing_rule context expression)
  typing_rule-fits (form.Literal literal) h = (bare, built _ tt)
  typing_rule-fits (form.Constant constant) h =
      constant-fits (slice_get context.constants constant)
      (listed (λ (constant : Constant). Named constant.ty) context.constants constant stored.constants)
  typing_rule-fits (form.Override override) h =
      override-fits (slice_get context.overrides override)
      (listed (λ (override : Override). Named override.ty) context.overrides override stored.overrides)
  typing_rule-fits (form.ZeroValue ty) h = h
  typing_rule-fits (form.Compose ty components) h = h
  typing_rule-fits (form.Access base index) h =
      shape-fits base (lifted context.types base None) (lifted-fits base None)
  typing_rule-fits (form.AccessIndex base index) h =
      shape-fits base (lifted context.types base (Some index)) (lifted-fits base (Some index))
  typing_rule-fits (form.Splat size value) h =
      shape-fits value (splat_type value size) (λ inner h. splat-fits value size inner)
  typing_rule-fits (form.Swizzle size vector pattern) h =
      shape-fits vector (swizzle_type vector size) (λ inner h. swizzle-fits vector size inner)
  typing_rule-fits (form.FunctionArgument index) h =
      argument-fits index (slice_get context.arguments index)
      (listed (λ (argument : FunctionArgument). Named argument.ty) context.arguments index stored.arguments)
  typing_rule-fits (form.GlobalVariable variable) h =
      global-fits (slice_get context.globals variable)
      (listed (λ (variable : GlobalVariable). Named variable.ty) context.globals variable stored.globals)
  typing_rule-fits (form.LocalVariable variable) h =
      local-fits (slice_get context.locals variable)
      (listed (λ (variable : LocalVariable). Named variable.ty) context.locals variable stored.locals)
  typing_rule-fits (form.Load pointer) h = shape-fits pointer (load_type pointer context.types)
      (load-fits pointer)
  typing_rule-fits (form.ImageSample image sampler gather clamp_to_edge coordinate array_index offset level depth_ref)
      h =
      sampled-fits image gather
  typing_rule-fits (form.ImageLoad image coordinate array_index sample level) h =
      shape-fits image (sample_type image) (λ inner h. sample-fits image inner)
  typing_rule-fits (form.ImageQuery image queried) h = query-fits image queried
  typing_rule-fits (form.Unary op expr) h = λ reported fits. fits
  typing_rule-fits (form.Binary op left right) h = binary-fits op left right
  typing_rule-fits (form.Select condition accept reject) h = λ reported fits. fits
  typing_rule-fits (form.Derivative axis ctrl expr) h = λ reported fits. fits
  typing_rule-fits (form.Relational fun argument) h = relational-fits fun argument
  typing_rule-fits (form.Math fun arg arg1 arg2 arg3) h = call-fits fun arg arg1
  typing_rule-fits (form.As expr kind convert) h =
      shape-fits expr (cast_type kind convert) (λ inner h. cast-fits kind convert inner)
  typing_rule-fits (form.CallResult function) h =
      result_of-fits (slice_get context.functions function)
      (listed (λ (function : Function). IfSome function.result (λ result. Named result.ty)) context.functions function stored.results)
  typing_rule-fits (form.AtomicResult ty comparison) h = h
  typing_rule-fits (form.WorkGroupUniformLoadResult ty) h = h
  typing_rule-fits (form.ArrayLength array) h = (bare, built _ tt)
  typing_rule-fits (form.RayQueryVertexPositions query committed) h =
      special-fits context.special_types.ray_vertex_return stored.ray_vertex_return
  typing_rule-fits form.RayQueryProceedResult h = (bare, built _ tt)
  typing_rule-fits (form.RayQueryGetIntersection query committed) h =
      special-fits context.special_types.ray_intersection stored.ray_intersection
  typing_rule-fits form.SubgroupBallotResult h = (bare, built _ tt)
  typing_rule-fits (form.SubgroupOperationResult ty) h = h
  typing_rule-fits (form.CooperativeLoad columns rows role tile) h =
      shape-fits tile.pointer (tile_type tile.pointer context.types columns rows role)
      (λ inner h. tile-fits tile.pointer columns rows role (pointed_scalar context.types inner))
  typing_rule-fits (form.CooperativeMultiplyAdd a b c) h = λ reported fits. fits

-- a result that derives by a rule that keeps both has them
module _ (Named : ℕ → Type 0) (Outside : TypeInner → Type 0) where
  meets-has : (memory : Memory) (result : Result TypeResolution ResolveError) (outcome : Outcome) → OutcomeHas Named Outside outcome →
      Meets memory result outcome → IfOk result (Has Named Outside)
  meets-has memory (Ok resolution) (Given given) has meets = subst (Has Named Outside) (sym meets) has
  meets-has memory (Ok resolution) (Refused refusal) has meets = absurd meets
  meets-has memory (Err failure) outcome has meets = tt

  failed : (result : Result TypeResolution ResolveError) (failure : ResolveError) → result ≡ Err failure → IfOk result (Has Named Outside)
  failed result failure is = subst (λ answer. IfOk answer (Has Named Outside)) (sym is) tt

  module _ (memory : Memory) (Post : ℕ → OperandAnswer → Type 0) (result : Result TypeResolution ResolveError) where
    -- each type that is lent for an operand has both
    abbrev LentHave : TypingRule → Type 0
    LentHave = EachQueried (λ operand. (reported : OperandAnswer) → Post operand reported →
        IfOk reported (λ lent. Has Named Outside lent.now))

    pub derived-has : (rule : TypingRule) → LentHave rule → RuleKeeps Named Outside rule → DerivesByRule memory Post result rule →
        IfOk result (Has Named Outside)
    derived-has (Plain outcome) lent keeps derives = meets-has memory result outcome keeps derives
    derived-has (One operand answer) lent keeps (Ok reported, posted, meets) =
        meets-has memory result (answer reported.now) (keeps reported.now (lent (Ok reported) posted)) meets
    derived-has (One operand answer) lent keeps (Err failure, posted, is) = failed result failure is
    derived-has (Two left right answer) lent keeps (Err failure, posted, is) = failed result failure is
    derived-has (Two left right answer) lent keeps (Ok first, posted, (Err failure, more, is)) = failed result failure is
    derived-has (Two left right answer) lent keeps (Ok first, posted, (Ok second, more, meets)) =
        meets-has memory result (answer first.now second.now)
        (keeps first.now second.now (lent.0 (Ok first) posted) (lent.1 (Ok second) more)) meets

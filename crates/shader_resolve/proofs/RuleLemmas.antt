-- Each typing rule gives one key at equal keys.
use Rattle.std.proofs.Common.{◌≡◌, ◌∙◌, ap, refl, ℕ, List, Option, Some, None, Result, Ok, Err, slice_get}
use Rattle.shader_ir.specs.declared.types.«Type».{«Type»}
use Rattle.shader_ir.specs.declared.types.AddressSpace.{AddressSpace}
use Rattle.shader_ir.specs.declared.types.TypeInner.{TypeInner}
use Rattle.shader_ir.specs.declared.types.TypeInner.TheVariants as type
use Rattle.shader_ir.specs.declared.scalar.CooperativeRole.{CooperativeRole}
use Rattle.shader_ir.specs.declared.scalar.CooperativeSize.{CooperativeSize}
use Rattle.shader_ir.specs.declared.scalar.Scalar.{Scalar}
use Rattle.shader_ir.specs.declared.scalar.ScalarKind.{ScalarKind}
use Rattle.shader_ir.specs.declared.scalar.VectorSize.{VectorSize}
use Rattle.shader_ir.specs.declared.proc.type_resolution.TypeResolution.{TypeResolution}
use Rattle.shader_ir.specs.declared.proc.type_resolution.TypeResolution.TheVariants.{Handle, Value}
use Rattle.shader_ir.specs.Key.{pointer_to, shape_key, found_key, key_of, found_inner, inner_of}
use Rattle.shader_ir.specs.declared.operators.SwizzleComponent.{SwizzleComponent}
use Rattle.shader_ir.specs.declared.expression.ImageQuery.{ImageQuery}
use Rattle.shader_ir.specs.declared.expression.ImageQuery.TheVariants as query
use Rattle.shader_ir.specs.declared.operators.BinaryOperator.{BinaryOperator}
use Rattle.shader_ir.specs.declared.operators.BinaryOperator.TheVariants as operator
use Rattle.shader_ir.specs.declared.«module».SpecialTypes.{SpecialTypes}
use Rattle.shader_ir.specs.declared.operators.MathFunction.{MathFunction}
use Rattle.shader_ir.specs.declared.operators.RelationalFunction.{RelationalFunction}
use Rattle.shader_ir.specs.declared.operators.RelationalFunction.TheVariants as relational
use Rattle.shader_ir.specs.declared.expression.Expression.{Expression}
use Rattle.shader_ir.specs.declared.expression.Expression.TheVariants as form
use Rattle.shader_resolve.specs.declared.resolve.access.Component.{Component}
use Rattle.shader_resolve.specs.declared.resolve.access.BadIndex.{BadIndex}
use Rattle.shader_resolve.specs.declared.resolve.access.BadIndex.TheVariants.{PastEnd, NotIndexable}
use Rattle.shader_resolve.specs.Builtins.{first_conclusion, math_of_two, rules_after_one, rules_after_two}
pub use Rattle.shader_resolve.specs.CongruenceLaws.{Respects}
use Rattle.shader_resolve.specs.Context.{Context}
use Rattle.shader_resolve.specs.Outcome.{Refusal, Outcome, Given, at_inner, at_shape}
use Rattle.shader_resolve.specs.Component.{component, component_outcome, component_pointer, pointed_outcome, lifted}
use Rattle.shader_resolve.specs.Images.{gather_type, sample_type, extent_type}
use Rattle.shader_resolve.specs.Operations.{test_type, logical_type, cast_type, product_of, product_type, product}
use Rattle.shader_resolve.specs.declared.resolve.operations.Product.{Product}
use Rattle.shader_resolve.specs.declared.resolve.operations.Product.TheVariants.{AsLeft, AsRight, Built, NoProduct}
use Rattle.shader_resolve.specs.TypingRules.{One, Two, splat_type, swizzle_type, pointed_type, load_type, found_scalar, matrix_type}
use Rattle.shader_resolve.specs.TypingRules.{tile_type, on_shape, binary_rule, relational_rule, sample_rule, query_rule, math_rule}
use Rattle.shader_resolve.specs.TypingRules.{typing_rule}
use Rattle.shader_resolve.specs.Typing.{outcome_key}
use Rattle.shader_resolve.proofs.BuiltinLemmas.{one-canonical, first-canonical, second-canonical}
use Rattle.shader_resolve.proofs.TypingLemmas.{ReadsCanonical, canonical_cases, refuses_pointers, reads_pointers, at_same_keys}

module _ (types : List «Type») where
  on_shape-respects : (operand : ℕ) (answer : TypeInner → Outcome) → ReadsCanonical types answer →
      Respects types (on_shape types operand answer)
  on_shape-respects operand answer reads first second same = at_same_keys types answer reads first second same

  copy-respects : (operand : ℕ) → Respects types (One operand (λ reported. Given reported))
  copy-respects operand first second same = ap (λ key. Some key) same

  component_outcome-key : (base : ℕ) (first second : Refusal) (answer : Component → TypeResolution) (reached : Result Component BadIndex)
      → outcome_key types (component_outcome base first answer reached) ≡ outcome_key types (component_outcome base second answer reached)
  component_outcome-key base first second answer (Ok reached) = refl
  component_outcome-key base first second answer (Err (PastEnd index)) = refl
  component_outcome-key base first second answer (Err NotIndexable) = refl

  lifted-reads : (operand : ℕ) (index : Option ℕ) → ReadsCanonical types (lifted types operand index)
  lifted-reads operand index = reads_pointers types (lifted types operand index)
      (λ base space found at. to base space found.inner (ap (λ there. found_inner there) at))
    where
      to : (base : ℕ) (space : AddressSpace) (inner : TypeInner) → found_inner (slice_get types base) ≡ Some inner
          → outcome_key types (lifted types operand index (type.Pointer base space))
          ≡ outcome_key types (lifted types operand index (pointer_to base space inner))
      to base space (type.Scalar scalar) at = ap (λ there. outcome_key types (pointed_outcome operand index base space there)) at
      to base space (type.Vector size scalar) at =
          ap (λ there. outcome_key types (pointed_outcome operand index base space there)) at
          ∙ component_outcome-key operand _ _ (λ reached. Value (component_pointer space reached))
          (component index (type.Vector size scalar))
      to base space inner at = refl

  load-reads : (operand : ℕ) → ReadsCanonical types (load_type operand types)
  load-reads operand = reads_pointers types (load_type operand types) (λ base space found at. to base space found at found.inner refl)
    where
      pointed : (base : ℕ) (found : «Type») → slice_get types base ≡ Some found → (inner : TypeInner) → found.inner ≡ inner
          → outcome_key types (pointed_type operand base (found_inner (slice_get types base)))
          ≡ outcome_key types (pointed_type operand base (Some inner))
      pointed base found at inner is = ap (λ there. outcome_key types (pointed_type operand base (found_inner there))) at
          ∙ ap (λ a. outcome_key types (pointed_type operand base (Some a))) is

      handle : (base : ℕ) (found : «Type») → slice_get types base ≡ Some found → (inner : TypeInner) → found.inner ≡ inner →
          outcome_key types (Given (Handle base)) ≡ Some (shape_key types base inner)
      handle base found at inner is = ap (λ there. Some (found_key types base there)) at ∙ ap (λ a. Some (shape_key types base a)) is

      to : (base : ℕ) (space : AddressSpace) (found : «Type») → slice_get types base ≡ Some found → (inner : TypeInner) →
          found.inner ≡ inner
          → outcome_key types (load_type operand types (type.Pointer base space))
          ≡ outcome_key types (load_type operand types (pointer_to base space inner))
      to base space found at (type.Scalar scalar) is = pointed base found at (type.Scalar scalar) is
          ∙ handle base found at (type.Scalar scalar) is
      to base space found at (type.Vector size scalar) is =
          pointed base found at (type.Vector size scalar) is ∙ handle base found at (type.Vector size scalar) is
      to base space found at inner is = refl

  tile-reads : (operand : ℕ) (columns rows : CooperativeSize) (role : CooperativeRole) →
      ReadsCanonical types (tile_type operand types columns rows role)
  tile-reads operand columns rows role = reads_pointers types (tile_type operand types columns rows role)
      (λ base space found at. to base space found.inner (ap (λ there. found_inner there) at))
    where
      to : (base : ℕ) (space : AddressSpace) (inner : TypeInner) → found_inner (slice_get types base) ≡ Some inner
          → outcome_key types (tile_type operand types columns rows role (type.Pointer base space))
          ≡ outcome_key types (tile_type operand types columns rows role (pointer_to base space inner))
      to base space (type.Scalar scalar) at = ap (λ there. outcome_key types
          (matrix_type operand columns rows role (found_scalar there))) at
      to base space (type.Vector size scalar) at = ap (λ there. outcome_key types
          (matrix_type operand columns rows role (found_scalar there))) at
      to base space inner at = refl

  splat-reads : (operand : ℕ) (size : VectorSize) → ReadsCanonical types (splat_type operand size)
  splat-reads operand size = refuses_pointers types (splat_type operand size) (λ base space. refl) (λ n scalar space. refl)

  swizzle-reads : (operand : ℕ) (size : VectorSize) → ReadsCanonical types (swizzle_type operand size)
  swizzle-reads operand size = refuses_pointers types (swizzle_type operand size) (λ base space. refl) (λ n scalar space. refl)

  gather-reads : (operand : ℕ) → ReadsCanonical types (gather_type operand)
  gather-reads operand = refuses_pointers types (gather_type operand) (λ base space. refl) (λ n scalar space. refl)

  sample-reads : (operand : ℕ) → ReadsCanonical types (sample_type operand)
  sample-reads operand = refuses_pointers types (sample_type operand) (λ base space. refl) (λ n scalar space. refl)

  extent-reads : (operand : ℕ) → ReadsCanonical types (extent_type operand)
  extent-reads operand = refuses_pointers types (extent_type operand) (λ base space. refl) (λ n scalar space. refl)

  test-reads : ReadsCanonical types test_type
  test-reads = refuses_pointers types test_type (λ base space. refl) (λ n scalar space. refl)

  logical-reads : ReadsCanonical types logical_type
  logical-reads = refuses_pointers types logical_type (λ base space. refl) (λ n scalar space. refl)

  cast-reads : (kind : ScalarKind) (convert : Option ℕ) → ReadsCanonical types (cast_type kind convert)
  cast-reads kind convert = refuses_pointers types (cast_type kind convert) (λ base space. refl) (λ n scalar space. refl)

  left-other : (base : ℕ) (size : Option VectorSize) (scalar : Scalar) (space : AddressSpace) (right : TypeInner) →
      product_of (type.Pointer base space) right ≡ product_of (type.ValuePointer size scalar space) right
  left-other base size scalar space (type.Scalar other) = refl
  left-other base size scalar space right = refl

  right-other : (base : ℕ) (size : Option VectorSize) (scalar : Scalar) (space : AddressSpace) (left : TypeInner) →
      product_of left (type.Pointer base space) ≡ product_of left (type.ValuePointer size scalar space)
  right-other base size scalar space (type.Scalar other) = refl
  right-other base size scalar space left = refl

  product_type-keys : (built : Product) (first second third fourth : TypeResolution) → key_of types first ≡ key_of types second →
      key_of types third ≡ key_of types fourth
      → outcome_key types (product_type built first third) ≡ outcome_key types (product_type built second fourth)
  product_type-keys AsLeft first second third fourth left right = ap (λ key. Some key) left
  product_type-keys AsRight first second third fourth left right = ap (λ key. Some key) right
  product_type-keys (Built inner) first second third fourth left right = refl
  product_type-keys NoProduct first second third fourth left right = refl

  at_inner-keys : (found : Option TypeInner) (first second : TypeInner → Outcome) →
      ((inner : TypeInner) → outcome_key types (first inner) ≡ outcome_key types (second inner))
      → outcome_key types (at_inner found first) ≡ outcome_key types (at_inner found second)
  at_inner-keys (Some inner) first second same = same inner
  at_inner-keys None first second same = refl

  at_shape-keys : (resolution : TypeResolution) (first second : TypeInner → Outcome) →
      ((inner : TypeInner) → outcome_key types (first inner) ≡ outcome_key types (second inner))
      → outcome_key types (at_shape types resolution first) ≡ outcome_key types (at_shape types resolution second)
  at_shape-keys resolution first second same = at_inner-keys (inner_of types resolution) first second same

  abbrev built : TypeResolution → TypeResolution → TypeInner → TypeInner → Outcome
  built left right left_inner right_inner = product_type (product_of left_inner right_inner) left right

  right-reads : (left right : TypeResolution) (left_inner : TypeInner) →
      ReadsCanonical types (λ right_inner. built left right left_inner right_inner)
  right-reads left right left_inner = canonical_cases types
      (λ inner other. outcome_key types (built left right left_inner inner) ≡ outcome_key types (built left right left_inner other))
      (λ inner. refl)
      (λ base size scalar space. ap (λ kind. outcome_key types (product_type kind left right))
      (right-other base size scalar space left_inner))

  left-reads : (left right : TypeResolution) (right_inner : TypeInner) →
      ReadsCanonical types (λ left_inner. built left right left_inner right_inner)
  left-reads left right right_inner = canonical_cases types
      (λ inner other. outcome_key types (built left right inner right_inner) ≡ outcome_key types (built left right other right_inner))
      (λ inner. refl)
      (λ base size scalar space. ap (λ kind. outcome_key types (product_type kind left right))
      (left-other base size scalar space right_inner))

  product-respects : (left right : ℕ) → Respects types (Two left right (product types))
  product-respects left right first second third fourth left_same right_same =
      at_shape-keys first _ _ (λ left_inner.
      at_shape-keys third _ _ (λ right_inner. product_type-keys (product_of left_inner right_inner) first second third fourth
      left_same right_same)
      ∙ at_same_keys types (λ right_inner. built second fourth left_inner right_inner) (right-reads second fourth left_inner) third
      fourth right_same)
      ∙ at_same_keys types (λ left_inner. at_shape types fourth (λ right_inner. built second fourth left_inner right_inner))
      (λ left_inner. at_shape-keys fourth _ _ (λ right_inner. left-reads second fourth right_inner left_inner)) first second left_same

  binary-respects : (op : BinaryOperator) (left right : ℕ) → Respects types (binary_rule types op left right)
  binary-respects operator.Multiply left right = product-respects left right
  binary-respects operator.Equal left right = on_shape-respects left test_type test-reads
  binary-respects operator.NotEqual left right = on_shape-respects left test_type test-reads
  binary-respects operator.Less left right = on_shape-respects left test_type test-reads
  binary-respects operator.LessEqual left right = on_shape-respects left test_type test-reads
  binary-respects operator.Greater left right = on_shape-respects left test_type test-reads
  binary-respects operator.GreaterEqual left right = on_shape-respects left test_type test-reads
  binary-respects operator.LogicalAnd left right = on_shape-respects left logical_type logical-reads
  binary-respects operator.LogicalOr left right = on_shape-respects left logical_type logical-reads
  binary-respects op left right = copy-respects left

  relational-respects : (fun : RelationalFunction) (argument : ℕ) → Respects types (relational_rule types fun argument)
  relational-respects relational.All argument = tt
  relational-respects relational.Any argument = tt
  relational-respects relational.IsNan argument = on_shape-respects argument test_type test-reads
  relational-respects relational.IsInf argument = on_shape-respects argument test_type test-reads

  sample-respects : (image : ℕ) (gather : Option SwizzleComponent) → Respects types (sample_rule types image gather)
  sample-respects image (Some component) = on_shape-respects image (gather_type image) (gather-reads image)
  sample-respects image None = on_shape-respects image (sample_type image) (sample-reads image)

  one-reads : (special : SpecialTypes) (fun : MathFunction) →
      ReadsCanonical types (λ inner. first_conclusion special (rules_after_one types fun inner))
  one-reads special fun inner = ap (λ rules. outcome_key types (first_conclusion special rules)) (one-canonical types fun inner)

  abbrev after_two : SpecialTypes → MathFunction → TypeInner → TypeInner → Outcome
  after_two special fun first second = first_conclusion special (rules_after_two types fun first second)

  math-respects : (special : SpecialTypes) (fun : MathFunction) (left right : ℕ) →
      Respects types (Two left right (math_of_two types special fun))
  math-respects special fun left right first second third fourth left_same right_same =
      at_shape-keys first _ _ (λ left_inner.
      at_same_keys types (λ right_inner. after_two special fun left_inner right_inner)
      (λ right_inner. ap (λ rules. outcome_key types (first_conclusion special rules)) (second-canonical types fun left_inner right_inner))
      third fourth right_same)
      ∙ at_same_keys types (λ left_inner. at_shape types fourth (λ right_inner. after_two special fun left_inner right_inner))
      (λ left_inner. at_shape-keys fourth _ _ (λ right_inner. ap (λ rules. outcome_key types (first_conclusion special rules))
      (first-canonical types fun left_inner right_inner))) first second left_same

  query-respects : (image : ℕ) (queried : ImageQuery) → Respects types (query_rule types image queried)
  query-respects image (query.Size level) = on_shape-respects image (extent_type image) (extent-reads image)
  query-respects image queried = tt

call-respects : (context : Context) (fun : MathFunction) (arg : ℕ) (arg1 : Option ℕ) →
    Respects context.types (math_rule context fun arg arg1)
call-respects context fun arg None =
    on_shape-respects context.types arg (λ inner. first_conclusion context.special_types (rules_after_one context.types fun inner))
    (one-reads context.types context.special_types fun)
call-respects context fun arg (Some arg1) = math-respects context.types context.special_types fun arg arg1

-- each typing rule gives one key at equal keys
pub typing_rule-respects : (context : Context) (expression : Expression) → Respects context.types (typing_rule context expression)
typing_rule-respects context (form.Access base index) = on_shape-respects context.types base (lifted context.types base None)
    (lifted-reads context.types base None)
typing_rule-respects context (form.AccessIndex base index) = on_shape-respects context.types base (lifted context.types base (Some index))
    (lifted-reads context.types base (Some index))
typing_rule-respects context (form.Splat size value) = on_shape-respects context.types value (splat_type value size)
    (splat-reads context.types value size)
typing_rule-respects context (form.Swizzle size vector pattern) =
    on_shape-respects context.types vector (swizzle_type vector size) (swizzle-reads context.types vector size)
typing_rule-respects context (form.Load pointer) = on_shape-respects context.types pointer (load_type pointer context.types)
    (load-reads context.types pointer)
typing_rule-respects context (form.ImageSample image sampler gather clamp_to_edge coordinate array_index offset level depth_ref) =
    sample-respects context.types image gather
typing_rule-respects context (form.ImageLoad image coordinate array_index sample level) =
    on_shape-respects context.types image (sample_type image) (sample-reads context.types image)
typing_rule-respects context (form.ImageQuery image queried) = query-respects context.types image queried
typing_rule-respects context (form.Unary op expr) = copy-respects context.types expr
typing_rule-respects context (form.Binary op left right) = binary-respects context.types op left right
typing_rule-respects context (form.Select condition accept reject) = copy-respects context.types accept
typing_rule-respects context (form.Derivative axis ctrl expr) = copy-respects context.types expr
typing_rule-respects context (form.Relational fun argument) = relational-respects context.types fun argument
typing_rule-respects context (form.Math fun arg arg1 arg2 arg3) = call-respects context fun arg arg1
typing_rule-respects context (form.As expr kind convert) = on_shape-respects context.types expr (cast_type kind convert)
    (cast-reads context.types kind convert)
typing_rule-respects context (form.CooperativeLoad columns rows role tile) =
    on_shape-respects context.types tile.pointer (tile_type tile.pointer context.types columns rows role)
    (tile-reads context.types tile.pointer columns rows role)
typing_rule-respects context (form.CooperativeMultiplyAdd a b c) = copy-respects context.types c
typing_rule-respects context _ = tt

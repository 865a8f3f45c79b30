-- Consequences of well-formedness for a function's expressions and for the arguments of a call.
use Rattle.std.proofs.Common.{◌≡◌, refl, sym, subst, ap, ◌∙◌, ℕ, zero, suc, ◌<◌, ◌↔◌, inl, inr}
use Rattle.std.proofs.Common.{All, List, [], ◌∷◌, Option, Some, None, IfSome, length, slice_get}
use Rattle.std.specs.List.{Contains, zip}
use Rattle.std.proofs.lemmas.List.Elements.{All-contains, All-head, All-tail}
use Rattle.std.proofs.lemmas.Option.{same_Some}
use Rattle.shader_analysis_spec.proofs.EarlierLemmas.{is_item}
use Rattle.shader_analysis_spec.proofs.ListLemmas.{cases, here, nowhere, there}
use Rattle.shader_analysis_spec.specs.Program.{Expression, Function, Module}
use Rattle.shader_ir.specs.Slots.{retained, read, read_optional}
use Rattle.shader_ir.specs.declared.expression.Expression.TheVariants as form
use Rattle.shader_ir.specs.declared.function.EntryPoint.{EntryPoint}
use Rattle.shader_ir.specs.declared.function.FunctionArgument.{FunctionArgument}
use Rattle.shader_ir.specs.declared.proc.operands.Label.{Label}
use Rattle.shader_ir.specs.declared.proc.operands.Label.TheVariants.{Part}
use Rattle.shader_ir.specs.declared.proc.type_resolution.TypeResolution.{TypeResolution}
use Rattle.shader_resolve.specs.Context.{context_of}
use Rattle.shader_resolve.specs.WellFormed.{AtEach, ExpressionInRange, FunctionInRange, IsWellFormed, OperandsBelow}
use Rattle.shader_bounds.specs.Checked.{ChainNeedsCheck}
use Rattle.shader_bounds.specs.Adds.{Adds}
use Rattle.shader_bounds.specs.Locals.{CallPasses, PairsPass, PassesUnchecked, pointed_at}
use Rattle.shader_bounds.specs.Typed.{IsFunctionOf}
use Rattle.shader_bounds.proofs.AddLemmas.{adds_as, adds_none}

module _ (m : Module) (well : IsWellFormed m) (f : Function) where
  in_range : IsFunctionOf m f → FunctionInRange m f
  in_range (inl at) = well.handles.functions.functions at.0 f at.1
  in_range (inr at) =
      let P : Function → Type 0 = λ v. FunctionInRange m v in
      let within : FunctionInRange m (at.1).function = All-contains (λ (entry : EntryPoint). FunctionInRange m entry.function)
      m.entry_points at.1 well.handles.functions.entry_points (is_item m.entry_points at.0 at.1 at.2) in
      subst P at.3 within

  -- the operands of its expressions are earlier ones
  pub operands_earlier : IsFunctionOf m f → AtEach OperandsBelow f.expressions
  operands_earlier (inl at) = well.operands.functions.functions at.0 f at.1
  operands_earlier (inr at) =
      let P : Function → Type 0 = λ v. AtEach OperandsBelow v.expressions in
      let earlier : AtEach OperandsBelow (at.1).function.expressions =
      All-contains (λ (entry : EntryPoint). AtEach OperandsBelow entry.function.expressions) m.entry_points at.1
      well.operands.functions.entry_points (is_item m.entry_points at.0 at.1 at.2) in
      subst P at.3 earlier

  -- the operands of its expressions are in range
  pub operands_there : IsFunctionOf m f → (x : Expression) → Contains f.expressions x → OperandsBelow (length f.expressions) x
  operands_there of x holds =
      (All-contains (ExpressionInRange m (context_of m f.local_variables f.arguments) f.expressions) f.expressions x
      (in_range of).expressions holds).operands

-- operands of a list of slots
module _ (bound : ℕ) where
  abbrev Below : ℕ × Label → Type 0
  Below operand = operand.0 < bound

  first_slot : (slot : Option (ℕ × Label)) (slots : List (Option (ℕ × Label))) → All Below (retained (slot ∷ slots)) → IfSome slot Below
  first_slot None slots all = tt
  first_slot (Some operand) slots all = All-head Below operand (retained slots) all

  other_slots : (slot : Option (ℕ × Label)) (slots : List (Option (ℕ × Label))) → All Below (retained (slot ∷ slots)) →
      All Below (retained slots)
  other_slots None slots all = all
  other_slots (Some operand) slots all = All-tail Below operand (retained slots) all

  optional_slot : (e : Option ℕ) → IfSome (read_optional e) Below → IfSome e (λ e. e < bound)
  optional_slot None below = tt
  optional_slot (Some e) below = below

  -- the index of an access
  pub access_below : (x : Expression) (base index : ℕ) → x ≡ form.Access base index → OperandsBelow bound x → index < bound
  access_below x base index is below =
      let P : Expression → Type 0 = λ v. OperandsBelow bound v in
      let all : OperandsBelow bound (form.Access base index) = subst P is below in
      first_slot (read index) [] (other_slots (Some (base, Part)) (read index ∷ []) all)

  module _ (x : Expression) (image coordinate : ℕ) (array_index sample level : Option ℕ)
      (is : x ≡ form.ImageLoad image coordinate array_index sample level) (below : OperandsBelow bound x) where
    after_image : All Below (retained (read coordinate ∷ read_optional array_index ∷ read_optional sample ∷ read_optional level ∷ []))
    after_image =
        let P : Expression → Type 0 = λ v. OperandsBelow bound v in
        let all : OperandsBelow bound (form.ImageLoad image coordinate array_index sample level) = subst P is below in
        other_slots (read image) (read coordinate ∷ read_optional array_index ∷ read_optional sample ∷ read_optional level ∷ []) all

    after_coordinate : All Below (retained (read_optional array_index ∷ read_optional sample ∷ read_optional level ∷ []))
    after_coordinate = other_slots (read coordinate) (read_optional array_index ∷ read_optional sample ∷ read_optional level
        ∷ []) after_image

    after_array_index : All Below (retained (read_optional sample ∷ read_optional level ∷ []))
    after_array_index = other_slots (read_optional array_index) (read_optional sample ∷ read_optional level ∷ []) after_coordinate

    -- the operands of an image load are below the bound
    pub coordinate_below : coordinate < bound
    coordinate_below = first_slot (read coordinate) (read_optional array_index ∷ read_optional sample ∷ read_optional level
        ∷ []) after_image

    pub array_index_below : IfSome array_index (λ e. e < bound)
    array_index_below = optional_slot array_index (first_slot (read_optional array_index) (read_optional sample ∷ read_optional level ∷ [])
        after_coordinate)

    pub sample_below : IfSome sample (λ e. e < bound)
    sample_below = optional_slot sample (first_slot (read_optional sample) (read_optional level ∷ []) after_array_index)

    pub level_below : IfSome level (λ e. e < bound)
    level_below = optional_slot level (first_slot (read_optional level) []
        (other_slots (read_optional sample) (read_optional level ∷ []) after_array_index))

-- the pairs of two lists
zip_at : {X Y : Type 0} (xs : List X) (ys : List Y) (x : X) (y : Y) → Contains (zip xs ys) (x, y) →
    (i : ℕ) × (slice_get xs i ≡ Some x) × (slice_get ys i ≡ Some y)
zip_at [] ys x y h = absurd (nowhere (x, y) h)
zip_at (a ∷ xs) [] x y h = absurd (nowhere (x, y) h)
zip_at {X = X} {Y = Y} (a ∷ xs) (b ∷ ys) x y h = elim (cases (a, b) (zip xs ys) (x, y) h) [
  | inl is ↦ (0, ap (λ (p : X × Y). Some p.0) is, ap (λ (p : X × Y). Some p.1) is)
  | inr rest ↦ let later = zip_at xs ys x y rest in (suc later.0, later.1, later.2)
]

at_zip : {X Y : Type 0} (xs : List X) (ys : List Y) (x : X) (y : Y) (i : ℕ) → slice_get xs i ≡ Some x → slice_get ys i ≡ Some y →
    Contains (zip xs ys) (x, y)
at_zip [] ys x y i e g = absurd (cc)
at_zip (a ∷ xs) [] x y i e g = absurd (cc)
at_zip {X = X} {Y = Y} (a ∷ xs) (b ∷ ys) x y zero e g =
    let P : X × Y → Type 0 = λ v. Contains (zip (a ∷ xs) (b ∷ ys)) v in
    let same : (a, b) ≡ (x, y) = cc in subst P same (here (a, b) (zip xs ys))
at_zip (a ∷ xs) (b ∷ ys) x y (suc i) e g = there (a, b) (zip xs ys) (x, y) (at_zip xs ys x y i e g)

-- the arguments of a call in turn
module _ (m : Module) (f : Function) (P : ℕ → TypeResolution → Type 0) where
  pub passes_add : (ty : ℕ) (parameter : FunctionArgument) (argument : ℕ) (S T : ℕ → Type 0) → pointed_at m.types parameter.ty ≡ Some ty →
      ChainNeedsCheck m f P argument →
      Adds S T (λ e. ty ≡ e) → Adds S T (λ e. PassesUnchecked m f P e parameter argument)
  passes_add ty parameter argument S T points chain g =
      adds_as S T (λ e. ty ≡ e) (λ e. PassesUnchecked m f P e parameter argument)
      (λ e. (
        λ is. record { points = points ∙ ap (λ (v : ℕ). Some v) is; chain = chain },
        λ passes. same_Some ty e (sym points ∙ passes.points),
      )) g

  pub pairs_pass : (callee : ℕ) (arguments : List ℕ) (called : Function) → slice_get m.functions callee ≡ Some called → (ty : ℕ) →
      PairsPass m f P (zip called.arguments arguments) ty ↔ CallPasses m f P ty callee arguments
  pairs_pass callee arguments called is_there ty = (to, from)
    where
      to : PairsPass m f P (zip called.arguments arguments) ty → CallPasses m f P ty callee arguments
      to brings =
          let at = zip_at called.arguments arguments (brings.0).0 (brings.0).1 brings.1 in
          record {
            called = called;
            position = at.0;
            parameter = (brings.0).0;
            argument = (brings.0).1;
            is_there = is_there;
            taken = at.1;
            given = at.2;
            passes = brings.2;
          }

      from : CallPasses m f P ty callee arguments → PairsPass m f P (zip called.arguments arguments) ty
      from call =
          let same : call.called ≡ called = same_Some call.called called (sym call.is_there ∙ is_there) in
          let Q : Function → Type 0 = λ v. slice_get v.arguments call.position ≡ Some call.parameter in
          let taken : slice_get called.arguments call.position ≡ Some call.parameter = subst Q same call.taken in (
            (call.parameter, call.argument),
            at_zip called.arguments arguments call.parameter call.argument call.position taken
                call.given,
            call.passes,
          )

  pub call_adds : (callee : ℕ) (arguments : List ℕ) (called : Function) (S T : ℕ → Type 0) → slice_get m.functions callee ≡ Some called →
      Adds S T (PairsPass m f P (zip called.arguments arguments)) →
      Adds S T (λ ty. CallPasses m f P ty callee arguments)
  call_adds callee arguments called S T is_there g =
      adds_as S T (PairsPass m f P (zip called.arguments arguments)) (λ ty. CallPasses m f P ty callee arguments)
      (λ ty. pairs_pass callee arguments called is_there ty) g

  no_callee : (callee : ℕ) (arguments : List ℕ) (ty : ℕ) → slice_get m.functions callee ≡ None → CallPasses m f P ty callee arguments → ⊥
  no_callee callee arguments ty none call = let never : None ≡ Some call.called = sym none ∙ call.is_there in absurd (cc)

  pub call_of_none : (callee : ℕ) (arguments : List ℕ) (S : ℕ → Type 0) → slice_get m.functions callee ≡ None →
      Adds S S (λ ty. CallPasses m f P ty callee arguments)
  call_of_none callee arguments S none = adds_none S (λ ty. CallPasses m f P ty callee arguments)
      (λ ty call. no_callee callee arguments ty none call)

-- the function at a position among the module's functions is one of them
pub is_function_at : (m : Module) (i : ℕ) (f : Function) → slice_get m.functions i ≡ Some f → IsFunctionOf m f
is_function_at m i f is_there = inl (i, is_there)

-- the function of the entry point at a position is one of the module's functions
pub is_entry_point_at : (m : Module) (i : ℕ) (entry : EntryPoint) → slice_get m.entry_points i ≡ Some entry → IsFunctionOf m entry.function
is_entry_point_at m i entry is_there = inr (i, entry, is_there, refl)

-- find_fault returns the first faulty location of a module, and none exactly if check_module returns none.
use Rattle.std.proofs.Common.{◌≡◌, ◌↔◌, ◌∙◌, inl, inr, sym, ap, subst, refl, ℕ, suc, ◌+◌, Bool, true, false, ◌&&◌, List, []}
use Rattle.std.proofs.Common.{◌∷◌, ◌++◌, Option, Some, IfSome, IsOk, IsNone, Ok, Err, All, map, length, slice_get, arith}
use Rattle.std.specs.Bool.{Decides}
use Rattle.std.specs.List.{enumerate_from, flat_map}
use Rattle.std.specs.Result.{result_err}
use Rattle.std.proofs.lemmas.Bool.Decides.{not_from_Decides}
use Rattle.shader_ir.specs.declared.function.EntryPoint.{EntryPoint}
use Rattle.shader_ir.specs.declared.function.Function.{Function}
use Rattle.shader_ir.specs.declared.function.FunctionArgument.{FunctionArgument}
use Rattle.shader_ir.specs.declared.module.Module.{Module}
use Rattle.shader_resolve.specs.FaultyLocations.{DeclarationsLack, ExpressionLacks, FilterLacks, FunctionLacks, HandlesLack}
use Rattle.shader_resolve.specs.FaultyLocations.{IsFirstModuleFault}
use Rattle.shader_resolve.specs.FaultyLocations.{OfEntryPoint, OfFunction, LocationLacks, OccursFirst, TypeLacks, at_each}
use Rattle.shader_resolve.specs.FaultyLocations.{locations_in_function}
use Rattle.shader_resolve.specs.FaultyLocations.{in_entry_point, in_function, locations, locations_within, variable_locations}
use Rattle.shader_resolve.specs.ModuleTests.{Checked, bounds_of, check_argument, check_entry_point, check_expression, check_filter}
use Rattle.shader_resolve.specs.ModuleTests.{check_function, check_module, check_statement, check_type, constant_in_range, every}
use Rattle.shader_resolve.specs.ModuleTests.{every_entry, function_in_range, global_bounds, global_in_range, guard, in_arena, in_body}
use Rattle.shader_resolve.specs.ModuleTests.{in_entries, in_list, override_in_range, no_fault, special_in_range, then, variables_in_range}
use Rattle.shader_resolve.specs.LocationTests.{Located, check_declarations, find_constants, find_entry_points, find_expressions}
use Rattle.shader_resolve.specs.LocationTests.{find_filters, find_functions, find_global_expressions, find_globals, find_in_entry_point}
use Rattle.shader_resolve.specs.LocationTests.{find_in_function, find_in_module, find_overrides, find_types, find_variables}
use Rattle.shader_resolve.specs.LocationTests.{first_in, first_within, located_here, handles_tested, or_later, within}
use Rattle.shader_resolve.specs.WellFormed.{ConstantInRange, GlobalInRange, IsWellFormed, Lacks}
use Rattle.shader_resolve.specs.WellFormed.{OverrideInRange, SpecialTypesInRange, ModuleHasFault}
use Rattle.shader_resolve.specs.declared.well_formed.ModuleFault.{ModuleFault}
use Rattle.shader_resolve.specs.declared.well_formed.ModuleFault.TheVariants.{HandleOutOfRange, ValuePointerArgument}
use Rattle.shader_resolve.specs.declared.well_formed.locations.LocationInFunction.{LocationInFunction}
use Rattle.shader_resolve.specs.declared.well_formed.locations.LocationInFunction.TheVariants as part
use Rattle.shader_resolve.specs.declared.well_formed.locations.ModuleLocation.{ModuleLocation}
use Rattle.shader_resolve.specs.declared.well_formed.locations.ModuleLocation.TheVariants as location
use Rattle.shader_resolve.proofs.BodyLemmas.{then-assoc}
use Rattle.shader_resolve.proofs.ModuleLemmas.{ArgumentFacts, Sound, along, any-item, argument-sound, body-sound, expression-sound}
use Rattle.shader_resolve.proofs.ModuleLemmas.{filter-sound, guarded, in_list-sound, module-sound, ok-decides, then-sound, type-sound}
use Rattle.shader_resolve.proofs.TestLemmas.{OthersInRange, constant-decides, function-decides}
use Rattle.shader_resolve.proofs.TestLemmas.{global-decides, override-decides, special-decides}

-- no violation occurs at the locations
abbrev NoneOf : {P : Type 0} → (P → ModuleFault → Type 0) → List P → Type 0
NoneOf Fact [] = Unit {0}
NoneOf Fact (here ∷ later) = ((any : ModuleFault) → Fact here any) × NoneOf Fact later

-- the result is the first location with a violation
abbrev FirstOf : {P : Type 0} → (P → ModuleFault → Type 0) → List P → Located P → Type 0
FirstOf Fact ps (Ok nothing) = NoneOf Fact ps
FirstOf Fact ps (Err found) = OccursFirst Fact ps found.0 found.1

module _ {P : Type 0} (Fact : P → ModuleFault → Type 0) where
  later-first : (here : P) (later : List P) (found : Located P) → ((any : ModuleFault) → Fact here any) → FirstOf Fact later found
      → FirstOf Fact (here ∷ later) found
  later-first here later (Ok nothing) holds first = (holds, first)
  later-first here later (Err found) holds first = inr (holds, first)

  here-first : (here : P) (later : List P) (check : Checked) (found : Located P) → Sound check (Fact here) → FirstOf Fact later found
      → FirstOf Fact (here ∷ later) (or_later (located_here here check) found)
  here-first here later (Ok nothing) found sound first = later-first here later found sound first
  here-first here later (Err fault) found sound first = inl (refl, sound)

  alone-first : (here : P) (check : Checked) → Sound check (Fact here) → FirstOf Fact (here ∷ []) (located_here here check)
  alone-first here (Ok nothing) sound = (sound, tt)
  alone-first here (Err fault) sound = inl (refl, sound)

  after : (xs ys : List P) (later : Located P) → NoneOf Fact xs → FirstOf Fact ys later → FirstOf Fact (xs ++ ys) later
  after [] ys later none more = more
  after (x ∷ xs) ys later none more = later-first x (xs ++ ys) later none.0 (after xs ys later none.1 more)

  before : (xs ys : List P) (found : P) (fault : ModuleFault) → OccursFirst Fact xs found fault → OccursFirst Fact (xs ++ ys) found fault
  before [] ys found fault none = absurd none
  before (x ∷ xs) ys found fault (inl here) = inl here
  before (x ∷ xs) ys found fault (inr later) = inr (later.0, before xs ys found fault later.1)

  joined : (xs ys : List P) (first later : Located P) → FirstOf Fact xs first → FirstOf Fact ys later
      → FirstOf Fact (xs ++ ys) (or_later first later)
  joined xs ys (Ok nothing) later none more = after xs ys later none more
  joined xs ys (Err found) later is_there more = before xs ys found.0 found.1 is_there

module _ {T P : Type 0} (Fact : P → ModuleFault → Type 0) (at : ℕ → P) (check : ℕ → T → Checked) where
  entries-first : (n : ℕ) (items : List T)
      → ((k : ℕ) (item : T) → slice_get items k ≡ Some item → Sound (check (n + k) item) (Fact (at (n + k))))
      → FirstOf Fact (map (λ (entry : ℕ × T). at entry.0) (enumerate_from n items)) (first_in at check (enumerate_from n items))
  entries-first n [] each = tt
  entries-first n (item ∷ items) each =
      let same : n + 0 ≡ n = omega arith in
      here-first Fact (at n) (map (λ (entry : ℕ × T). at entry.0) (enumerate_from (n + 1) items)) (check n item) (first_in at check
      (enumerate_from (n + 1) items))
      (subst (λ k. Sound (check k item) (Fact (at k))) same (each 0 item refl))
      (entries-first (n + 1) items
      (λ k found is. let next : n + suc k ≡ n + 1 + k = omega arith in subst (λ k. Sound (check k found) (Fact (at k))) next (each
      (suc k) found is)))

  each-first : (items : List T) → ((k : ℕ) (item : T) → slice_get items k ≡ Some item → Sound (check k item) (Fact (at k)))
      → FirstOf Fact (at_each at items) (first_in at check (enumerate_from 0 items))
  each-first items each =
      entries-first 0 items (λ k item is. let same : k ≡ 0 + k = omega arith in subst (λ k. Sound (check k item) (Fact (at k))) same
      (each k item is))

module _ {P Q : Type 0} (Fact : Q → ModuleFault → Type 0) (in_whole : P → Q) where
  none-within : (ps : List P) → NoneOf (λ p. Fact (in_whole p)) ps → NoneOf Fact (map in_whole ps)
  none-within [] none = tt
  none-within (p ∷ ps) none = (none.0, none-within ps none.1)

  is_there-within : (ps : List P) (found : P) (fault : ModuleFault) → OccursFirst (λ p. Fact (in_whole p)) ps found fault
      → OccursFirst Fact (map in_whole ps) (in_whole found) fault
  is_there-within [] found fault none = absurd none
  is_there-within (p ∷ ps) found fault (inl here) = inl (ap in_whole here.0, here.1)
  is_there-within (p ∷ ps) found fault (inr later) = inr (later.0, is_there-within ps found fault later.1)

  within-first : (ps : List P) (found : Located P) → FirstOf (λ p. Fact (in_whole p)) ps found
      → FirstOf Fact (map in_whole ps) (within in_whole found)
  within-first ps (Ok nothing) none = none-within ps none
  within-first ps (Err found) is_there = is_there-within ps found.0 found.1 is_there

-- equivalent facts have the same first location
module _ {P : Type 0} (F G : P → ModuleFault → Type 0) (to : (p : P) (fault : ModuleFault) → F p fault
    → G p fault) (from : (p : P) (fault : ModuleFault) → G p fault → F p fault) where
  same-none : (ps : List P) → NoneOf F ps → NoneOf G ps
  same-none [] none = tt
  same-none (p ∷ ps) none = (λ any. to p any (none.0 any), same-none ps none.1)

  same-is_there : (ps : List P) (found : P) (fault : ModuleFault) → OccursFirst F ps found fault → OccursFirst G ps found fault
  same-is_there [] found fault none = absurd none
  same-is_there (p ∷ ps) found fault (inl here) = inl (here.0, λ g. here.1 (from p fault g))
  same-is_there (p ∷ ps) found fault (inr later) = inr (λ any. to p any (later.0 any), same-is_there ps found fault later.1)

  same-first : (ps : List P) (found : Located P) → FirstOf F ps found → FirstOf G ps found
  same-first ps (Ok nothing) none = same-none ps none
  same-first ps (Err found) is_there = same-is_there ps found.0 found.1 is_there

module _ {T P Q : Type 0} (Fact : Q → ModuleFault → Type 0) (at : ℕ → P → Q) (parts : T → List P) (find : ℕ → T → Located P) where
  parts-from : (n : ℕ) (items : List T)
      → ((k : ℕ) (item : T) → slice_get items k ≡ Some item → FirstOf (λ p. Fact (at (n + k) p)) (parts item) (find (n + k) item))
      → FirstOf Fact (flat_map (λ (entry : ℕ × T). map (at entry.0) (parts entry.1)) (enumerate_from n items)) (first_within at find
      (enumerate_from n items))
  parts-from n [] each = tt
  parts-from n (item ∷ items) each =
      let same : n + 0 ≡ n = omega arith in
      joined Fact (map (at n) (parts item)) (flat_map (λ (entry : ℕ × T). map (at entry.0) (parts entry.1)) (enumerate_from (n + 1) items))
      (within (at n) (find n item)) (first_within at find (enumerate_from (n + 1) items))
      (within-first Fact (at n) (parts item) (find n item) (subst (λ k. FirstOf (λ p. Fact (at k p)) (parts item) (find k item)) same
      (each 0 item refl)))
      (parts-from (n + 1) items
      (λ k found is.
      let next : n + suc k ≡ n + 1 + k = omega arith in
      subst (λ k. FirstOf (λ p. Fact (at k p)) (parts found) (find k found)) next (each (suc k) found is)))

  parts-first : (items : List T) → ((k : ℕ) (item : T) → slice_get items k ≡ Some item
      → FirstOf (λ p. Fact (at k p)) (parts item) (find k item))
      → FirstOf Fact (flat_map (λ (entry : ℕ × T). map (at entry.0) (parts entry.1)) (enumerate_from 0 items)) (first_within at find
      (enumerate_from 0 items))
  parts-first items each =
      parts-from 0 items
      (λ k item is. let same : k ≡ 0 + k = omega arith in subst (λ k. FirstOf (λ p. Fact (at k p)) (parts item) (find k item)) same
      (each k item is))

-- the fact for the item that is there
at-some : {T : Type 0} (check : Checked) (F : T → ModuleFault → Type 0) (found : Option T) (item : T) → found ≡ Some item
    → Sound check (F item)
    → Sound check (λ fault. IfSome found (λ item. F item fault))
at-some check F found item is sound = subst (λ found. Sound check (λ fault. IfSome found (λ item. F item fault))) (sym is) sound

handles-lack : (InRange : Type 0) → InRange → (fault : ModuleFault) → HandlesLack InRange fault
handles-lack InRange is HandleOutOfRange = is
handles-lack InRange is fault = tt

tests-sound : (test : Bool) (InRange : Type 0) → Decides test InRange → Sound (handles_tested test) (HandlesLack InRange)
tests-sound test InRange decides =
    guarded test HandleOutOfRange no_fault (HandlesLack InRange) (λ passes. handles-lack InRange (decides.0 passes))
    (λ fails. not_from_Decides test decides fails)

module _ (checked : Module) where
  module _ (function : Function) where
    abbrev ArgumentsLack : ModuleFault → Type 0
    ArgumentsLack fault = All (λ (argument : FunctionArgument). ArgumentFacts checked argument fault) function.arguments

    declared : (fault : ModuleFault) → HandlesLack (OthersInRange checked function) fault × ArgumentsLack fault
        → DeclarationsLack checked function fault
    declared HandleOutOfRange both = record {
      arguments = both.1;
      result = both.0.result;
      locals = both.0.locals;
      named = both.0.named;
      filter = both.0.filter;
    }
    declared ValuePointerArgument both = both.1
    declared fault both = tt

    undeclared : (fault : ModuleFault) → DeclarationsLack checked function fault
        → HandlesLack (OthersInRange checked function) fault × ArgumentsLack fault
    undeclared HandleOutOfRange is = (record { result = is.result; locals = is.locals; named = is.named; filter = is.filter }, is.arguments)
    undeclared ValuePointerArgument is = (tt, is)
    undeclared fault is = (tt, any-item function.arguments)

    declarations-sound : Sound (check_declarations checked function) (DeclarationsLack checked function)
    declarations-sound =
        along (check_declarations checked function) (λ fault. HandlesLack (OthersInRange checked function) fault × ArgumentsLack fault)
        (DeclarationsLack checked function) declared undeclared
        (then-sound (handles_tested (function_in_range checked function)) (in_list (check_argument checked) function.arguments)
        (HandlesLack (OthersInRange checked function)) ArgumentsLack
        (tests-sound (function_in_range checked function) (OthersInRange checked function) (function-decides checked function))
        (in_list-sound (check_argument checked) (ArgumentFacts checked) (argument-sound checked) function.arguments))

  function-first : (earlier : ℕ) (function : Function) → FirstOf (FunctionLacks checked earlier function) (locations_in_function function)
      (find_in_function checked earlier function)
  function-first earlier function =
      here-first (FunctionLacks checked earlier function) part.Declarations _ (check_declarations checked function) _
      (declarations-sound function)
      (joined (FunctionLacks checked earlier function) (at_each part.Expression function.expressions) (part.Body ∷ [])
      (find_expressions checked (bounds_of earlier function) function.expressions)
      (located_here part.Body (in_body (check_statement checked (bounds_of earlier function)) function.body))
      (each-first (FunctionLacks checked earlier function) part.Expression (check_expression checked
      (bounds_of earlier function)) function.expressions
      (λ k item is.
      at-some (check_expression checked (bounds_of earlier function) k item)
      (ExpressionLacks checked earlier function.local_variables function.arguments function.expressions k)
      (slice_get function.expressions k) item is
      (expression-sound checked earlier function.local_variables function.arguments function.expressions k item)))
      (alone-first (FunctionLacks checked earlier function) part.Body (in_body (check_statement checked
      (bounds_of earlier function)) function.body) (body-sound checked earlier function)))

  constants-first : FirstOf (LocationLacks checked) (at_each location.Constant checked.constants) (find_constants checked)
  constants-first =
      each-first (LocationLacks checked) location.Constant (λ handle constant. handles_tested
      (constant_in_range checked constant)) checked.constants
      (λ k item is.
      at-some (handles_tested (constant_in_range checked item)) (λ constant. HandlesLack (ConstantInRange checked constant))
      (slice_get checked.constants k) item is
      (tests-sound (constant_in_range checked item) (ConstantInRange checked item) (constant-decides checked item)))

  overrides-first : FirstOf (LocationLacks checked) (at_each location.Override checked.overrides) (find_overrides checked)
  overrides-first =
      each-first (LocationLacks checked) location.Override (λ handle override. handles_tested
      (override_in_range checked override)) checked.overrides
      (λ k item is.
      at-some (handles_tested (override_in_range checked item)) (λ override. HandlesLack (OverrideInRange checked override))
      (slice_get checked.overrides k) item is
      (tests-sound (override_in_range checked item) (OverrideInRange checked item) (override-decides checked item)))

  globals-first : FirstOf (LocationLacks checked) (at_each location.GlobalVariable checked.global_variables) (find_globals checked)
  globals-first =
      each-first (LocationLacks checked) location.GlobalVariable (λ handle variable. handles_tested
      (global_in_range checked variable)) checked.global_variables
      (λ k item is.
      at-some (handles_tested (global_in_range checked item)) (λ variable. HandlesLack (GlobalInRange checked variable))
      (slice_get checked.global_variables k) item is
      (tests-sound (global_in_range checked item) (GlobalInRange checked item) (global-decides checked item)))

  variables-first : FirstOf (LocationLacks checked) (variable_locations checked) (find_variables checked)
  variables-first =
      here-first (LocationLacks checked) location.SpecialTypes _ (handles_tested (special_in_range checked checked.special_types)) _
      (tests-sound (special_in_range checked checked.special_types) (SpecialTypesInRange checked checked.special_types)
      (special-decides checked checked.special_types))
      (joined (LocationLacks checked) (at_each location.Constant checked.constants) _ (find_constants checked) _ constants-first
      (joined (LocationLacks checked) (at_each location.Override checked.overrides)
      (at_each location.GlobalVariable checked.global_variables)
      (find_overrides checked) (find_globals checked)
      overrides-first globals-first))

  types-first : FirstOf (LocationLacks checked) (at_each location.Type checked.types) (find_types checked)
  types-first =
      each-first (LocationLacks checked) location.Type (λ handle type. check_type checked handle type.inner) checked.types
      (λ k item is. at-some (check_type checked k item.inner) (TypeLacks checked k) (slice_get checked.types k) item is
      (type-sound checked k item))

  filters-first : FirstOf (LocationLacks checked) (at_each location.DiagnosticFilter checked.diagnostic_filters) (find_filters checked)
  filters-first =
      each-first (LocationLacks checked) location.DiagnosticFilter (check_filter checked) checked.diagnostic_filters
      (λ k item is. at-some (check_filter checked k item) (FilterLacks checked k) (slice_get checked.diagnostic_filters k) item is
      (filter-sound checked k item))

  global_expressions-first : FirstOf (LocationLacks checked) (at_each location.GlobalExpression checked.global_expressions)
      (find_global_expressions checked)
  global_expressions-first =
      each-first (LocationLacks checked) location.GlobalExpression (check_expression checked (global_bounds checked))
      checked.global_expressions
      (λ k item is.
      at-some (check_expression checked (global_bounds checked) k item) (ExpressionLacks checked 0 [] [] checked.global_expressions k)
      (slice_get checked.global_expressions k) item is
      (expression-sound checked 0 [] [] checked.global_expressions k item))

  -- the first faulty location of the function that is there
  in-some : {T : Type 0} (function_of : T → Function) (earlier : ℕ) (found : Option T) (item : T) → found ≡ Some item
      → FirstOf (FunctionLacks checked earlier (function_of item)) (locations_in_function (function_of item))
      (find_in_function checked earlier
      (function_of item))
      → FirstOf (λ p fault. IfSome found (λ item. FunctionLacks checked earlier (function_of item) p fault)) (locations_in_function
      (function_of item)) (find_in_function checked earlier (function_of item))
  in-some function_of earlier found item is first =
      subst (λ found. FirstOf (λ p fault. IfSome found (λ item. FunctionLacks checked earlier (function_of item) p fault))
      (locations_in_function (function_of item)) (find_in_function checked earlier (function_of item)))
      (sym is) first

  into-function : (k : ℕ) (p : LocationInFunction) (fault : ModuleFault) → OfFunction checked k p fault
      → LocationLacks checked (in_function k p) fault
  into-function k part.Declarations fault is = is
  into-function k (part.Expression expression) fault is = is
  into-function k part.Body fault is = is

  from-function : (k : ℕ) (p : LocationInFunction) (fault : ModuleFault) → LocationLacks checked (in_function k p) fault
      → OfFunction checked k p fault
  from-function k part.Declarations fault is = is
  from-function k (part.Expression expression) fault is = is
  from-function k part.Body fault is = is

  into-entry_point : (k : ℕ) (p : LocationInFunction) (fault : ModuleFault) → OfEntryPoint checked k p fault
      → LocationLacks checked (in_entry_point k p) fault
  into-entry_point k part.Declarations fault is = is
  into-entry_point k (part.Expression expression) fault is = is
  into-entry_point k part.Body fault is = is

  from-entry_point : (k : ℕ) (p : LocationInFunction) (fault : ModuleFault) → LocationLacks checked (in_entry_point k p) fault
      → OfEntryPoint checked k p fault
  from-entry_point k part.Declarations fault is = is
  from-entry_point k (part.Expression expression) fault is = is
  from-entry_point k part.Body fault is = is

  functions-first : FirstOf (LocationLacks checked) (locations_within in_function (λ function. function) checked.functions)
      (find_functions checked)
  functions-first =
      parts-first (LocationLacks checked) in_function locations_in_function (find_in_function checked) checked.functions
      (λ k item is.
      same-first (OfFunction checked k) (λ p. LocationLacks checked (in_function k p)) (into-function k) (from-function k)
      (locations_in_function item) (find_in_function checked k item)
      (in-some (λ (function : Function). function) k (slice_get checked.functions k) item is (function-first k item)))

  entry_points-first : FirstOf (LocationLacks checked) (locations_within in_entry_point (λ
      (entry : EntryPoint). entry.function) checked.entry_points) (find_entry_points checked)
  entry_points-first =
      parts-first (LocationLacks checked) in_entry_point (λ (entry : EntryPoint). locations_in_function entry.function)
      (find_in_entry_point checked) checked.entry_points
      (λ k item is.
      same-first (OfEntryPoint checked k) (λ p. LocationLacks checked (in_entry_point k p)) (into-entry_point k) (from-entry_point k)
      (locations_in_function item.function)
      (find_in_entry_point checked k item)
      (in-some (λ (entry : EntryPoint). entry.function) (length checked.functions) (slice_get checked.entry_points k) item is
      (function-first (length checked.functions) item.function)))

  module-first : FirstOf (LocationLacks checked) (locations checked) (find_in_module checked)
  module-first =
      joined (LocationLacks checked) (variable_locations checked) _ (find_variables checked) _ variables-first
      (joined (LocationLacks checked) (at_each location.Type checked.types) _ (find_types checked) _ types-first
      (joined (LocationLacks checked) (at_each location.DiagnosticFilter checked.diagnostic_filters) _ (find_filters checked) _
      filters-first
      (joined (LocationLacks checked) (at_each location.GlobalExpression checked.global_expressions) _
      (find_global_expressions checked) _ global_expressions-first
      (joined (LocationLacks checked) (locations_within in_function (λ function. function) checked.functions) _ (find_functions checked)
      (find_entry_points checked)
      functions-first entry_points-first))))

-- the violation without its location
abbrev fault_of : {P : Type 0} → Located P → Checked
fault_of (Ok nothing) = Ok nothing
fault_of (Err found) = Err found.1

module _ {P : Type 0} where
  fault-later : (first later : Located P) → fault_of (or_later first later) ≡ then (fault_of first) (fault_of later)
  fault-later (Ok nothing) later = refl
  fault-later (Err found) later = refl

  fault-here : (here : P) (check : Checked) → fault_of (located_here here check) ≡ check
  fault-here here (Ok nothing) = refl
  fault-here here (Err fault) = refl

  both : (first later : Located P) (a b : Checked) → fault_of first ≡ a → fault_of later ≡ b → fault_of (or_later first later) ≡ then a b
  both first later a b e f = fault-later first later ∙ ap (λ x. then x (fault_of later)) e ∙ ap (λ y. then a y) f

fault-within : {P Q : Type 0} (in_whole : P → Q) (found : Located P) → fault_of (within in_whole found) ≡ fault_of found
fault-within in_whole (Ok nothing) = refl
fault-within in_whole (Err found) = refl

fault-in : {T P : Type 0} (at : ℕ → P) (check : ℕ → T → Checked) (entries : List (ℕ × T))
    → fault_of (first_in at check entries) ≡ in_entries check entries
fault-in at check [] = refl
fault-in at check (entry ∷ entries) =
    both (located_here (at entry.0) (check entry.0 entry.1)) (first_in at check entries) (check entry.0 entry.1) (in_entries check entries)
    (fault-here (at entry.0) (check entry.0 entry.1)) (fault-in at check entries)

fault-parts : {T P Q : Type 0} (at : ℕ → P → Q) (find : ℕ → T → Located P) (check : ℕ → T → Checked) → ((k : ℕ) (item : T)
    → fault_of (find k item) ≡ check k item)
    → (entries : List (ℕ × T)) → fault_of (first_within at find entries) ≡ in_entries check entries
fault-parts at find check each [] = refl
fault-parts at find check each (entry ∷ entries) =
    both (within (at entry.0) (find entry.0 entry.1)) (first_within at find entries) (check entry.0 entry.1) (in_entries check entries)
    (fault-within (at entry.0) (find entry.0 entry.1) ∙ each entry.0 entry.1) (fault-parts at find check each entries)

-- the tests of handles along a list, and one after another
tested-then : (first second : Bool) → then (handles_tested first) (handles_tested second) ≡ handles_tested (first && second)
tested-then true second = refl
tested-then false second = refl

tested-guard : (test : Bool) (rest : Checked) → then (handles_tested test) rest ≡ guard test HandleOutOfRange rest
tested-guard true rest = refl
tested-guard false rest = refl

tested-entries : {T : Type 0} (test : ℕ → T → Bool) (entries : List (ℕ × T))
    → in_entries (λ k item. handles_tested (test k item)) entries ≡ handles_tested (every_entry test entries)
tested-entries test [] = refl
tested-entries test (entry ∷ entries) =
    ap (λ rest. then (handles_tested (test entry.0 entry.1)) rest) (tested-entries test entries) ∙ tested-then (test entry.0 entry.1)
    (every_entry test entries)

guard-then : (test : Bool) (rest more : Checked) → then (guard test HandleOutOfRange rest) more ≡ guard test HandleOutOfRange
    (then rest more)
guard-then true rest more = refl
guard-then false rest more = refl

list-entries : {T : Type 0} (check : T → Checked) (n : ℕ) (items : List T)
    → in_entries (λ k item. check item) (enumerate_from n items) ≡ in_list check items
list-entries check n [] = refl
list-entries check n (item ∷ items) = ap (λ rest. then (check item) rest) (list-entries check (n + 1) items)

module _ (checked : Module) where
  fault-function : (earlier : ℕ) (function : Function) → fault_of (find_in_function checked earlier function) ≡ check_function checked
      earlier function
  fault-function earlier function =
      both (located_here part.Declarations (check_declarations checked function)) _ (check_declarations checked function)
      (then (in_arena (check_expression checked (bounds_of earlier function)) function.expressions) (in_body (check_statement checked
      (bounds_of earlier function)) function.body))
      (fault-here part.Declarations (check_declarations checked function))
      (both (find_expressions checked (bounds_of earlier function) function.expressions) (located_here part.Body (in_body
      (check_statement checked (bounds_of earlier function)) function.body))
      (in_arena (check_expression checked (bounds_of earlier function)) function.expressions) (in_body (check_statement checked
      (bounds_of earlier function)) function.body)
      (fault-in part.Expression (check_expression checked (bounds_of earlier function)) (enumerate_from 0 function.expressions))
      (fault-here part.Body (in_body (check_statement checked (bounds_of earlier function)) function.body)))
      ∙ then-assoc (handles_tested (function_in_range checked function)) (in_list (check_argument checked) function.arguments) _
      ∙ tested-guard (function_in_range checked function) _

  fault-variables : fault_of (find_variables checked) ≡ handles_tested (variables_in_range checked)
  fault-variables =
      both (located_here location.SpecialTypes (handles_tested (special_in_range checked checked.special_types))) _ _ _
      (fault-here location.SpecialTypes (handles_tested (special_in_range checked checked.special_types)))
      (both (find_constants checked) _ _ _
      (fault-in location.Constant (λ handle constant. handles_tested (constant_in_range checked constant))
      (enumerate_from 0 checked.constants)
      ∙ tested-entries (λ handle constant. constant_in_range checked constant) (enumerate_from 0 checked.constants))
      (both (find_overrides checked) (find_globals checked) _ _
      (fault-in location.Override (λ handle override. handles_tested (override_in_range checked override))
      (enumerate_from 0 checked.overrides)
      ∙ tested-entries (λ handle override. override_in_range checked override) (enumerate_from 0 checked.overrides))
      (fault-in location.GlobalVariable (λ handle variable. handles_tested (global_in_range checked variable))
      (enumerate_from 0 checked.global_variables)
      ∙ tested-entries (λ handle variable. global_in_range checked variable) (enumerate_from 0 checked.global_variables))
      ∙ tested-then (every (λ handle override. override_in_range checked override) checked.overrides) (every
      (λ handle variable. global_in_range checked variable) checked.global_variables))
      ∙ tested-then (every (λ handle constant. constant_in_range checked constant) checked.constants) _)
      ∙ tested-then (special_in_range checked checked.special_types) _

  abbrev TypesThen : Checked → Checked
  TypesThen rest = then (in_arena (λ location type. check_type checked location type.inner) checked.types) rest

  abbrev filters_checked : Checked
  filters_checked = in_arena (check_filter checked) checked.diagnostic_filters

  abbrev code_checked : Checked
  code_checked =
      then (in_arena (check_expression checked (global_bounds checked)) checked.global_expressions)
      (then (in_arena (check_function checked) checked.functions) (in_list (check_entry_point checked) checked.entry_points))

  fault-rest : fault_of (or_later (find_types checked) (or_later (find_filters checked) (or_later (find_global_expressions checked)
      (or_later (find_functions checked) (find_entry_points checked)))))
      ≡ TypesThen (then filters_checked code_checked)
  fault-rest =
      both (find_types checked) _ _ _ (fault-in location.Type (λ handle type. check_type checked handle type.inner)
      (enumerate_from 0 checked.types))
      (both (find_filters checked) _ _ _ (fault-in location.DiagnosticFilter (check_filter checked)
      (enumerate_from 0 checked.diagnostic_filters))
      (both (find_global_expressions checked) _ _ _
      (fault-in location.GlobalExpression (check_expression checked (global_bounds checked)) (enumerate_from 0 checked.global_expressions))
      (both (find_functions checked) (find_entry_points checked) _ _
      (fault-parts in_function (find_in_function checked) (check_function checked) fault-function (enumerate_from 0 checked.functions))
      (fault-parts in_entry_point (find_in_entry_point checked) (λ k entry. check_entry_point checked entry)
      (λ k entry. fault-function (length checked.functions) entry.function) (enumerate_from 0 checked.entry_points)
      ∙ list-entries (check_entry_point checked) 0 checked.entry_points))))

  fault-module : fault_of (find_in_module checked) ≡ check_module checked
  fault-module =
      both (find_variables checked) _ (handles_tested (variables_in_range checked)) (TypesThen
      (then filters_checked code_checked)) fault-variables fault-rest
      ∙ tested-guard (variables_in_range checked) (TypesThen (then filters_checked code_checked))
      ∙ ap (λ rest. guard (variables_in_range checked) HandleOutOfRange rest) (sym (then-assoc (in_arena
      (λ location type. check_type checked location type.inner) checked.types) filters_checked code_checked))
      ∙ sym (guard-then (variables_in_range checked) (TypesThen filters_checked) code_checked)

  sound : Sound (fault_of (find_in_module checked)) (Lacks checked)
  sound = subst (λ answer. Sound answer (Lacks checked)) (sym fault-module) (module-sound checked)

  decides : (found : Located ModuleLocation) → IsOk (fault_of found) ↔ IsWellFormed checked → IsNone (result_err found)
      ↔ IsWellFormed checked
  decides (Ok nothing) ok = (λ none. ok.0 refl, λ is. refl)
  decides (Err found) ok = (λ none. absurd (cc), λ is. let e = ok.1 is in absurd (cc))

  -- there is no result exactly for well-formed modules
  pub none-decides : IsNone (result_err (find_in_module checked)) ↔ IsWellFormed checked
  none-decides = decides (find_in_module checked) (ok-decides checked (fault_of (find_in_module checked)) sound)

  is_there : (found : Located ModuleLocation) → Sound (fault_of found) (Lacks checked)
      → IfSome (result_err found) (λ found. ModuleHasFault checked found.1)
  is_there (Ok nothing) is_sound = tt
  is_there (Err found) is_sound = is_sound

  -- the violation found occurs in the module
  pub err-is_there : IfSome (result_err (find_in_module checked)) (λ found. ModuleHasFault checked found.1)
  err-is_there = is_there (find_in_module checked) sound

  first : (found : Located ModuleLocation) → FirstOf (LocationLacks checked) (locations checked) found
      → IfSome (result_err found) (λ found. IsFirstModuleFault checked found.0 found.1)
  first (Ok nothing) none = tt
  first (Err found) is_first = is_first

  -- it occurs at the first faulty location
  pub err-is-first : IfSome (result_err (find_in_module checked)) (λ found. IsFirstModuleFault checked found.0 found.1)
  err-is-first = first (find_in_module checked) (module-first checked)

-- For nearly each rule of the definition a small body on which it makes a fault, beside one that differs in what the rule asks for.
use Rattle.std.specs.Prelude.{ℕ, true, false, List, [], ◌∷◌, ◌++◌, Some, None}
use Rattle.std.specs.List.{AllByRecursion}
use Rattle.shader_ir.specs.Body.{Step, Leaf, Nested, If, Loop, End, Call}
use Rattle.shader_ir.specs.declared.binding.Binding.TheVariants as binding
use Rattle.shader_ir.specs.declared.binding.BuiltIn.{BuiltIn}
use Rattle.shader_ir.specs.declared.binding.BuiltIn.TheVariants as built_in
use Rattle.shader_ir.specs.declared.function.Function.{Function}
use Rattle.shader_ir.specs.declared.statement.RayQueryFunction.TheVariants.{Proceed, Terminate}
use Rattle.shader_uniformity.specs.Fault.{AreAllKnown, IsFault}
use Rattle.shader_uniformity_idioms.specs.Shapes.{first, second, shared, variable, local, loaded, setting, sample, sample_at_level, slope}
use Rattle.shader_uniformity_idioms.specs.Shapes.{sum, fixed_sum, result, given, previous, extent, some_part, one_part, some_place}
use Rattle.shader_uniformity_idioms.specs.Shapes.{biased_sample, written_texel, texel, one_image, texel_of_one, from_written, from_read}
use Rattle.shader_uniformity_idioms.specs.Shapes.{from_immediate, from_private, setting_member, from_settings, shared_member, from_shared}
use Rattle.shader_uniformity_idioms.specs.Shapes.{vertices, intersection, matrix, product, block, when, rounds, emit, store}
use Rattle.shader_uniformity_idioms.specs.Shapes.{barrier, memory_barrier, add_to, load_for_all, leave, stop, go_on, discard, call, switch}
use Rattle.shader_uniformity_idioms.specs.Shapes.{switch_of_three, query_step, trace_ray, balloted, gathered, reduced, store_matrix}
use Rattle.shader_uniformity_idioms.specs.Shapes.{bound_to, function_of, point_under, point, derives, returns_early, stores, samples}
use Rattle.shader_uniformity_idioms.specs.Shapes.{reads, fails, copies, other_variable, other_local, shaders, known}

-- two entry points, of which one is at fault and the other one isn't
pub record Pair : Type 0 where
  pub faulty : Function
  pub fine : Function

abbrev pub pair : (faulty fine : List Step) → Pair
pair faulty fine = record { faulty = point faulty; fine = point fine }

-- a barrier under an expression that is computed before it
abbrev pub under : ℕ → List Step
under condition = emit condition ∷ when condition (barrier ∷ []) ∷ []

-- an entry point with an argument of this kind, and a barrier under it
abbrev pub under_built_in : BuiltIn → Function
under_built_in kind =
    function_of (bound_to (Some (binding.BuiltIn kind)) ∷ []) None (block (when first (barrier ∷ []) ∷ []))

-- what differs: arguments, results of expressions by their form and operands, what is loaded
abbrev pub values : List Pair
values =
    -- the argument of an entry point, by what it is bound to
    pair (when first (barrier ∷ []) ∷ []) (when second (barrier ∷ []) ∷ [])
    ∷ record { faulty = under_built_in (built_in.Other 0); fine = under_built_in built_in.WorkGroupSize }
    ∷ record { faulty = under_built_in (built_in.Other 0); fine = under_built_in built_in.NumWorkGroups }
    -- an operand
    ∷ pair (under sum) (emit setting ∷ under fixed_sum)
    -- emitted where flow is apart
    ∷ pair (when first (emit setting ∷ []) ∷ when setting (barrier ∷ []) ∷ [])
    (when second (emit setting ∷ []) ∷ when setting (barrier ∷ []) ∷ [])
    -- memory that others write, and memory that nothing writes, also by a part of it
    ∷ pair (under loaded) (under setting) ∷ pair (under from_written) (under from_read) ∷ pair (under from_private) (under from_immediate)
    ∷ pair (emit shared_member ∷ under from_shared) (emit setting_member ∷ under from_settings)
    -- texels of images that are written, and of ones that aren't
    ∷ pair (under written_texel) (under texel) ∷ pair (emit one_image ∷ under texel_of_one) (under texel)
    -- a sample by its level
    ∷ pair (under sample) (under sample_at_level) ∷ pair (under biased_sample) (under sample_at_level)
    -- a derivative differs though its operand doesn't, an array's length never
    ∷ pair (under slope) (under extent)
    -- what atomics, ray queries and subgroups give back, and what a uniform load does
    ∷ pair (add_to shared second ∷ when previous (barrier ∷ []) ∷ []) (load_for_all shared ∷ when given (barrier ∷ []) ∷ [])
    ∷ pair (query_step (Proceed previous) ∷ when previous (barrier ∷ []) ∷ []) (query_step Terminate ∷ when second (barrier ∷ []) ∷ [])
    ∷ pair (balloted ∷ when previous (barrier ∷ []) ∷ []) (balloted ∷ barrier ∷ [])
    ∷ pair (gathered ∷ when previous (barrier ∷ []) ∷ []) (gathered ∷ barrier ∷ [])
    ∷ pair (reduced ∷ when previous (barrier ∷ []) ∷ []) (reduced ∷ barrier ∷ []) ∷ []

-- what makes the local variable hold what differs, or not: what is done before it is read
abbrev pub held : (faulty fine : List Step) → Pair
held faulty fine = pair (faulty ++ under local) (fine ++ under local)

-- which places hold what differs, and from when on
abbrev pub places : List Pair
places =
    -- by the value that is stored
    held (store variable first ∷ []) (store variable second ∷ [])
    -- by the pointer
    ∷ held (emit some_part ∷ store some_part second ∷ []) (emit one_part ∷ store one_part second ∷ [])
    -- by flow that is apart
    ∷ held (when first (store variable second ∷ []) ∷ []) (when second (store variable second ∷ []) ∷ [])
    -- by an atomic, a ray query and a ray
    ∷ held (add_to variable second ∷ []) (add_to shared second ∷ [])
    ∷ held (query_step Terminate ∷ []) [] ∷ held (query_step (Proceed previous) ∷ []) [] ∷ held (trace_ray ∷ []) []
    -- by a matrix that is stored, and by where
    ∷ held (store_matrix variable first ∷ []) (store_matrix variable second ∷ [])
    ∷ held (emit some_part ∷ store_matrix some_part second ∷ []) (emit one_part ∷ store_matrix one_part second ∷ [])
    -- what a ray query found, and a matrix that is loaded
    ∷ pair (query_step Terminate ∷ under vertices) (under vertices) ∷ pair (query_step Terminate ∷ under intersection) (under intersection)
    ∷ pair (store variable first ∷ under matrix) (store variable second ∷ under matrix)
    -- a store comes before what stands in one Loop with it, and not before what stands before it elsewhere
    ∷ pair (rounds (under local ++ store variable first ∷ []) ∷ []) (under local ++ store variable first ∷ [])
    -- also by one in a Loop in it
    ∷ pair (rounds (under local ++ rounds (store variable first ∷ stop ∷ []) ∷ []) ∷ [])
    (under local ++ rounds (store variable first ∷ stop ∷ []) ∷ []) ∷ []

-- ---- where flow is apart

-- in a block inside a statement where all of that is
abbrev pub enters : (List Step → Step) → Pair
enters inside = pair (when first (inside (barrier ∷ []) ∷ []) ∷ []) (when second (inside (barrier ∷ []) ∷ []) ∷ [])

-- behind a statement by a jump out of a block inside it: where no Loop is, whatever the jump, in a round, and in the next one
abbrev pub past : (List Step → Step) → Step → Pair
past inside jump = pair (inside (when first (jump ∷ []) ∷ []) ∷ barrier ∷ []) (inside (when second (jump ∷ []) ∷ []) ∷ barrier ∷ [])

abbrev pub behind : (List Step → Step) → Step → Pair
behind inside jump = pair (rounds (inside (when first (jump ∷ []) ∷ []) ∷ barrier ∷ []) ∷ [])
    (rounds (inside (when second (jump ∷ []) ∷ []) ∷ barrier ∷ []) ∷ [])

abbrev pub before : (List Step → Step) → Step → Pair
before inside jump = pair (rounds (barrier ∷ inside (when first (jump ∷ []) ∷ []) ∷ []) ∷ [])
    (rounds (barrier ∷ inside (when second (jump ∷ []) ∷ []) ∷ []) ∷ [])

-- the statements with a block inside
abbrev pub nested : List Step → Step
nested steps = Nested (block steps)

abbrev pub otherwise : List Step → Step
otherwise steps = If second End (block steps)

abbrev pub in_case : List Step → Step
in_case steps = switch second steps false []

abbrev pub at_the_end : List Step → Step
at_the_end steps = Loop End (block steps) None

-- by each jump that leaves them
abbrev pub by_all : (List Step → Step) → List Pair
by_all inside =
    past inside stop ∷ past inside go_on ∷ past inside leave ∷ behind inside stop ∷ behind inside go_on ∷ behind inside leave
    ∷ before inside stop ∷ before inside go_on ∷ before inside leave ∷ []

abbrev pub by_return : (List Step → Step) → List Pair
by_return inside = past inside leave ∷ behind inside leave ∷ before inside leave ∷ []

abbrev pub jumps : List Pair
jumps =
    by_all nested ++ by_all (when second) ++ by_all otherwise ++ by_return in_case ++ by_return rounds ++ by_return at_the_end
    ++ past in_case go_on ∷ behind in_case go_on ∷ before in_case go_on ∷ []

-- a case that another one falls into
abbrev pub fallen : Step → Pair
fallen jump = pair (switch second (when first (jump ∷ []) ∷ []) true (barrier ∷ []) ∷ [])
    (switch second (when second (jump ∷ []) ∷ []) true (barrier ∷ []) ∷ [])

-- the continuing block of a Loop whose body a jump leaves, and the body where the continuing block is left
abbrev pub continued : Step → Pair
continued jump = pair (Loop (block (when first (jump ∷ []) ∷ [])) (block (barrier ∷ [])) None ∷ [])
    (Loop (block (when second (jump ∷ []) ∷ [])) (block (barrier ∷ [])) None ∷ [])

abbrev pub returned_to : Step → Pair
returned_to jump = pair (Loop (block (barrier ∷ [])) (block (when first (jump ∷ []) ∷ [])) None ∷ [])
    (Loop (block (barrier ∷ [])) (block (when second (jump ∷ []) ∷ [])) None ∷ [])

-- behind a switch with a break, of which another case leaves for good by a return inside a statement
abbrev pub left_for_good : (List Step → Step) → Pair
left_for_good inside = pair (switch second (when first (stop ∷ []) ∷ []) false (inside (leave ∷ []) ∷ []) ∷ barrier ∷ [])
    (switch second (when first (stop ∷ []) ∷ []) false (inside (stop ∷ []) ∷ []) ∷ barrier ∷ [])

abbrev pub flows : List Pair
flows =
    -- in a branch, also behind a statement of it, and not behind the branch
    pair (when first (barrier ∷ []) ∷ []) (when first (store variable second ∷ []) ∷ barrier ∷ [])
    ∷ pair (when first (store variable second ∷ barrier ∷ []) ∷ []) (when first (store variable second ∷ []) ∷ barrier ∷ [])
    ∷ pair (If first End (block (barrier ∷ [])) ∷ []) (If second End (block (barrier ∷ [])) ∷ [])
    ∷ enters nested ∷ enters (when second) ∷ enters otherwise ∷ enters in_case ∷ enters rounds ∷ enters at_the_end
    -- behind a return, and not behind a discard
    ∷ pair (when first (leave ∷ []) ∷ barrier ∷ []) (when first (discard ∷ []) ∷ barrier ∷ [])
    -- behind a break in its Loop, and not behind the Loop
    ∷ pair (rounds (when first (stop ∷ []) ∷ barrier ∷ []) ∷ []) (rounds (when first (stop ∷ []) ∷ []) ∷ barrier ∷ [])
    ∷ continued stop ∷ continued go_on ∷ continued leave ∷ returned_to stop ∷ returned_to go_on ∷ returned_to leave
    -- by the condition at the end of a round
    ∷ pair (Loop (block (barrier ∷ [])) End (Some first) ∷ []) (Loop (block (barrier ∷ [])) End (Some second) ∷ [])
    -- a return in a Loop parts what is behind the Loop
    ∷ pair (rounds (when first (leave ∷ []) ∷ stop ∷ []) ∷ barrier ∷ []) (rounds (when first (stop ∷ []) ∷ stop ∷ []) ∷ barrier ∷ [])
    -- in a case, by the selector, and by a jump in one that falls into it
    ∷ pair (switch first (barrier ∷ []) false [] ∷ []) (switch second (barrier ∷ []) false [] ∷ [])
    ∷ pair (switch first [] false (barrier ∷ []) ∷ []) (switch second [] false (barrier ∷ []) ∷ [])
    ∷ fallen stop ∷ fallen go_on ∷ fallen leave
    ∷ pair (switch second (when first (stop ∷ []) ∷ []) true (barrier ∷ []) ∷ [])
    (switch second (when first (stop ∷ []) ∷ []) false (barrier ∷ []) ∷ [])
    -- also over a case between
    ∷ pair (switch_of_three (when first (stop ∷ []) ∷ []) (barrier ∷ []) ∷ [])
    (switch_of_three (when second (stop ∷ []) ∷ []) (barrier ∷ []) ∷ [])
    -- behind a break in its case, and not behind the Switch
    ∷ pair (switch second (when first (stop ∷ []) ∷ barrier ∷ []) false [] ∷ [])
    (switch second (when first (stop ∷ []) ∷ []) false [] ∷ barrier ∷ [])
    -- but there too where another case leaves for good
    ∷ pair (switch second (when first (stop ∷ []) ∷ []) false (leave ∷ []) ∷ barrier ∷ [])
    (switch second (when first (stop ∷ []) ∷ []) false (stop ∷ []) ∷ barrier ∷ [])
    ∷ pair (rounds (switch second (when first (stop ∷ []) ∷ []) false (go_on ∷ []) ∷ barrier ∷ []) ∷ [])
    (rounds (switch second (when first (stop ∷ []) ∷ []) false (stop ∷ []) ∷ barrier ∷ []) ∷ [])
    ∷ left_for_good nested ∷ left_for_good (when second) ∷ left_for_good otherwise ∷ left_for_good in_case ∷ left_for_good rounds
    ∷ left_for_good at_the_end ∷ []

-- ---- what a call makes of what is known of the function

abbrev pub with_result : (faulty fine : List Step) → Pair
with_result faulty fine = pair (faulty ++ when result (barrier ∷ []) ∷ []) (fine ++ when result (barrier ∷ []) ∷ [])

-- a call that passes no argument
abbrev pub bare_call : ℕ → Step
bare_call function = Leaf (Call function [] (Some result))

abbrev pub calls : List Pair
calls =
    -- a need of the flow, of an argument, and of every call
    pair (when first (call derives second second ∷ []) ∷ []) (when second (call derives second second ∷ []) ∷ [])
    ∷ pair (call samples second first ∷ []) (call samples first second ∷ [])
    ∷ pair (call fails second second ∷ []) (call samples second second ∷ [])
    -- the result, by an argument, by the flow, by what an argument points to, and of every call
    ∷ with_result (call returns_early first second ∷ []) (call returns_early second first ∷ [])
    ∷ with_result (when first (call returns_early second second ∷ []) ∷ []) (when second (call returns_early second second ∷ []) ∷ [])
    ∷ with_result (when first (call stores variable second ∷ []) ∷ []) (when second (call stores variable second ∷ []) ∷ [])
    ∷ with_result (store variable first ∷ call reads variable second ∷ []) (store variable second ∷ call reads variable second ∷ [])
    ∷ with_result (call derives second second ∷ []) (call returns_early second second ∷ [])
    -- what an argument points to, by what is stored there, by the flow, and by what another one points to
    ∷ held (call stores variable first ∷ []) (call stores variable second ∷ [])
    ∷ held (when first (call stores variable second ∷ []) ∷ []) (when second (call stores variable second ∷ []) ∷ [])
    ∷ pair (store variable first ∷ call copies variable other_variable ∷ under other_local)
    (store variable second ∷ call copies variable other_variable ∷ under other_local)
    -- an argument that isn't passed, and a function that isn't known
    ∷ with_result (bare_call returns_early ∷ []) (bare_call stores ∷ [])
    ∷ pair (call 7 second second ∷ []) (call stores variable second ∷ []) ∷ []

-- what needs all, and which filter lifts that
abbrev pub filtered : (faulty fine : ℕ) → Pair
filtered faulty fine = record {
  faulty = point_under (Some faulty) (when first (emit sample ∷ []) ∷ []);
  fine = point_under (Some fine) (when first (emit sample ∷ []) ∷ []);
}

-- what needs all invocations under a filter that lifts what a derivative needs, where flow is apart
abbrev pub lifted : List Step → Pair
lifted steps =
    record { faulty = point_under (Some 0) (when first steps ∷ []); fine = point_under (Some 0) (when first (emit slope ∷ []) ∷ []) }

abbrev pub needs : List Pair
needs =
    pair (when first (barrier ∷ []) ∷ []) (when first (add_to shared second ∷ []) ∷ [])
    ∷ pair (when first (memory_barrier ∷ []) ∷ []) (when second (memory_barrier ∷ []) ∷ [])
    ∷ pair (when first (load_for_all shared ∷ []) ∷ []) (when first (emit loaded ∷ []) ∷ [])
    ∷ pair (emit some_place ∷ load_for_all some_place ∷ []) (load_for_all shared ∷ [])
    ∷ pair (when first (emit sample ∷ []) ∷ []) (when first (emit sample_at_level ∷ []) ∷ [])
    ∷ pair (when first (emit biased_sample ∷ []) ∷ []) (when first (emit sample_at_level ∷ []) ∷ [])
    ∷ pair (when first (emit slope ∷ []) ∷ []) (when second (emit slope ∷ []) ∷ [])
    ∷ pair (when first (emit matrix ∷ []) ∷ []) (when second (emit matrix ∷ []) ∷ [])
    ∷ pair (when first (emit product ∷ []) ∷ []) (when second (emit product ∷ []) ∷ [])
    ∷ pair (when first (store_matrix shared second ∷ []) ∷ []) (when second (store_matrix shared second ∷ []) ∷ [])
    -- a filter lifts the need of a sample, also around one of another rule, and not where one inside it keeps the need
    ∷ record { faulty = point (when first (emit sample ∷ []) ∷ []); fine = point_under (Some 0) (when first (emit sample ∷ []) ∷ []) }
    ∷ filtered 2 1 ∷ filtered 3 0
    -- and never that of a barrier or of a cooperative matrix
    ∷ lifted (barrier ∷ []) ∷ lifted (emit matrix ∷ []) ∷ lifted (emit product ∷ []) ∷ []

-- the law of examples, of some pairs
abbrev pub IsTold : Pair → Type 0
IsTold p = IsFault shaders known p.faulty × (IsFault shaders known p.fine → ⊥)

pub record AreTold (pairs : List Pair) : Type 0 where
  pub functions : AreAllKnown shaders known
  pub told : AllByRecursion IsTold pairs

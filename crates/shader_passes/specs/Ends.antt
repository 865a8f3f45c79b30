-- The recursion over the blocks that determines what disrupts the flow, as the pass computes it.
use Rattle.std.specs.Prelude.{ℕ, Bool, true, false, ◌||◌, not, nat_eq, List, [], ◌∷◌, Option, Some, None, is_some, slice_get, unwrap_or}
use Rattle.std.specs.Option.{option_map, option_or}
use Rattle.shader_arena.specs.Positions.{positions_between}
use Rattle.shader_ir.specs.Body.{Body, End, Then, Step, Leaf, Nested, If, Switch, Loop}
use Rattle.shader_ir.specs.Body.{Cases, NoCase, Case, Simple, Emit, Return, Kill, Call}
use Rattle.shader_info.specs.declared.error.UniformityDisruptor.{UniformityDisruptor}
use Rattle.shader_info.specs.declared.error.UniformityDisruptor.TheVariants as cause
use Rattle.shader_info.specs.declared.info.FunctionInfo.{FunctionInfo}
use Rattle.shader_passes.specs.Facts.{Fact}
use Rattle.shader_passes.specs.declared.flow.Exits.{Exits}
use Rattle.shader_passes.specs.declared.flow.FlowViolation.{FlowViolation}
use Rattle.shader_passes.specs.Facts.{needs_at}

-- true if a function may end an invocation
abbrev pub is_killing : List FunctionInfo → ℕ → Bool
is_killing infos function = unwrap_or (option_map (λ info. info.may_kill) (slice_get infos function)) false

-- true if an expression needs undisrupted flow
abbrev pub requires_uniform_flow : List Fact → ℕ → Bool
requires_uniform_flow facts expression = not (nat_eq (needs_at facts expression) 0)

abbrev pub no_exit : Exits
no_exit = record { returns = false; kills = false }

abbrev pub either : Exits → Exits → Exits
either a b = record { returns = a.returns || b.returns; kills = a.kills || b.kills }

-- the disruptor of the flow after exits
abbrev pub exit_of : (returns kills : Bool) → Option UniformityDisruptor
exit_of true kills = Some cause.Return
exit_of false true = Some cause.Discard
exit_of false false = None

abbrev pub exit_cause : Exits → Option UniformityDisruptor
exit_cause exits = exit_of exits.returns exits.kills

abbrev pub disruptor_after : Option UniformityDisruptor → Exits → Option UniformityDisruptor
disruptor_after o exits = option_or o (exit_cause exits)

-- the disruptor in the next case of a switch
abbrev pub case_disruptor : Option UniformityDisruptor → Option UniformityDisruptor → Bool → Exits → Option UniformityDisruptor
case_disruptor branch here true exits = disruptor_after here exits
case_disruptor branch here false exits = branch

-- the disruptor in a branch on an expression
abbrev pub on_branch : (ℕ → Option ℕ) → Option UniformityDisruptor → ℕ → Option UniformityDisruptor
on_branch origin o e = option_or o (option_map (λ h. cause.Expression h) (origin e))

-- the expression if the flag is set, otherwise the rest
abbrev pub requiring_or : Bool → ℕ → Option ℕ → Option ℕ
requiring_or true e rest = Some e
requiring_or false e rest = rest

-- the first of the expressions that needs undisrupted flow
abbrev pub first_requiring : List Fact → List ℕ → Option ℕ
first_requiring facts [] = None
first_requiring facts (e ∷ es) = requiring_or (requires_uniform_flow facts e) e (first_requiring facts es)

-- the violation by an expression, with its requirements, if there is a disruptor
abbrev pub flow_violation : List Fact → Option UniformityDisruptor → Option ℕ → Option FlowViolation
flow_violation facts (Some d) (Some e) = Some (record { requirements = record { 0 = needs_at facts e }; expression = e; disruptor = d })
flow_violation facts _ _ = None

-- the exits of a statement that has no block; `is_killing` decides which functions kill
abbrev pub leaf_ends : (ℕ → Bool) → Option UniformityDisruptor → Simple → Exits
leaf_ends is_killing o (Return value) = record { returns = is_some o; kills = false }
leaf_ends is_killing o Kill = record { returns = false; kills = is_some o }
leaf_ends is_killing o (Call c arguments result) = record { returns = false; kills = is_killing c }
leaf_ends is_killing o _ = no_exit

-- the exits of a statement by itself, without the blocks inside
abbrev pub own_ends : (ℕ → Bool) → Option UniformityDisruptor → Step → Exits
own_ends is_killing o (Leaf simple) = leaf_ends is_killing o simple
own_ends is_killing o _ = no_exit

-- the violation by an Emit
abbrev pub leaf_fault : List Fact → Option UniformityDisruptor → Simple → Option FlowViolation
leaf_fault facts o (Emit start finish) = flow_violation facts o (first_requiring facts (positions_between start finish))
leaf_fault facts o _ = None

abbrev pub own_fault : List Fact → Option UniformityDisruptor → Step → Option FlowViolation
own_fault facts o (Leaf simple) = leaf_fault facts o simple
own_fault facts o _ = None

-- `origin` gives a source that makes an expression non-uniform, `is_killing` decides which functions kill
module _ (origin : ℕ → Option ℕ) (is_killing : ℕ → Bool) where
  abbrev mutual
    pub step_ends : Option UniformityDisruptor → Step → Exits
    step_ends o (Leaf simple) = leaf_ends is_killing o simple
    step_ends o (Nested x) = block_ends o x
    step_ends o (If c x y) = either (block_ends (on_branch origin o c) x) (block_ends (on_branch origin o c) y)
    step_ends o (Switch e cs) = cases_end (on_branch origin o e) (on_branch origin o e) cs
    step_ends o (Loop x y k) = either (block_ends o x) (block_ends (disruptor_after o (block_ends o x)) y)

    pub block_ends : Option UniformityDisruptor → Body → Exits
    block_ends o End = no_exit
    block_ends o (Then s b) = either (step_ends o s) (block_ends (disruptor_after o (step_ends o s)) b)

    -- the second disruptor is that of the first case
    pub cases_end : Option UniformityDisruptor → Option UniformityDisruptor → Cases → Exits
    cases_end o here NoCase = no_exit
    cases_end o here (Case v x fall cs) = either (block_ends here x) (cases_end o (case_disruptor o here fall (block_ends here x)) cs)

-- the first violation: an expression that needs undisrupted flow and is emitted in disrupted flow
module _ (origin : ℕ → Option ℕ) (is_killing : ℕ → Bool) (facts : List Fact) where
  abbrev mutual
    pub step_fault : Option UniformityDisruptor → Step → Option FlowViolation
    step_fault o (Leaf simple) = leaf_fault facts o simple
    step_fault o (Nested x) = block_fault o x
    step_fault o (If c x y) = option_or (block_fault (on_branch origin o c) x) (block_fault (on_branch origin o c) y)
    step_fault o (Switch e cs) = cases_fault (on_branch origin o e) (on_branch origin o e) cs
    step_fault o (Loop x y k) = option_or (block_fault o x) (block_fault (disruptor_after o (block_ends origin is_killing o x)) y)

    pub block_fault : Option UniformityDisruptor → Body → Option FlowViolation
    block_fault o End = None
    block_fault o (Then s b) = option_or (step_fault o s) (block_fault (disruptor_after o (step_ends origin is_killing o s)) b)

    pub cases_fault : Option UniformityDisruptor → Option UniformityDisruptor → Cases → Option FlowViolation
    cases_fault o here NoCase = None
    cases_fault o here (Case v x fall cs) =
        option_or (block_fault here x) (cases_fault o (case_disruptor o here fall (block_ends origin is_killing here x)) cs)

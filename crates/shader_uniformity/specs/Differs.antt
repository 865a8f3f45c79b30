-- Which expressions differ, and which places hold what differs.
use Rattle.std.specs.Prelude.{ℕ, ◌+◌, Bool, true, false, List, [], ◌∷◌, ◌++◌, Option, Some, None, if◌then◌else◌, map, slice_get}
use Rattle.shader_ir.specs.declared.binding.Binding.TheVariants as binding
use Rattle.shader_ir.specs.declared.binding.BuiltIn.TheVariants as built_in
use Rattle.shader_ir.specs.declared.expression.Expression.TheVariants as form
use Rattle.shader_uniformity.specs.Words.{Expression, Binding, BuiltIn, FunctionArgument, Label, SampleLevel, expression_operands}
use Rattle.shader_uniformity.specs.Marks.{leads}
use Rattle.shader_uniformity.specs.Needs.{is_implicit, emitted_need, need}
use Rattle.shader_uniformity.specs.Places.{place_at}
use Rattle.shader_uniformity.specs.Positions.{reads_at, writes_at}
use Rattle.shader_uniformity.specs.declared.facts.Fact.{Fact}
use Rattle.shader_uniformity.specs.declared.facts.Fact.TheVariants.{Always, Argument, Behind, Apart, Differs, Holds}
use Rattle.shader_uniformity.specs.declared.facts.Place.{Place}
use Rattle.shader_uniformity.specs.declared.facts.Place.TheVariants.{Pointee, Shared}
use Rattle.shader_uniformity.specs.declared.facts.Rule.{Rule}

-- the invocations of a work group are given one value
abbrev pub built_in_is_uniform : BuiltIn → Bool
built_in_is_uniform built_in.WorkGroupId = true
built_in_is_uniform built_in.WorkGroupSize = true
built_in_is_uniform built_in.NumWorkGroups = true
built_in_is_uniform (built_in.Other number) = false

abbrev pub binding_is_uniform : Option Binding → Bool
binding_is_uniform (Some (binding.BuiltIn built_in)) = built_in_is_uniform built_in
binding_is_uniform _ = false

-- an argument of an entry point
abbrev pub argument_is_uniform : Option FunctionArgument → Bool
argument_is_uniform (Some argument) = binding_is_uniform argument.binding
argument_is_uniform None = false

-- what makes an argument differ: of a function the argument that is passed, of an entry point what it is bound to
abbrev pub argument_rules : Bool → List FunctionArgument → (expression index : ℕ) → List Rule
argument_rules false arguments h i = leads (Argument i) (Differs h) ∷ []
argument_rules true arguments h i = if argument_is_uniform (slice_get arguments i) then [] else leads Always (Differs h) ∷ []

-- of an expression with its number
abbrev pub source_rules : Bool → List FunctionArgument → ℕ × Expression → List Rule
source_rules entry arguments (h, form.FunctionArgument index) = argument_rules entry arguments h index
source_rules entry arguments (h, _) = []

-- what the arguments from i on point to, when a call begins
abbrev pub pointees_from : ℕ → List FunctionArgument → List Rule
pointees_from i [] = []
pointees_from i (argument ∷ arguments) = leads (Behind i) (Holds (Pointee i) 0) ∷ pointees_from (i + 1) arguments

abbrev pub operand_rule : ℕ → ℕ × Label → Rule
operand_rule h operand = leads (Differs operand.0) (Differs h)

-- a sample whose level is computed from neighbouring invocations
abbrev pub sample_rules : Bool → (position expression : ℕ) → SampleLevel → List Rule
sample_rules severe n h level = if is_implicit level then leads Always (Differs h) ∷ emitted_need severe n else []

-- the statement at n, with `around`, reads and writes places
module _ (places : List Place) (n : ℕ) (around : Option ℕ) where
  abbrev pub load_rule : (expression pointer : ℕ) → Rule
  load_rule h pointer = leads (Holds (place_at places pointer) (reads_at n around)) (Differs h)

  -- what makes the place of a pointer hold what differs
  abbrev pub store_rule : ℕ → Fact → Rule
  store_rule pointer cause = leads cause (Holds (place_at places pointer) (writes_at n around))

  abbrev pub store_rules : (pointer value : ℕ) → List Rule
  store_rules pointer value =
      store_rule pointer (Differs value) ∷ store_rule pointer (Differs pointer) ∷ store_rule pointer (Apart n) ∷ []

  -- `severe`: the filters leave what needs uniform flow an error
  module _ (severe : Bool) where
    -- what the form of an expression adds to its operands
    abbrev pub form_rules : ℕ → Expression → List Rule
    form_rules h (form.Load pointer) = load_rule h pointer ∷ []
    form_rules h (form.ImageSample image sampler gather clamp_to_edge coordinate array_index offset level depth_ref) =
        sample_rules severe n h level
    form_rules h (form.ImageLoad image coordinate array_index sample level) = load_rule h image ∷ []
    form_rules h (form.Derivative axis ctrl expr) = leads Always (Differs h) ∷ emitted_need severe n
    form_rules h (form.RayQueryVertexPositions query committed) = load_rule h query ∷ []
    form_rules h (form.RayQueryGetIntersection query committed) = load_rule h query ∷ []
    form_rules h (form.CooperativeLoad columns rows role tile) = load_rule h tile.pointer ∷ need n
    form_rules h (form.CooperativeMultiplyAdd a b c) = need n
    form_rules h _ = []

    -- an emitted expression differs where flow is apart, where an operand does, and by its form
    abbrev pub emitted_rules : ℕ → Option Expression → List Rule
    emitted_rules h (Some x) = leads (Apart n) (Differs h) ∷ (map (operand_rule h) (expression_operands x) ++ form_rules h x)
    emitted_rules h None = []

    abbrev pub emit_rules : List Expression → ℕ → List Rule
    emit_rules expressions h = emitted_rules h (slice_get expressions h)

-- memory that others write differs from the start
abbrev pub shared_rule : Rule
shared_rule = leads Always (Holds Shared 0)

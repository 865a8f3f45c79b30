-- The results of the analysis for a function, as contracts see them.
use Rattle.std.specs.Prelude.{◌≡◌, ℕ, ◌<◌, List, Bool, Option, Some, None, slice_get, slice_index, length}
use Rattle.std.specs.List.{Contains}
use Rattle.std.specs.Int.{IsBitSet}
use Rattle.shader_ir.specs.declared.expression.Expression.TheVariants as form
use Rattle.shader_ir.specs.declared.proc.type_resolution.TypeResolution.{TypeResolution}
use Rattle.shader_analysis_spec.specs.Program.{Function, Module, Leaf, Call, statements, IsExpressionAt}

-- the resource that an image or a sampler is: a global or an argument
pub data Resource : Type 0 where
  InGlobal : (global : ℕ) → Resource
  InArgument : (argument : ℕ) → Resource

pub record Info : Type 0 where
  -- the type and the reference count of each expression
  pub types : List TypeResolution
  pub counts : List ℕ
  -- a source that makes each expression non-uniform, and one that makes the function's result so
  pub non_uniform : List (Option ℕ)
  pub non_uniform_result : Option ℕ
  -- the bits of the needs of each expression, and those of the function
  pub expression_needs : List ℕ
  pub needs : ℕ
  -- true if the function may end an invocation while others go on
  pub may_kill : Bool
  -- the bits of each global's uses
  pub global_uses : List ℕ
  -- the pairs of an image and a sampler that it is used with
  pub pairs : List (Resource × Resource)

-- the tables of the info have an entry for each expression or global, and no bits other than those of uses and needs
pub record HasTables (m : Module) (f : Function) (info : Info) : Type 0 where
  pub counts : length info.counts ≡ length f.expressions
  pub non_uniform : length info.non_uniform ≡ length f.expressions
  pub expression_needs : length info.expression_needs ≡ length f.expressions
  pub global_uses : length info.global_uses ≡ length m.global_variables
  pub few_uses : (g : ℕ) → slice_index info.global_uses g < 16
  pub few_expression_needs : (e : ℕ) → slice_index info.expression_needs e < 16
  pub few_needs : info.needs < 16

-- a use of a global
pub data Use : Type 0 where
  Reads Writes Queries Atomics : Use

-- the bit of a use
abbrev pub bit_of : Use → ℕ
bit_of Reads = 0
bit_of Writes = 1
bit_of Queries = 2
bit_of Atomics = 3

-- the info records the use u of g
abbrev pub RecordsUse : Info → ℕ → Use → Type 0
RecordsUse info g u = IsBitSet (slice_index info.global_uses g) (bit_of u)

-- o is a witness of P, a number for which P holds, or None if there is none
abbrev pub IsWitness : (ℕ → Type 0) → Option ℕ → Type 0
IsWitness P (Some h) = P h
IsWitness P None = (h : ℕ) → P h → ⊥

-- f names the function at position c as a callee, by a Call statement or a CallResult
pub data HasCallee (f : Function) (c : ℕ) : Type 0 where
  by_call : {arguments : List ℕ} {result : Option ℕ} → Contains (statements f.body) (Leaf (Call c arguments result)) → HasCallee f c
  by_result : (e : ℕ) → IsExpressionAt f e (form.CallResult c) → HasCallee f c

-- each function that f names exists, so does its info, and P holds of the two
abbrev pub EachNamed : (Function → Info → Type 0) → Module → List Info → Function → Type 0
EachNamed P m infos f = (c : ℕ) → HasCallee f c →
    (r : Function) × (i : Info) × (slice_get m.functions c ≡ Some r) × (slice_get infos c ≡ Some i) × P r i

-- f names only functions before position i
abbrev pub NamesEarlier : ℕ → Function → Type 0
NamesEarlier i f = (c : ℕ) → HasCallee f c → c < i

abbrev pub IsOrdered : Module → Type 0
IsOrdered m = (i : ℕ) (f : Function) → slice_get m.functions i ≡ Some f → NamesEarlier i f

-- the infos are those of the functions, position by position
abbrev pub Pairwise : (Function → Info → Type 0) → Module → List Info → Type 0
Pairwise P m infos = (i : ℕ) (f : Function) (info : Info) →
    slice_get m.functions i ≡ Some f → slice_get infos i ≡ Some info → P f info

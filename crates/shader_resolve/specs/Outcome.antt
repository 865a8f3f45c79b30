-- Outcomes of typing rules, and when a result meets one.
use Rattle.std.specs.Prelude.{ℕ, Bool, ◌≡◌, ◌⊎◌, Option, Some, None, Result, Ok, Err, List, [], string_bytes}
use Rattle.shader_ir.specs.declared.types.«Type».{«Type»}
use Rattle.shader_ir.specs.declared.types.TypeInner.{TypeInner}
use Rattle.shader_ir.specs.declared.proc.type_resolution.TypeResolution.{TypeResolution}
use Rattle.shader_ir.specs.Key.{inner_of, HoldsNoMembers}
use Rattle.shader_resolve.specs.declared.error.ResolveError.{ResolveError}
use Rattle.shader_resolve.specs.declared.error.ResolveError.TheVariants as error

-- an error without its text; no error corresponds to NoSuchHandle
pub data Refusal : Type 0 where
  OutOfBoundsIndex : ℕ → ℕ → Refusal
  InvalidAccess : ℕ → Bool → Refusal
  InvalidSubAccess : ℕ → Bool → Refusal
  InvalidScalar : ℕ → Refusal
  InvalidVector : ℕ → Refusal
  InvalidPointer : ℕ → Refusal
  InvalidImage : ℕ → Refusal
  FunctionNotDefined : Refusal
  FunctionReturnsVoid : Refusal
  IncompatibleOperands : Refusal
  FunctionArgumentNotFound : ℕ → Refusal
  MissingSpecialType : Refusal
  BuiltinArgumentsInvalid : Refusal
  OutOfMemory : Refusal
  NoSuchHandle : Refusal

abbrev pub refusal_of : ResolveError → Refusal
refusal_of (error.OutOfBoundsIndex expr index) = OutOfBoundsIndex expr index
refusal_of (error.InvalidAccess expr indexed) = InvalidAccess expr indexed
refusal_of (error.InvalidSubAccess ty indexed) = InvalidSubAccess ty indexed
refusal_of (error.InvalidScalar expr) = InvalidScalar expr
refusal_of (error.InvalidVector expr) = InvalidVector expr
refusal_of (error.InvalidPointer expr) = InvalidPointer expr
refusal_of (error.InvalidImage expr) = InvalidImage expr
refusal_of (error.FunctionNotDefined name) = FunctionNotDefined
refusal_of error.FunctionReturnsVoid = FunctionReturnsVoid
refusal_of (error.IncompatibleOperands words) = IncompatibleOperands
refusal_of (error.FunctionArgumentNotFound index) = FunctionArgumentNotFound index
refusal_of error.MissingSpecialType = MissingSpecialType
refusal_of (error.BuiltinArgumentsInvalid words) = BuiltinArgumentsInvalid
refusal_of error.OutOfMemory = OutOfMemory

-- the text of an error that has one
abbrev pub words_of : ResolveError → List ℕ
words_of (error.FunctionNotDefined name) = string_bytes name
words_of (error.IncompatibleOperands words) = string_bytes words
words_of (error.BuiltinArgumentsInvalid words) = string_bytes words
words_of _ = []

-- the error has a text
abbrev pub HasWords : ResolveError → Type 0
HasWords (error.FunctionNotDefined name) = Unit {0}
HasWords (error.IncompatibleOperands words) = Unit {0}
HasWords (error.BuiltinArgumentsInvalid words) = Unit {0}
HasWords _ = ⊥

-- a type or an error
pub data Outcome : Type 0 where
  Given : TypeResolution → Outcome
  Refused : Refusal → Outcome

-- the outcome of a shape, if any
abbrev pub at_inner : Option TypeInner → (TypeInner → Outcome) → Outcome
at_inner (Some inner) answer = answer inner
at_inner None answer = Refused NoSuchHandle

-- the outcome of the shape of a resolution's type
abbrev pub at_shape : List «Type» → TypeResolution → (TypeInner → Outcome) → Outcome
at_shape types resolution answer = at_inner (inner_of types resolution) answer

-- the purpose of allocations: none, the text of an error, or the rules of a built-in function and that text
pub data Memory : Type 0 where
  ForNothing : Memory
  ForWords : Memory
  ForRules : Memory

-- out of memory, if the rule allocates
abbrev pub IsOutOfMemory : Memory → ResolveError → Type 0
IsOutOfMemory ForNothing failure = ⊥
IsOutOfMemory ForWords failure = failure ≡ error.OutOfMemory
IsOutOfMemory ForRules failure = failure ≡ error.OutOfMemory

-- out of memory before there was a type, if the rule allocates for one
abbrev pub IsOutOfMemoryForType : Memory → ResolveError → Type 0
IsOutOfMemoryForType ForNothing failure = ⊥
IsOutOfMemoryForType ForWords failure = ⊥
IsOutOfMemoryForType ForRules failure = failure ≡ error.OutOfMemory

-- out of memory for a copy of the type, which has a list of members
abbrev pub IsOutOfMemoryForCopy : TypeResolution → ResolveError → Type 0
IsOutOfMemoryForCopy resolution failure = (HoldsNoMembers resolution → ⊥) × (failure ≡ error.OutOfMemory)

module _ (memory : Memory) where
  -- the error is the rule's, with some text, or out of memory
  abbrev pub IsRefusal : Refusal → ResolveError → Type 0
  IsRefusal refusal failure = (refusal_of failure ≡ refusal) ⊎ IsOutOfMemory memory failure

  -- the result is the rule's outcome or out of memory
  abbrev pub Meets : Result TypeResolution ResolveError → Outcome → Type 0
  Meets (Ok resolution) (Given given) = resolution ≡ given
  Meets (Ok resolution) (Refused refusal) = ⊥
  Meets (Err failure) (Given given) = IsOutOfMemoryForType memory failure ⊎ IsOutOfMemoryForCopy given failure
  Meets (Err failure) (Refused refusal) = IsRefusal refusal failure

  -- the same of an outcome whose type has no list of members, so that a copy of it takes no memory
  abbrev pub MeetsWithoutCopy : Result TypeResolution ResolveError → Outcome → Type 0
  MeetsWithoutCopy (Ok resolution) (Given given) = resolution ≡ given
  MeetsWithoutCopy (Ok resolution) (Refused refusal) = ⊥
  MeetsWithoutCopy (Err failure) (Given given) = IsOutOfMemoryForType memory failure
  MeetsWithoutCopy (Err failure) (Refused refusal) = IsRefusal refusal failure

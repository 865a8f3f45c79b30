-- Numbers that are known before a pipeline is created.
use Rattle.std.specs.Prelude.{ℕ, zero, suc, ◌^◌, ◌<◌, nat_lt, ℤ, pos, negsuc, List, length}
use Rattle.std.specs.Prelude.{slice_get, Option, Some, None, Result, Ok, Err, if◌then◌else◌}
use Rattle.shader_ir.specs.declared.proc.known_numbers.KnownIndex.{KnownIndex}
use Rattle.shader_ir.specs.declared.proc.known_numbers.KnownIndex.TheVariants.{Known, OutOfRange, NotInteger}
use Rattle.shader_ir.specs.declared.proc.known_numbers.ResolveArraySizeError.{ResolveArraySizeError}
use Rattle.shader_ir.specs.declared.proc.known_numbers.ResolveArraySizeError.TheVariants.{ExpectedPositiveArrayLength, NonConstArrayLength}
use Rattle.shader_ir.specs.declared.literal.Literal as l
use Rattle.shader_ir.specs.declared.literal.Literal.TheVariants.{U16, U32, U64, I16, I32, I64, AbstractInt}
use Rattle.shader_ir.specs.declared.module.Constant as c
use Rattle.shader_ir.specs.declared.module.GlobalCtx.{GlobalCtx}
use Rattle.shader_ir.specs.declared.module.Override as o
use Rattle.shader_ir.specs.declared.expression.Expression.{Expression}
use Rattle.shader_ir.specs.declared.expression.Expression.TheVariants.{Literal, Constant, Override}

abbrev pub index_of_nat : ℕ → KnownIndex
index_of_nat n = if nat_lt n (2 ^ 32) then Known n else OutOfRange

abbrev pub index_of_int : ℤ → KnownIndex
index_of_int (pos n) = index_of_nat n
index_of_int (negsuc n) = OutOfRange

-- the index given by an integer literal of any width, if it fits
abbrev pub literal_index : l.Literal → KnownIndex
literal_index (U16 n) = index_of_nat n
literal_index (U32 n) = index_of_nat n
literal_index (U64 n) = index_of_nat n
literal_index (I16 z) = index_of_int z
literal_index (I32 z) = index_of_int z
literal_index (I64 z) = index_of_int z
literal_index (AbstractInt z) = index_of_int z
literal_index _ = NotInteger

abbrev pub literal_in : Option Expression → KnownIndex
literal_in (Some (Literal literal)) = literal_index literal
literal_in _ = NotInteger

-- the index given by the literal at a position
abbrev pub initial_index : List Expression → ℕ → KnownIndex
initial_index expressions handle = literal_in (slice_get expressions handle)

-- an index as the size of an array
abbrev pub index_size : KnownIndex → Result ℕ ResolveArraySizeError
index_size (Known zero) = Err ExpectedPositiveArrayLength
index_size (Known (suc n)) = Ok (suc n)
index_size OutOfRange = Err ExpectedPositiveArrayLength
index_size NotInteger = Err NonConstArrayLength

module _ (ctx : GlobalCtx) where
  abbrev pub constant_index : Option c.Constant → KnownIndex
  constant_index (Some constant) = initial_index ctx.global_expressions.now constant.init
  constant_index None = NotInteger

  abbrev pub optional_index : Option ℕ → KnownIndex
  optional_index (Some init) = initial_index ctx.global_expressions.now init
  optional_index None = NotInteger

  abbrev pub override_index : Option o.Override → KnownIndex
  override_index (Some override) = optional_index override.init
  override_index None = NotInteger

  abbrev pub index_in : Option Expression → KnownIndex
  index_in (Some (Literal literal)) = literal_index literal
  index_in (Some (Constant handle)) = constant_index (slice_get ctx.constants.now handle)
  index_in (Some (Override handle)) = override_index (slice_get ctx.overrides.now handle)
  index_in _ = NotInteger

  -- the known index of an expression: one step through a constant or override, no more
  abbrev pub known_index : ℕ → KnownIndex
  known_index handle = index_in (slice_get ctx.global_expressions.now handle)

  abbrev pub IsConstantInRange : Option c.Constant → Type 0
  IsConstantInRange (Some constant) = constant.init < length ctx.global_expressions.now
  IsConstantInRange None = ⊥

  abbrev pub IsInitInRange : Option ℕ → Type 0
  IsInitInRange (Some init) = init < length ctx.global_expressions.now
  IsInitInRange None = Unit {0}

  abbrev pub IsOverrideInRange : Option o.Override → Type 0
  IsOverrideInRange (Some override) = IsInitInRange override.init
  IsOverrideInRange None = ⊥

  abbrev pub IsStepInRange : Option Expression → Type 0
  IsStepInRange (Some (Constant handle)) = (handle < length ctx.constants.now) × IsConstantInRange (slice_get ctx.constants.now handle)
  IsStepInRange (Some (Override handle)) = (handle < length ctx.overrides.now) × IsOverrideInRange (slice_get ctx.overrides.now handle)
  IsStepInRange _ = Unit {0}

  -- all handles that determine a known index are in range
  abbrev pub IsKnownInRange : ℕ → Type 0
  IsKnownInRange handle = (handle < length ctx.global_expressions.now) × IsStepInRange (slice_get ctx.global_expressions.now handle)

  abbrev pub IsSizingInRange : Option ℕ → Type 0
  IsSizingInRange (Some init) = IsKnownInRange init
  IsSizingInRange None = Unit {0}

  abbrev pub IsSizerInRange : Option o.Override → Type 0
  IsSizerInRange (Some override) = IsSizingInRange override.init
  IsSizerInRange None = ⊥

  -- all handles that determine the size of an array are in range
  abbrev pub IsSizeInRange : ℕ → Type 0
  IsSizeInRange handle = (handle < length ctx.overrides.now) × IsSizerInRange (slice_get ctx.overrides.now handle)

  abbrev pub sizing : Option ℕ → Result ℕ ResolveArraySizeError
  sizing (Some init) = index_size (known_index init)
  sizing None = Err NonConstArrayLength

  abbrev pub sizer : Option o.Override → Result ℕ ResolveArraySizeError
  sizer (Some override) = sizing override.init
  sizer None = Err NonConstArrayLength

  -- the size of an array that an override sizes
  abbrev pub override_size : ℕ → Result ℕ ResolveArraySizeError
  override_size handle = sizer (slice_get ctx.overrides.now handle)

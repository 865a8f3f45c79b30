-- Array lengths, and sizes within the limit.
use Rattle.std.specs.Prelude.{ℕ, ◌*◌, nat_le, All, drop, Option, Some, None, if◌then◌else◌}
use Rattle.std.specs.Result.{result_unwrap_or}
use Rattle.shader_ir.specs.KnownNumbers.{IsSizeInRange, override_size}
use Rattle.shader_ir.specs.declared.module.GlobalCtx.{GlobalCtx}
use Rattle.shader_ir.specs.declared.types.«Type».{«Type»}
use Rattle.shader_ir.specs.declared.types.ArraySize.{ArraySize}
use Rattle.shader_ir.specs.declared.types.ArraySize.TheVariants.{Constant, Pending, Dynamic}
use Rattle.shader_ir.specs.declared.types.TypeInner.{TypeInner}
use Rattle.shader_ir.specs.declared.types.TypeInner.TheVariants.{Array}

-- the most bytes of a type, and the most items of an array
abbrev pub largest_size : ℕ
largest_size = 1073741824

-- a size, unless it is above the limit
abbrev pub limited : ℕ → Option ℕ
limited size = if nat_le size largest_size then Some size else None

-- count times stride, unless the count or the product is above the limit
abbrev pub array_bytes : ℕ → ℕ → Option ℕ
array_bytes count stride = if nat_le count largest_size then limited (count * stride) else None

module _ (ctx : GlobalCtx) where
  -- the number of items of an array by its size: none if an override's size isn't known, one if it is sized at run time
  abbrev pub array_count : ArraySize → ℕ
  array_count (Constant count) = count
  array_count (Pending handle) = result_unwrap_or (override_size ctx handle) 0
  array_count Dynamic = 1

  -- all handles that determine the size of an array are in range
  abbrev pub IsCountInRange : ArraySize → Type 0
  IsCountInRange (Pending handle) = IsSizeInRange ctx handle
  IsCountInRange _ = Unit {0}

  -- all handles that determine the size of a type are in range
  abbrev pub IsTypeSizeInRange : TypeInner → Type 0
  IsTypeSizeInRange (Array base size stride) = IsCountInRange size
  IsTypeSizeInRange _ = Unit {0}

  -- all handles that determine the sizes of all types are in range
  abbrev pub AreTypeSizesInRange : Type 0
  AreTypeSizesInRange = All (λ (type : «Type»). IsTypeSizeInRange type.inner) ctx.types.now

  -- all handles that determine the sizes of the types from a position on are in range
  abbrev pub AreTypeSizesInRangeFrom : ℕ → Type 0
  AreTypeSizesInRangeFrom position = All (λ (type : «Type»). IsTypeSizeInRange type.inner) (drop position ctx.types.now)

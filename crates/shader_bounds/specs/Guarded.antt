-- Known indexes of accesses.
use Rattle.std.specs.Prelude.{◌<◌, List, Ok}
use Rattle.shader_ir.specs.declared.expression.Expression.{Expression}
use Rattle.shader_ir.specs.declared.«module».Module.{Module}
use Rattle.shader_ir.specs.declared.proc.known_numbers.KnownIndex.{KnownIndex}
use Rattle.shader_ir.specs.declared.proc.known_numbers.KnownIndex.TheVariants as known
use Rattle.shader_bounds.specs.Indexes.{known_index_among}
use Rattle.shader_bounds.specs.Lengths.{Answer}
use Rattle.shader_bounds.specs.declared.lengths.IndexableLength.TheVariants as lengths
use Rattle.shader_bounds.specs.declared.guarded.GuardedIndex.{GuardedIndex}
use Rattle.shader_bounds.specs.declared.guarded.GuardedIndex.TheVariants.{Known, Expression as Computed}

-- a number is known, and so is an expression of the function with a known index
abbrev pub guarded_index : Module → List Expression → GuardedIndex → KnownIndex
guarded_index checked expressions (Known index) = known.Known index
guarded_index checked expressions (Computed index) = known_index_among checked expressions index

-- index and length are known, and the index is below the length
abbrev pub IndexIsBelow : KnownIndex → Answer → Type 0
IndexIsBelow (known.Known index) (Ok (lengths.Known count)) = index < count
IndexIsBelow _ _ = ⊥

-- Groups of the variants of types.
use Rattle.shader_ir.specs.declared.types.TypeInner.{TypeInner}
use Rattle.shader_ir.specs.declared.types.TypeInner.TheVariants.{Scalar, Vector, Matrix, CooperativeMatrix}
use Rattle.shader_ir.specs.declared.types.TypeInner.TheVariants.{Atomic, Pointer, ValuePointer, Struct}

-- the type is made of scalars
abbrev pub IsOfScalars : TypeInner → Type 0
IsOfScalars (Scalar scalar) = Unit {0}
IsOfScalars (Vector size scalar) = Unit {0}
IsOfScalars (Matrix columns rows scalar) = Unit {0}
IsOfScalars (CooperativeMatrix columns rows scalar role) = Unit {0}
IsOfScalars (Atomic scalar) = Unit {0}
IsOfScalars (ValuePointer size scalar space) = Unit {0}
IsOfScalars _ = ⊥

-- the type is an array or a resource
abbrev pub IsResource : TypeInner → Type 0
IsResource (Scalar scalar) = ⊥
IsResource (Vector size scalar) = ⊥
IsResource (Matrix columns rows scalar) = ⊥
IsResource (CooperativeMatrix columns rows scalar role) = ⊥
IsResource (Atomic scalar) = ⊥
IsResource (ValuePointer size scalar space) = ⊥
IsResource (Pointer base space) = ⊥
IsResource (Struct span members) = ⊥
IsResource _ = Unit {0}

-- The rules of each list form for one constructor and one scalar.
use Rattle.std.specs.Prelude.{List, [], ◌∷◌}
use Rattle.shader_ir.specs.declared.scalar.Scalar.{Scalar}
use Rattle.shader_ir.specs.declared.types.TypeInner.TheVariants as types
use Rattle.shader_overloads.specs.declared.constructor_set.ConstructorSize.{ConstructorSize}
use Rattle.shader_overloads.specs.declared.constructor_set.ConstructorSize.TheVariants as sizes
use Rattle.shader_overloads.specs.declared.list_forms.ListForm.{ListForm}
use Rattle.shader_overloads.specs.declared.list_forms.ListForm.TheVariants as forms
use Rattle.shader_overloads.specs.declared.rule.Rule.{Rule}
use Rattle.shader_overloads.specs.Builtins.{exponent_of, rule, u32}
use Rattle.shader_overloads.specs.Constructors.{to_inner}

abbrev pub rows : ListForm → ConstructorSize → Scalar → List Rule
rows forms.Ldexp size s = rule (to_inner size s ∷ to_inner size (exponent_of s) ∷ []) (to_inner size s) ∷ []
rows forms.Outer (sizes.Matrix m n) s = rule (types.Vector m s ∷ types.Vector n s ∷ []) (types.Matrix m n s) ∷ []
rows forms.Outer _ s = []
rows forms.Refract size s = rule (to_inner size s ∷ to_inner size s ∷ types.Scalar s ∷ []) (to_inner size s) ∷ []
rows forms.Transpose (sizes.Matrix m n) s = rule (types.Matrix m n s ∷ []) (types.Matrix n m s) ∷ []
rows forms.Transpose _ s = []
rows forms.ExtractBits size s = rule (to_inner size s ∷ types.Scalar u32 ∷ types.Scalar u32 ∷ []) (to_inner size s) ∷ []
rows forms.InsertBits size s = rule (to_inner size s ∷ to_inner size s ∷ types.Scalar u32 ∷ types.Scalar u32 ∷ []) (to_inner size s) ∷ []
rows forms.Mix size s =
    rule (to_inner size s ∷ to_inner size s ∷ to_inner size s ∷ []) (to_inner size s)
    ∷ rule (to_inner size s ∷ to_inner size s ∷ types.Scalar s ∷ []) (to_inner size s) ∷ []

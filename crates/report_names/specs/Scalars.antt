-- Scalars, vectors and matrices as WGSL spells them.
use Rattle.std.specs.Prelude.{◌*◌, ◌++◌, ℕ, List, codes}
use Rattle.std.specs.Fmt.{decimal}
use Rattle.shader_ir.specs.declared.scalar.CooperativeRole.{CooperativeRole}
use Rattle.shader_ir.specs.declared.scalar.CooperativeRole.TheVariants as roles
use Rattle.shader_ir.specs.declared.scalar.CooperativeSize.{CooperativeSize}
use Rattle.shader_ir.specs.declared.scalar.CooperativeSize.TheVariants as edges
use Rattle.shader_ir.specs.declared.scalar.Scalar.{Scalar}
use Rattle.shader_ir.specs.declared.scalar.ScalarKind.{ScalarKind}
use Rattle.shader_ir.specs.declared.scalar.ScalarKind.TheVariants as kinds
use Rattle.shader_ir.specs.declared.scalar.VectorSize.{VectorSize}
use Rattle.shader_ir.specs.declared.scalar.VectorSize.TheVariants as sizes

-- a scalar of so many bits
abbrev pub kind_text : ScalarKind → ℕ → List ℕ
kind_text kinds.Sint bits = codes "i" ++ decimal bits
kind_text kinds.Uint bits = codes "u" ++ decimal bits
kind_text kinds.Float bits = codes "f" ++ decimal bits
kind_text kinds.Bool bits = codes "bool"
kind_text kinds.AbstractInt bits = codes "AbstractInt"
kind_text kinds.AbstractFloat bits = codes "AbstractFloat"

abbrev pub scalar_text : Scalar → List ℕ
scalar_text scalar = kind_text scalar.kind (8 * scalar.width)

abbrev pub size_word : VectorSize → List ℕ
size_word sizes.Bi = codes "2"
size_word sizes.Tri = codes "3"
size_word sizes.Quad = codes "4"

abbrev pub vector_word : VectorSize → List ℕ
vector_word size = codes "vec" ++ size_word size

abbrev pub vector_text : VectorSize → Scalar → List ℕ
vector_text size scalar = vector_word size ++ codes "<" ++ scalar_text scalar ++ codes ">"

abbrev pub matrix_text : VectorSize → VectorSize → Scalar → List ℕ
matrix_text columns rows scalar =
    codes "mat" ++ size_word columns ++ codes "x" ++ size_word rows ++ codes "<" ++ scalar_text scalar ++ codes ">"

abbrev pub edge_word : CooperativeSize → List ℕ
edge_word edges.Eight = codes "8"
edge_word edges.Sixteen = codes "16"

abbrev pub role_word : CooperativeRole → List ℕ
role_word roles.A = codes "A"
role_word roles.B = codes "B"
role_word roles.C = codes "C"

unfoldable pub cooperative_name : List ℕ → List ℕ → List ℕ → List ℕ → List ℕ
cooperative_name columns rows scalar role =
    codes "coop_mat" ++ (columns ++ (codes "x" ++ (rows ++ (codes "<" ++ (scalar ++ (codes ", " ++ (role ++ codes ">")))))))

abbrev pub cooperative_text : CooperativeSize → CooperativeSize → Scalar → CooperativeRole → List ℕ
cooperative_text columns rows scalar role =
    cooperative_name (edge_word columns) (edge_word rows) (scalar_text scalar) (role_word role)

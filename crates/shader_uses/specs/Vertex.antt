-- The types of `struct Vertex { position: vec3<f32>, weight: f32, flags: u32 }`.
use Rattle.std.specs.Prelude.{List, [], ◌∷◌, None}
use Rattle.shader_typing.specs.Scalars.{scalar}
use Rattle.shader_typing.specs.ScalarKind.TheVariants as kinds
use Rattle.shader_typing.specs.VectorSize.TheVariants.{Tri}
use Rattle.shader_typing.specs.StructMember.{StructMember}
use Rattle.shader_typing.specs.«Type».{«Type»}
use Rattle.shader_typing.specs.TypeInner.{TypeInner}
use Rattle.shader_typing.specs.TypeInner.TheVariants.{Scalar, Vector, Struct}

abbrev pub unnamed : TypeInner → «Type»
unnamed inner = record { name = None; inner = inner }

abbrev pub vertex_members : List StructMember
vertex_members =
    record { name = None; ty = 0; binding = None; offset = 0 }
    ∷ record { name = None; ty = 1; binding = None; offset = 12 }
    ∷ record { name = None; ty = 2; binding = None; offset = 16 } ∷ []

abbrev pub vertex_types : List «Type»
vertex_types =
    unnamed (Vector Tri (scalar kinds.Float 4)) ∷ unnamed (Scalar (scalar kinds.Float 4)) ∷ unnamed (Scalar (scalar kinds.Uint 4))
    ∷ unnamed (Struct 32 vertex_members) ∷ []

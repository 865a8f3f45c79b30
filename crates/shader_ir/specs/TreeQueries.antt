-- Queries that read the tree of a type.
use Rattle.std.specs.Prelude.{Bool, true, false, ◌&&◌}
use Rattle.shader_ir.specs.declared.types.ArraySize.TheVariants.{Constant, Dynamic}
use Rattle.shader_ir.specs.declared.types.TypeInner.{TypeInner}
use Rattle.shader_ir.specs.declared.types.TypeInner.TheVariants.{Scalar, Vector, Matrix, CooperativeMatrix, Atomic}
use Rattle.shader_ir.specs.declared.types.TypeInner.TheVariants.{Array, Struct, RayQuery, BindingArray}
use Rattle.shader_ir.specs.Scalars.{is_abstract_scalar}
use Rattle.shader_ir.specs.TypeTree.{TypeTree, TypeTrees, Node, NoTree, OneTree, root_of}

-- whether a type is built from abstract scalars; an array is if its base is
abbrev mutual
  pub is_abstract : TypeTree → Bool
  is_abstract (Node (Scalar scalar) _) = is_abstract_scalar scalar
  is_abstract (Node (Vector size scalar) _) = is_abstract_scalar scalar
  is_abstract (Node (Matrix columns rows scalar) _) = is_abstract_scalar scalar
  is_abstract (Node (Atomic scalar) _) = is_abstract_scalar scalar
  is_abstract (Node (Array base size stride) bases) = is_base_abstract bases
  is_abstract (Node _ _) = false

  pub is_base_abstract : TypeTrees → Bool
  is_base_abstract (OneTree base _) = is_abstract base
  is_base_abstract NoTree = false

-- whether a type is an array whose length the text doesn't fix, or a struct that ends in such a type
abbrev mutual
  pub is_dynamically_sized : TypeTree → Bool
  is_dynamically_sized (Node (Array base (Constant count) stride) _) = false
  is_dynamically_sized (Node (Array base size stride) _) = true
  is_dynamically_sized (Node (Struct span members) trees) = is_last_dynamically_sized false trees
  is_dynamically_sized (Node _ _) = false

  -- the result for the last tree, or the given default if there is none
  pub is_last_dynamically_sized : Bool → TypeTrees → Bool
  is_last_dynamically_sized answer NoTree = answer
  is_last_dynamically_sized answer (OneTree tree trees) = is_last_dynamically_sized (is_dynamically_sized tree) trees

-- whether a type is an array whose length is known only at run time
abbrev pub is_runtime_array : TypeInner → Bool
is_runtime_array (Array base Dynamic stride) = true
is_runtime_array _ = false

-- whether the last tree is that of such an array, or the given default if there is none
abbrev pub ends_in_runtime_array : Bool → TypeTrees → Bool
ends_in_runtime_array answer NoTree = answer
ends_in_runtime_array answer (OneTree tree trees) = ends_in_runtime_array (is_runtime_array (root_of tree)) trees

-- whether a type is such an array, a struct whose last member is one, or a binding array of types that need their size
abbrev mutual
  pub needs_host_buffer_byte_size : TypeTree → Bool
  needs_host_buffer_byte_size (Node (Array base size stride) _) = is_runtime_array (Array base size stride)
  needs_host_buffer_byte_size (Node (Struct span members) trees) = ends_in_runtime_array false trees
  needs_host_buffer_byte_size (Node (BindingArray base size) bases) = needs_base_byte_size bases
  needs_host_buffer_byte_size (Node _ _) = false

  pub needs_base_byte_size : TypeTrees → Bool
  needs_base_byte_size (OneTree base _) = needs_host_buffer_byte_size base
  needs_base_byte_size NoTree = false

-- whether a program may construct values of a type: its arrays have a fixed length, and all that it contains is constructible
abbrev mutual
  pub is_constructible : TypeTree → Bool
  is_constructible (Node (Scalar scalar) _) = true
  is_constructible (Node (Vector size scalar) _) = true
  is_constructible (Node (Matrix columns rows scalar) _) = true
  is_constructible (Node (CooperativeMatrix columns rows scalar role) _) = true
  is_constructible (Node (RayQuery vertex_return) _) = true
  is_constructible (Node (Array base (Constant count) stride) bases) = are_constructible bases
  is_constructible (Node (Struct span members) trees) = are_constructible trees
  is_constructible (Node _ _) = false

  pub are_constructible : TypeTrees → Bool
  are_constructible NoTree = true
  are_constructible (OneTree tree trees) = is_constructible tree && are_constructible trees

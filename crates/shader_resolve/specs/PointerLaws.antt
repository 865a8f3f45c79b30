-- Laws: the types of loads and accesses, on keys, through pointers and by value.
use Rattle.std.specs.Prelude.{◌≡◌, ℕ, List, Option, Some, None, Result, Ok, Err, slice_get}
use Rattle.shader_ir.specs.declared.expression.Expression.TheVariants as form
use Rattle.shader_ir.specs.declared.types.«Type».{«Type»}
use Rattle.shader_ir.specs.declared.types.AddressSpace.{AddressSpace}
use Rattle.shader_ir.specs.declared.types.TypeInner.{TypeInner}
use Rattle.shader_ir.specs.declared.types.TypeInner.TheVariants as type
use Rattle.shader_ir.specs.Key.{Key, InnerKey, canonical, handle_key, key_of}
use Rattle.shader_resolve.specs.declared.resolve.access.Component.{Component}
use Rattle.shader_resolve.specs.declared.resolve.access.BadIndex.{BadIndex}
use Rattle.shader_resolve.specs.Context.{Context}
use Rattle.shader_resolve.specs.Component.{component, component_pointer, component_value}
use Rattle.shader_resolve.specs.Typing.{typing}

module _ (types : List «Type») where
  -- the key of a pointer, that of a value pointer if it points to a scalar or a vector
  abbrev pub pointer_key : ℕ → AddressSpace → Key
  pointer_key base space = InnerKey (canonical types (type.Pointer base space))

  -- the key of a loaded value: the scalar's for an atomic, its own for any other type
  abbrev pub loaded_key : ℕ → TypeInner → Key
  loaded_key base (type.Atomic scalar) = InnerKey (type.Scalar scalar)
  loaded_key base inner = handle_key types base

  -- the key of a pointer to a component, if one is selected
  abbrev pub component_key : AddressSpace → Result Component BadIndex → Option Key
  component_key space (Ok reached) = Some (InnerKey (canonical types (component_pointer space reached)))
  component_key space (Err nothing) = None

  -- the key of a component by value, if one is selected
  abbrev pub value_key : Result Component BadIndex → Option Key
  value_key (Ok reached) = Some (key_of types (component_value reached))
  value_key (Err nothing) = None

-- the type isn't a pointer
abbrev pub IsNoPointer : TypeInner → Type 0
IsNoPointer (type.Pointer base space) = ⊥
IsNoPointer (type.ValuePointer size scalar space) = ⊥
IsNoPointer _ = Unit {0}

-- a load has the pointee's type, whether the pointer names its base or is a value pointer
abbrev pub LoadsArePointed : Type 0
LoadsArePointed =
    (context : Context) (keys : ℕ → Option Key) (pointer base : ℕ) (space : AddressSpace) (pointed : «Type»)
    → slice_get context.types base ≡ Some pointed → keys pointer ≡ Some (pointer_key context.types base space)
    → typing context keys (form.Load pointer) ≡ Some (loaded_key context.types base pointed.inner)

-- an access through a pointer is a pointer in its space to the component of the pointee
abbrev pub AccessesAreLifted : Type 0
AccessesAreLifted =
    (context : Context) (keys : ℕ → Option Key) (pointer base : ℕ) (space : AddressSpace) (pointed : «Type»)
    → slice_get context.types base ≡ Some pointed → keys pointer ≡ Some (pointer_key context.types base space)
    → ((index : ℕ) → typing context keys (form.Access pointer index) ≡ component_key context.types space (component None pointed.inner))
    × ((index : ℕ) → typing context keys (form.AccessIndex pointer index)
    ≡ component_key context.types space (component (Some index) pointed.inner))

-- an access of a value that isn't a pointer is the component itself
abbrev pub AccessesAreComponents : Type 0
AccessesAreComponents =
    (context : Context) (keys : ℕ → Option Key) (value ty : ℕ) (stored : «Type»)
    → slice_get context.types ty ≡ Some stored → IsNoPointer stored.inner → keys value ≡ Some (handle_key context.types ty)
    → ((index : ℕ) → typing context keys (form.Access value index) ≡ value_key context.types (component None stored.inner))
    × ((index : ℕ) → typing context keys (form.AccessIndex value index) ≡ value_key context.types (component (Some index) stored.inner))

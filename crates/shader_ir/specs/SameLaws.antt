-- `==` on types is equality of everything that contracts see.
use Rattle.std.proofs.Common.{rules, ◌≡◌, true, true≢false, sym, Bool, List, Option, Some, None, subst}
use Rattle.std.specs.Option.{option_eq}
use Rattle.std.proofs.lemmas.Bool.{and_parts}
use Rattle.std.specs.Cmp.Lexicographic.{pointwise, pointwise_decides}
use Rattle.shader_ir.specs.Same.{DecidesSame}
use Rattle.shader_ir.specs.contracts.types.TypeInnerEq.TheImpl.Laws.{laws-law}
use Rattle.shader_ir.specs.contracts.types.TypeEq.TheImpl.Laws as type_laws
use Rattle.shader_ir.specs.contracts.«module».PredeclaredTypeEq.TheImpl.Laws as predeclared_laws
use Rattle.shader_ir.specs.contracts.scalar.ScalarPartialEq.TheImpl as scalar
use Rattle.shader_ir.specs.contracts.scalar.VectorSizePartialEq.TheImpl as size
use Rattle.shader_ir.specs.contracts.name.NamePartialEq.TheImpl as name
use Rattle.shader_ir.specs.contracts.types.AddressSpacePartialEq.TheImpl as space
use Rattle.shader_ir.specs.contracts.types.ArraySizePartialEq.TheImpl as array_size
use Rattle.shader_ir.specs.contracts.image.ImageClassPartialEq.TheImpl as class
use Rattle.shader_ir.specs.contracts.image.ImageDimensionPartialEq.TheImpl as dimension
use Rattle.shader_ir.specs.contracts.scalar.CooperativeSizePartialEq.TheImpl as cooperative_size
use Rattle.shader_ir.specs.contracts.scalar.CooperativeRolePartialEq.TheImpl as role
use Rattle.shader_ir.specs.contracts.types.StructMemberPartialEq.TheImpl as member
use Rattle.shader_ir.specs.contracts.types.TypeInnerPartialEq.TheImpl as inner
use Rattle.shader_ir.specs.contracts.types.TypePartialEq.TheImpl as whole
use Rattle.shader_ir.specs.contracts.«module».PredeclaredTypePartialEq.TheImpl as predeclared
use Rattle.shader_ir.specs.declared.types.StructMember.{StructMember}
use Rattle.shader_ir.specs.declared.types.«Type».{«Type»}
use Rattle.shader_ir.specs.declared.types.TypeInner.{TypeInner}
use Rattle.shader_ir.specs.declared.types.TypeInner.TheVariants.{Scalar, Vector, Matrix, CooperativeMatrix, Atomic}
use Rattle.shader_ir.specs.declared.types.TypeInner.TheVariants.{Pointer, ValuePointer, Array, Struct, Image, Sampler}
use Rattle.shader_ir.specs.declared.types.TypeInner.TheVariants.{AccelerationStructure, RayQuery, BindingArray}
use Rattle.shader_ir.specs.declared.«module».PredeclaredType.{PredeclaredType}
use Rattle.shader_ir.specs.declared.«module».PredeclaredType.TheVariants.{FrexpResult, ModfResult}

-- it suffices that equal values are the same, and that each equals itself
decides : {T : Type 0} (eq : T → T → Bool) → ((x y : T) → eq x y ≡ true → x ≡ y) → ((x : T) → eq x x ≡ true) → DecidesSame eq
decides eq same itself = λ x y. (same x y, λ e. subst (λ z. eq x z ≡ true) e (itself x))

pub scalar_decides : DecidesSame scalar.ghosts.eq
scalar_decides = decides scalar.ghosts.eq (λ x y h. search rules) (λ x. search rules)

pub size_decides : DecidesSame size.ghosts.eq
size_decides = decides size.ghosts.eq (λ x y h. search rules) (λ x. search rules)

space_decides : DecidesSame space.ghosts.eq
space_decides = decides space.ghosts.eq (λ x y h. search rules) (λ x. search rules)

pub array_size_decides : DecidesSame array_size.ghosts.eq
array_size_decides = decides array_size.ghosts.eq (λ x y h. search rules) (λ x. search rules)

dimension_decides : DecidesSame dimension.ghosts.eq
dimension_decides = decides dimension.ghosts.eq (λ x y h. search rules) (λ x. search rules)

class_decides : DecidesSame class.ghosts.eq
class_decides = decides class.ghosts.eq (λ x y h. search rules) (λ x. search rules)

cooperative_size_decides : DecidesSame cooperative_size.ghosts.eq
cooperative_size_decides = decides cooperative_size.ghosts.eq (λ x y h. search rules) (λ x. search rules)

role_decides : DecidesSame role.ghosts.eq
role_decides = decides role.ghosts.eq (λ x y h. search rules) (λ x. search rules)

pub member_decides : DecidesSame member.ghosts.eq
member_decides = decides member.ghosts.eq (λ x y h. search rules) (λ x. search rules)

name_decides : DecidesSame name.ghosts.eq
name_decides = decides name.ghosts.eq (λ x y h. search rules) (λ x. search rules)

same_members : (xs ys : List StructMember) → pointwise member.ghosts.eq xs ys ≡ true → xs ≡ ys
same_members xs ys = (pointwise_decides member_decides xs ys).0

module _ {T : Type 0} (eq : T → T → Bool) (each : DecidesSame eq) where
  -- an option is compared by its content
  same_options : (x y : Option T) → option_eq eq x y ≡ true → x ≡ y
  same_options None None h = search rules
  same_options None (Some y) h = search rules
  same_options (Some x) None h = search rules
  same_options (Some x) (Some y) h = let e : x ≡ y = (each x y).0 (search rules) in cc

same_inner : (a b : TypeInner) → inner.ghosts.eq a b ≡ true → a ≡ b
same_inner (Scalar s) (Scalar t) h = search rules
same_inner (Vector size s) (Vector size' s') h = search rules
same_inner (Atomic s) (Atomic t) h = search rules
same_inner (Pointer base space) (Pointer base' space') h = search rules
same_inner (Array base size stride) (Array base' size' stride') h = search rules
same_inner (Sampler c) (Sampler c') h = search rules
same_inner (AccelerationStructure v) (AccelerationStructure v') h = search rules
same_inner (RayQuery v) (RayQuery v') h = search rules
same_inner (BindingArray base size) (BindingArray base' size') h = search rules
same_inner (CooperativeMatrix c r s o) (CooperativeMatrix c' r' s' o') h =
    let p = and_parts (cooperative_size.ghosts.eq c c') _ h in
    let q = and_parts (cooperative_size.ghosts.eq r r') _ p.1 in
    let t = and_parts (scalar.ghosts.eq s s') _ q.1 in
    let columns = (cooperative_size_decides c c').0 p.0 in
    let rows = (cooperative_size_decides r r').0 q.0 in
    let scalars = (scalar_decides s s').0 t.0 in
    let roles = (role_decides o o').0 t.1 in cc
same_inner (Matrix c r s) (Matrix c' r' s') h =
    let p = and_parts (size.ghosts.eq c c') _ h in
    let q = and_parts (size.ghosts.eq r r') _ p.1 in
    let columns = (size_decides c c').0 p.0 in
    let rows = (size_decides r r').0 q.0 in
    let scalars = (scalar_decides s s').0 q.1 in cc
same_inner (ValuePointer n s space) (ValuePointer n' s' space') h =
    let p = and_parts (option_eq size.ghosts.eq n n') _ h in
    let q = and_parts (scalar.ghosts.eq s s') _ p.1 in
    let sizes = same_options size.ghosts.eq size_decides n n' p.0 in
    let scalars = (scalar_decides s s').0 q.0 in
    let spaces = (space_decides space space').0 q.1 in cc
same_inner (Struct m s) (Struct n t) h =
    let p = and_parts _ _ h in let members = same_members s t p.1 in search rules
same_inner (Image d a c) (Image d' a' c') h =
    let p = and_parts (dimension.ghosts.eq d d') _ h in
    let q = and_parts _ (class.ghosts.eq c c') p.1 in
    let dimensions = (dimension_decides d d').0 p.0 in
    let arrayed : a ≡ a' = search rules in
    let classes = (class_decides c c').0 q.1 in cc
same_inner a b h = absurd (true≢false (sym h))

pub inner_decides : DecidesSame inner.ghosts.eq
inner_decides = decides inner.ghosts.eq same_inner laws-law.refl

same_types : (a b : «Type») → whole.ghosts.eq a b ≡ true → a ≡ b
same_types a b h =
    let p = and_parts (option_eq name.ghosts.eq a.name b.name) _ h in
    let names = same_options name.ghosts.eq name_decides a.name b.name p.0 in
    let inners = same_inner a.inner b.inner p.1 in
    λ i. record { name = names i; inner = inners i }

pub type_decides : DecidesSame whole.ghosts.eq
type_decides = decides whole.ghosts.eq same_types type_laws.laws-law.refl

same_predeclared : (a b : PredeclaredType) → predeclared.ghosts.eq a b ≡ true → a ≡ b
same_predeclared (FrexpResult n s) (FrexpResult n' s') h =
    let p = and_parts (option_eq size.ghosts.eq n n') _ h in
    let sizes = same_options size.ghosts.eq size_decides n n' p.0 in
    let scalars = (scalar_decides s s').0 p.1 in cc
same_predeclared (ModfResult n s) (ModfResult n' s') h =
    let p = and_parts (option_eq size.ghosts.eq n n') _ h in
    let sizes = same_options size.ghosts.eq size_decides n n' p.0 in
    let scalars = (scalar_decides s s').0 p.1 in cc
same_predeclared a b h = absurd (true≢false (sym h))

pub predeclared_decides : DecidesSame predeclared.ghosts.eq
predeclared_decides = decides predeclared.ghosts.eq same_predeclared predeclared_laws.laws-law.refl

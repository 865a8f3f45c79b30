-- The special types of a module in its JSON.
use Rattle.std.specs.Prelude.{◌≡◌, ℕ, List, [], ◌++◌, Bool, true, false, not, Option, codes}
use Rattle.std.specs.Map.{keys_of}
use Rattle.std.specs.Option.{option_map_or}
use Rattle.std.specs.Str.{bytes_eq}
use Rattle.json.specs.Json.{Json, null, boolean, number, string, array, object, Items, no_items, item, Members, no_members, member}
use Rattle.shader_ir.specs.declared.module.PredeclaredType.{PredeclaredType}
use Rattle.shader_ir.specs.declared.module.PredeclaredType.TheVariants.{FrexpResult, ModfResult}
use Rattle.shader_ir.specs.declared.module.SpecialTypes.{SpecialTypes}
use Rattle.shader_ir.specs.declared.scalar.Scalar.{Scalar}
use Rattle.shader_ir.specs.declared.scalar.VectorSize.{VectorSize}
use Rattle.shader_json_reader.specs.Numbers.{IsHandle}
use Rattle.shader_json_reader.specs.Shapes.{AreDistinct, Each, HasField, IsArray, IsNewtype, IsObject, IsPair, IsStruct, IsVariant}
use Rattle.shader_json_reader.specs.Shapes.{MayHaveField, variant_of}
use Rattle.shader_json_declarations.specs.Scalars.{IsScalar, IsSize}

-- a scalar, or a vector of that size
abbrev pub HasShape : Members → Option VectorSize → Scalar → Type 0
HasShape ms size scalar = MayHaveField IsSize (codes "size") ms size × HasField IsScalar (codes "scalar") ms scalar

abbrev pub IsPredeclaredOf : List ℕ → Option Json → PredeclaredType → Type 0
IsPredeclaredOf name payload (FrexpResult size scalar) = IsStruct (codes "FrexpResult") name payload (λ ms. HasShape ms size scalar)
IsPredeclaredOf name payload (ModfResult size scalar) = IsStruct (codes "ModfResult") name payload (λ ms. HasShape ms size scalar)

abbrev pub IsPredeclared : Json → PredeclaredType → Type 0
IsPredeclared j ty = IsVariant j (λ name payload. IsPredeclaredOf name payload ty)

-- a predeclared type with the handle of its type
abbrev pub IsEntry : Json → (PredeclaredType × ℕ) → Type 0
IsEntry j entry = IsArray j (IsPair (λ key ty. IsPredeclared key entry.0 × IsHandle ty entry.1))

-- the result of a weak compare-exchange of such a scalar
abbrev pub IsExchangeResult : Json → Scalar → Type 0
IsExchangeResult j scalar =
    IsVariant j (λ name payload. IsNewtype (codes "AtomicCompareExchangeWeakResult") name payload (λ k. IsScalar k scalar))

-- Such a predeclared type with the handle of its type is no entry of a module.
abbrev pub IsDroppedEntry : Json → Scalar → Type 0
IsDroppedEntry j scalar = IsArray j (IsPair (λ key ty. IsExchangeResult key scalar × ((handle : ℕ) × IsHandle ty handle)))

-- a predeclared type is one of these if it has their name
abbrev pub is_unrecorded : Json → Bool
is_unrecorded key = option_map_or (λ v. bytes_eq v.0 (codes "AtomicCompareExchangeWeakResult")) (variant_of key) false

abbrev pub is_dropped : Json → Bool
is_dropped null = false
is_dropped (boolean b) = false
is_dropped (number s) = false
is_dropped (string s) = false
is_dropped (array no_items) = false
is_dropped (array (item key js)) = is_unrecorded key
is_dropped (object ms) = false

-- the item before others, unless the test holds
abbrev pub item_unless : Bool → Json → Items → Items
item_unless true j js = js
item_unless false j js = item j js

-- the items for which the test doesn't hold, in order
abbrev pub items_unless : (Json → Bool) → Items → Items
items_unless test no_items = no_items
items_unless test (item j js) = item_unless (test j) j (items_unless test js)

-- the pairs of which a module has entries
abbrev pub recorded : Items → Items
recorded js = items_unless is_dropped js

-- the pairs of which a module has none
abbrev pub unrecorded : Items → Items
unrecorded js = items_unless (λ j. not (is_dropped j)) js

-- the pairs without an entry are of scalars that differ
abbrev pub AreDropped : Items → Type 0
AreDropped js = (scalars : List Scalar) × Each IsDroppedEntry (unrecorded js) scalars × AreDistinct scalars

-- The predeclared types are an array of pairs, each of which is an entry or dropped. No key stands twice. An object stands for none if it
-- is empty.
abbrev pub ArePredeclared : Json → List (PredeclaredType × ℕ) → Type 0
ArePredeclared null entries = ⊥
ArePredeclared (boolean b) entries = ⊥
ArePredeclared (number s) entries = ⊥
ArePredeclared (string s) entries = ⊥
ArePredeclared (array js) entries = Each IsEntry (recorded js) entries × AreDistinct (keys_of entries) × AreDropped js
ArePredeclared (object no_members) entries = entries ≡ []
ArePredeclared (object (member k j ms)) entries = ⊥

-- the entries with what a pair adds to them
abbrev pub IsAdded : Json → List (PredeclaredType × ℕ) → List (PredeclaredType × ℕ) → Type 0
IsAdded pair old new =
    (entries : List (PredeclaredType × ℕ)) × Each IsEntry (recorded (item pair no_items)) entries × (new ≡ old ++ entries)

-- the scalars of dropped pairs with what a pair adds to them
abbrev pub IsDropAdded : Json → List Scalar → List Scalar → Type 0
IsDropAdded pair old new =
    (scalars : List Scalar) × Each IsDroppedEntry (unrecorded (item pair no_items)) scalars × (new ≡ old ++ scalars)

abbrev pub AreSpecialTypes : Json → SpecialTypes → Type 0
AreSpecialTypes j special =
    IsObject j (λ ms. MayHaveField IsHandle (codes "ray_intersection") ms special.ray_intersection
    × MayHaveField IsHandle (codes "ray_vertex_return") ms special.ray_vertex_return
    × HasField ArePredeclared (codes "predeclared_types") ms special.predeclared_types)

-- Keys of predeclared types.
use Rattle.std.proofs.Common.{get_or, length, take, ◌<◌, Global}
use Rattle.std.proofs.Common.{◌≡◌, ◌∙◌, ℕ, ap, refl, sym, subst, Bool, true, false, not, Option, Some, None, List, [], ◌∷◌, MatchOption}
use Rattle.std.proofs.Common.{codes}
use Rattle.std.proofs.lemmas.Bool.{true≢false}
use Rattle.std.specs.Map.{keys_of}
use Rattle.std.specs.Option.{option_map_or}
use Rattle.std.specs.Str.{bytes_eq}
use Rattle.json.specs.Json.{Json, null, boolean, number, string, array, object, no_items, item}
use Rattle.json.specs.Value.{items_view, value_view}
use Rattle.json.specs.declared.value.Value.{Value}
use Rattle.shader_ir.specs.declared.module.PredeclaredType.{PredeclaredType}
use Rattle.shader_ir.specs.declared.module.PredeclaredType.TheVariants.{FrexpResult, ModfResult}
use Rattle.shader_ir.specs.declared.scalar.Scalar.{Scalar}
use Rattle.shader_json_declarations.specs.Scalars.{IsScalar}
use Rattle.shader_ir.specs.declared.scalar.VectorSize.{VectorSize}
use Rattle.shader_json_reader.proofs.ShapeLemmas.{apart}
use Rattle.shader_json_reader.specs.Numbers.{IsHandle}
use Rattle.shader_json_reader.specs.Shapes.{AreDistinct, Each, IsAbsent, IsArray, IsNewtype, IsObject, IsPair, IsVariant, variant_of}
use Rattle.shader_json_declarations.proofs.DeterminedDeclarations.{dropped_same, entry_same}
use Rattle.shader_json_declarations.proofs.DistinctLemmas.{absent_before, key_before}
use Rattle.shader_json_declarations.proofs.EntryLemmas.{split_unless}
use Rattle.shader_json_declarations.proofs.PayloadLemmas.{of_frexp, of_modf}
use Rattle.shader_json_declarations.specs.Keys.{IsKey, IsKeyed, IsNew}
use Rattle.shader_json_declarations.specs.SpecialTypes.{ArePredeclared, HasShape, IsDroppedEntry, IsEntry, IsExchangeResult, IsPredeclared}
use Rattle.shader_json_declarations.specs.SpecialTypes.{IsPredeclaredOf, is_dropped, item_unless, recorded, unrecorded}
use Rattle.shader_json_declarations.specs.declared.special_types.Key.{Key}
use Rattle.shader_json_declarations.specs.declared.special_types.Key.TheVariants.{Dropped, Supported}

-- a pair has a key and a type
as_pair : {X : Type 0} (P : Json → Json → Type 0) (j : Json)
    → ((key ty : Json) → j ≡ array (item key (item ty no_items)) → P key ty → X) → IsArray j (IsPair P) → X
as_pair P null f h = absurd h
as_pair P (boolean b) f h = absurd h
as_pair P (number s) f h = absurd h
as_pair P (string s) f h = absurd h
as_pair P (array no_items) f h = absurd h
as_pair P (array (item key no_items)) f h = absurd h
as_pair P (array (item key (item ty no_items))) f h = f key ty refl h
as_pair P (array (item key (item ty (item k js)))) f h = absurd h
as_pair P (object ms) f h = absurd h

-- the key of an entry is recorded
recorded_of : (name : List ℕ) (payload : Option Json) (ty : PredeclaredType) → IsPredeclaredOf name payload ty
    → bytes_eq name (codes "AtomicCompareExchangeWeakResult") ≡ false
recorded_of name payload (FrexpResult size scalar) h =
    ap (λ n. bytes_eq n (codes "AtomicCompareExchangeWeakResult")) h.0
recorded_of name payload (ModfResult size scalar) h =
    ap (λ n. bytes_eq n (codes "AtomicCompareExchangeWeakResult")) h.0

recorded_found : (found : Option (List ℕ × Option Json)) (ty : PredeclaredType)
    → MatchOption found ⊥ (λ v. IsPredeclaredOf v.0 v.1 ty)
    → option_map_or (λ v. bytes_eq v.0 (codes "AtomicCompareExchangeWeakResult")) found false ≡ false
recorded_found None ty h = absurd h
recorded_found (Some v) ty h = recorded_of v.0 v.1 ty h

pub entry_recorded : (j : Json) (entry : PredeclaredType × ℕ) → IsEntry j entry → is_dropped j ≡ false
entry_recorded j entry h = as_pair (λ key ty. IsPredeclared key entry.0 × IsHandle ty entry.1) j
    (λ key ty is p. ap is_dropped is ∙ recorded_found (variant_of key) entry.0 p.0) h

-- what an entry adds
pub entry_added : (j : Json) (key : PredeclaredType) (ty : ℕ) → IsKeyed j (Supported key) ty
    → Each IsEntry (recorded (item j no_items)) ((key, ty) ∷ [])
entry_added j key ty h =
    subst (λ (b : Bool). Each IsEntry (item_unless b j no_items) ((key, ty) ∷ [])) (sym (entry_recorded j (key, ty) h)) (h, tt)

-- an entry isn't dropped
pub none_dropped : (j : Json) (key : PredeclaredType) (ty : ℕ) → IsKeyed j (Supported key) ty
    → Each IsDroppedEntry (unrecorded (item j no_items)) []
none_dropped j key ty h =
    subst (λ (b : Bool). Each IsDroppedEntry (item_unless (not b) j no_items) []) (sym (entry_recorded j (key, ty) h)) tt

-- the key of a dropped pair is not recorded
unrecorded_found : (found : Option (List ℕ × Option Json)) (scalar : Scalar)
    → MatchOption found ⊥ (λ v. IsNewtype (codes "AtomicCompareExchangeWeakResult") v.0 v.1 (λ k. IsScalar k scalar))
    → option_map_or (λ v. bytes_eq v.0 (codes "AtomicCompareExchangeWeakResult")) found false ≡ true
unrecorded_found None scalar h = absurd h
unrecorded_found (Some v) scalar h = ap (λ n. bytes_eq n (codes "AtomicCompareExchangeWeakResult")) h.0

module _ (j : Json) (scalar : Scalar) where
  pub dropped_found : (handle : ℕ) → IsKeyed j (Dropped scalar) handle → is_dropped j ≡ true
  dropped_found handle h = as_pair (λ key ty. IsExchangeResult key scalar × IsHandle ty handle) j
      (λ key ty is p. ap is_dropped is ∙ unrecorded_found (variant_of key) scalar p.0) h

  dropped_entry : (handle : ℕ) → IsKeyed j (Dropped scalar) handle → IsDroppedEntry j scalar
  dropped_entry handle h = as_pair (λ key ty. IsExchangeResult key scalar × IsHandle ty handle) j
      (λ key ty is p. subst (λ (k : Json). IsDroppedEntry k scalar) (sym is) (p.0, (handle, p.1))) h

  -- a dropped pair has some handle
  with_handle : {X : Type 0} → ((handle : ℕ) → IsKeyed j (Dropped scalar) handle → X) → IsDroppedEntry j scalar → X
  with_handle f h = as_pair (λ key ty. IsExchangeResult key scalar × ((handle : ℕ) × IsHandle ty handle)) j
      (λ key ty is p. f p.1.0 (subst (λ (k : Json). IsKeyed k (Dropped scalar) p.1.0) (sym is) (p.0, p.1.1))) h

-- what a dropped pair adds
pub drop_added : (j : Json) (scalar : Scalar) (ty : ℕ) → IsKeyed j (Dropped scalar) ty
    → Each IsDroppedEntry (unrecorded (item j no_items)) (scalar ∷ [])
drop_added j scalar ty h =
    subst (λ (b : Bool). Each IsDroppedEntry (item_unless (not b) j no_items) (scalar ∷ [])) (sym (dropped_found j scalar ty h))
    (dropped_entry j scalar ty h, tt)

pub none_recorded : (j : Json) (scalar : Scalar) (ty : ℕ) → IsKeyed j (Dropped scalar) ty → Each IsEntry (recorded (item j no_items)) []
none_recorded j scalar ty h =
    subst (λ (b : Bool). Each IsEntry (item_unless b j no_items) []) (sym (dropped_found j scalar ty h)) tt

-- ---- a key is determined by its JSON

pub supported_new : (j : Json) (ty : PredeclaredType) (handle : ℕ) (other : Key) (handle′ : ℕ) (stored : List PredeclaredType)
    (dropped : List Scalar) → IsKeyed j (Supported ty) handle → IsKeyed j other handle′ → IsNew other stored dropped → IsAbsent ty stored
supported_new j ty handle (Supported other) handle′ stored dropped h k new =
    subst (λ (t : PredeclaredType). IsAbsent t stored)
    (ap (λ (e : PredeclaredType × ℕ). e.0) (entry_same j (other, handle′) (ty, handle) k h)) new
supported_new j ty handle (Dropped scalar) handle′ stored dropped h k new =
    absurd (true≢false (sym (dropped_found j scalar handle′ k) ∙ entry_recorded j (ty, handle) h))

pub dropped_new : (j : Json) (scalar : Scalar) (handle : ℕ) (other : Key) (handle′ : ℕ) (stored : List PredeclaredType)
    (dropped : List Scalar) → IsKeyed j (Dropped scalar) handle → IsKeyed j other handle′ → IsNew other stored dropped
    → IsAbsent scalar dropped
dropped_new j scalar handle (Dropped other) handle′ stored dropped h k new =
    subst (λ (s : Scalar). IsAbsent s dropped)
    (dropped_same j other scalar (dropped_entry j other handle′ k) (dropped_entry j scalar handle h)) new
dropped_new j scalar handle (Supported ty) handle′ stored dropped h k new =
    absurd (true≢false (sym (dropped_found j scalar handle h) ∙ entry_recorded j (ty, handle′) k))

module _ {X : Type 0} (vs : List (Value Global)) (i : ℕ) (v : Value Global) (within : i < length vs) (same : v ≡ get_or vs i v)
    (stored : List (PredeclaredType × ℕ)) (dropped : List Scalar)
    (entries_so_far : Each IsEntry (recorded (items_view (take i vs))) stored)
    (dropped_so_far : Each IsDroppedEntry (unrecorded (items_view (take i vs))) dropped)
    (f : (keyed : Key × ℕ) → IsKeyed (value_view v) keyed.0 keyed.1 × IsNew keyed.0 (keys_of stored) dropped → X) where
  by_test : (test : Bool) → is_dropped (value_view v) ≡ test → (entries : List (PredeclaredType × ℕ)) (scalars : List Scalar)
      → Each IsEntry (recorded (items_view vs)) entries → AreDistinct (keys_of entries)
      → Each IsDroppedEntry (unrecorded (items_view vs)) scalars → AreDistinct scalars → X
  by_test false is entries scalars recorded_all keys unrecorded_all distinct =
      split_unless IsEntry is_dropped entry_same v vs i stored entries within same is entries_so_far recorded_all
      (λ e rest entry split. f (Supported e.0, e.1)
      (entry, key_before stored e rest (subst (λ (es : List (PredeclaredType × ℕ)). AreDistinct (keys_of es)) split keys)))
  by_test true is entries scalars recorded_all keys unrecorded_all distinct =
      split_unless IsDroppedEntry (λ (j : Json). not (is_dropped j)) dropped_same v vs i dropped scalars within same (ap not is)
      dropped_so_far unrecorded_all
      (λ scalar rest entry split. with_handle (value_view v) scalar (λ handle keyed. f (Dropped scalar, handle)
      (keyed, absent_before dropped scalar rest (subst (λ (ss : List Scalar). AreDistinct ss) split distinct))) entry)

  -- a pair of predeclared types is new if no key stands twice
  pub pair_new : (j : Json) (entries : List (PredeclaredType × ℕ)) → j ≡ array (items_view vs) → ArePredeclared j entries → X
  pair_new j entries is h =
      let all : ArePredeclared (array (items_view vs)) entries = subst (λ (k : Json). ArePredeclared k entries) is h in
      by_test (is_dropped (value_view v)) refl entries all.2.0 all.0 all.1 all.2.1 all.2.2

-- ---- the payload of a key

abbrev pub IsKeyOf : List ℕ → Option Json → Key → Type 0
IsKeyOf name payload (Supported ty) = IsPredeclaredOf name payload ty
IsKeyOf name payload (Dropped scalar) =
    IsNewtype (codes "AtomicCompareExchangeWeakResult") name payload (λ k. IsScalar k scalar)

pub key_of : (j : Json) (x : Key) → IsKey j x → IsVariant j (λ name payload. IsKeyOf name payload x)
key_of j (Supported ty) h = h
key_of j (Dropped scalar) h = h

module _ {X : Type 0} (k : Json) where
  pub of_modf_key : (x : Key) → ((size : Option VectorSize) (scalar : Scalar) → IsObject k (λ ms. HasShape ms size scalar) → X)
      → IsKeyOf (codes "ModfResult") (Some k) x → X
  of_modf_key (Supported ty) f u = of_modf k ty f u
  of_modf_key (Dropped scalar) f u = apart (codes "ModfResult") (codes "AtomicCompareExchangeWeakResult") refl u.0

  pub of_frexp_key : (x : Key) → ((size : Option VectorSize) (scalar : Scalar) → IsObject k (λ ms. HasShape ms size scalar) → X)
      → IsKeyOf (codes "FrexpResult") (Some k) x → X
  of_frexp_key (Supported ty) f u = of_frexp k ty f u
  of_frexp_key (Dropped scalar) f u = apart (codes "FrexpResult") (codes "AtomicCompareExchangeWeakResult") refl u.0

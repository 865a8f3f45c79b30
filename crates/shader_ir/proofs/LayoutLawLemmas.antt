-- Repeated updates: on an arena that grew, and after a refusal.
use Rattle.std.proofs.Common.{◌≡◌, ◌∙◌, ap, sym, refl, ℕ, zero, suc, ◌<◌, ◌≤◌, List, [], ◌∷◌, length, map}
use Rattle.std.proofs.Common.{slice_get, take, Option, Some, None, unwrap_or, ◌⊎◌, inl, inr, arith}
use Rattle.std.specs.Option.{option_map}
use Rattle.std.specs.Result.{result_unwrap_or}
use Rattle.std.proofs.lemmas.Bool.{cases_lt}
use Rattle.std.proofs.lemmas.List.{length-take}
use Rattle.std.proofs.lemmas.Option.{slice_get_past}
use Rattle.shader_ir.specs.Layout.{layout_fault, sized_fault, fault_at, layout_of, layouts_of, size_of_type, AreFirstLayouts, IsRefusalAt}
use Rattle.shader_ir.specs.LayoutLaws.{AreUpdates, OnlyAdds, IsUpdated, RefusalsRepeat, Updated, UpdatesCompose, last_of}
use Rattle.shader_ir.specs.Sizes.{array_bytes, array_count, AreTypeSizesInRange, IsCountInRange, IsTypeSizeInRange}
use Rattle.shader_ir.specs.TypeTree.{tree_of, tree_within}
use Rattle.shader_ir.specs.declared.proc.layouter.LayoutError.{LayoutError}
use Rattle.shader_ir.specs.declared.proc.layouter.LayoutErrorInner.{LayoutErrorInner}
use Rattle.shader_ir.specs.declared.proc.layouter.TypeLayout.{TypeLayout}
use Rattle.shader_ir.specs.declared.proc.layouter.UpdateError.{UpdateError}
use Rattle.shader_ir.specs.declared.proc.layouter.UpdateError.TheVariants.{Layout, OutOfMemory}
use Rattle.shader_ir.specs.declared.module.GlobalCtx.{GlobalCtx}
use Rattle.shader_ir.specs.declared.types.ArraySize.{ArraySize}
use Rattle.shader_ir.specs.declared.types.ArraySize.TheVariants.{Pending}
use Rattle.shader_ir.specs.declared.types.«Type».{«Type»}
use Rattle.shader_ir.specs.declared.types.TypeInner.{TypeInner}
use Rattle.shader_ir.specs.declared.types.TypeInner.TheVariants.{Array}
use Rattle.shader_ir.proofs.LayoutLemmas.{at_position, found, get_taken, same_alignment, size_in_range, sound, take_whole, within}

-- lists with equal first items
take_alike : {X Y : Type 0} → (f g : X → Y) (n : ℕ) (xs ys : List X) → n ≤ length xs
    → ((position : ℕ) (x : X) → position < n → slice_get xs position ≡ Some x → (slice_get ys position ≡ Some x) × (f x ≡ g x))
    → take n (map f xs) ≡ take n (map g ys)
take_alike f g zero xs ys le alike = refl
take_alike f g (suc n) [] ys le alike = absurd (omega arith)
take_alike f g (suc n) (x ∷ xs) [] le alike = let none = (alike 0 x (omega arith) refl).0 in absurd (cc)
take_alike f g (suc n) (x ∷ xs) (y ∷ ys) le alike =
    let first = alike 0 x (omega arith) refl in
    let there = first.0 in
    let same : x ≡ y = cc in
    let rest = take_alike f g n xs ys (omega arith) (λ position z lt at. alike (suc position) z (omega arith) at) in
    λ i. (first.1 ∙ ap g same) i ∷ rest i

module _ (earlier later : GlobalCtx) (grows : OnlyAdds earlier later) where
  abbrev types : List «Type»
  types = earlier.types.now

  abbrev others : List «Type»
  others = later.types.now

  fewer : length types ≤ length others
  fewer = omega (arith, ap length grows.types, length-take (length types) others)

  agree : (position : ℕ) → position < length types → slice_get types position ≡ slice_get others position
  agree position lt = ap (λ ts. slice_get ts position) (sym grows.types) ∙ get_taken (length types) others position lt

  same_count : (size : ArraySize) → IsCountInRange earlier size → array_count earlier size ≡ array_count later size
  same_count (Pending handle) ranged = ap (λ r. result_unwrap_or r 0) (sym (grows.sizes handle (ranged.0)))
  same_count size ranged = refl

  -- a size depends only on override values
  same_size : (inner : TypeInner) → IsTypeSizeInRange earlier inner → size_of_type earlier inner ≡ size_of_type later inner
  same_size (Array base size stride) ranged = ap (λ n. array_bytes n stride) (same_count size ranged)
  same_size inner ranged = refl

  module _ (ranged : AreTypeSizesInRange earlier) (layouts : List TypeLayout) (stored : AreFirstLayouts earlier layouts) where
    same_at : (position : ℕ) (type : «Type») → slice_get types position ≡ Some type →
        size_of_type earlier type.inner ≡ size_of_type later type.inner
    same_at position type at = same_size type.inner (size_in_range earlier ranged position type at)

    still_there : (position : ℕ) (type : «Type») → position < length layouts → slice_get types position ≡ Some type →
        slice_get others position ≡ Some type
    still_there position type lt at = sym (agree position (omega (arith, within earlier layouts stored))) ∙ at

    same_fault : (position : ℕ) → position < length layouts → fault_at earlier position ≡ fault_at later position
    same_fault position lt =
        let at = found types position (omega (arith, within earlier layouts stored)) in
        at_position earlier position (at.0) (at.1)
        ∙ ap (λ size. Some (sized_fault size position (at.0).inner)) (same_at position (at.0) (at.1))
        ∙ sym (at_position later position (at.0) (still_there position (at.0) lt (at.1)))

    same_layout : (position : ℕ) (type : «Type») → position < length layouts → slice_get types position ≡ Some type
        → layout_of earlier (tree_of types type.inner) ≡ layout_of later (tree_of others type.inner)
    unfolding tree_within
    same_layout position type lt at =
        let size = same_at position type at in
        let alignment = same_alignment types others (length layouts) (λ p less. agree p (omega (arith, within earlier layouts stored)))
        (sound earlier layouts stored) position type.inner (omega arith) (omega (arith, within earlier layouts stored))
        (omega (arith, within earlier layouts stored, fewer)) (sound earlier layouts stored position type lt at) in
        λ i. let layout : TypeLayout = record { size = unwrap_or (size i) 0; alignment = alignment i } in layout

    composed : AreFirstLayouts later layouts
    composed = record {
      first = stored.first ∙ take_alike (λ (t : «Type»). layout_of earlier (tree_of types t.inner))
          (λ (t : «Type»). layout_of later (tree_of others t.inner))
          (length layouts) types others (within earlier layouts stored)
          (λ position type lt at. (still_there position type lt at, same_layout position type lt at));
      faultless = λ position first lt. sym (same_fault position lt) ∙ stored.faultless position first lt;
    }

-- an empty list is the layouts of the first types
none_stored : (ctx : GlobalCtx) → AreFirstLayouts ctx []
none_stored ctx = record { first = refl; faultless = λ position first lt. absurd (omega arith) }

-- updates that start from layouts of the first types leave those of all types
whole_from : (stored : List TypeLayout) (first : Updated) (later : List Updated) → AreFirstLayouts first.0 stored →
    IsUpdated first.0 stored first.1
    → AreUpdates first later → (last_of first later).1 ≡ layouts_of (last_of first later).0
whole_from stored first [] fine updated rest = updated.all fine
whole_from stored first (next ∷ later) fine updated rest =
    whole_from first.1 next later (composed first.0 next.0 rest.0 updated.ranged first.1 (updated.laid_out fine)) rest.1 rest.2

pub updates_compose : UpdatesCompose
updates_compose first later began updates =
    let whole = whole_from [] first later (none_stored first.0) began updates in
    record {
      whole = whole;
      single = λ once updated. whole ∙ sym (updated.all (none_stored (last_of first later).0));
    }

-- a layout error implies a type
fault_within : (ctx : GlobalCtx) (position : ℕ) (fault : Option LayoutErrorInner) → fault_at ctx position ≡ Some fault →
    position < length ctx.types.now
fault_within ctx position fault is = by (cases_lt position (length ctx.types.now))
  where
    by : (position < length ctx.types.now) ⊎ (length ctx.types.now ≤ position) → position < length ctx.types.now
    by (inl less) = less
    by (inr past) =
        let none = ap (λ o. option_map (λ (t : «Type»). layout_fault ctx position t.inner) o)
        (slice_get_past ctx.types.now position past) in
        absurd (cc)

pub refusals_repeat : RefusalsRepeat
refusals_repeat ctx stored new error refused retained faultless =
    let same = whole (cases_lt (length stored) (length new)) in
    let count : length new ≡ length stored = ap length same in
    record {
      unchanged = same;
      unfinished = rw count (fault_within ctx (length stored) (Some error.inner) (refused.1));
      alike = again count;
    }
  where
    whole : (length stored < length new) ⊎ (length new ≤ length stored) → new ≡ stored
    whole (inl more) = let fine = faultless (length stored) (omega arith) more in let fault = refused.1 in absurd (cc)
    whole (inr le) = sym (take_whole (length stored) new le) ∙ retained

    again : length new ≡ length stored → (other : UpdateError) → IsRefusalAt ctx (length new) other → other ≡ Layout error
    again count (Layout other) refused' =
        let fault : fault_at ctx (length stored) ≡ Some (Some other.inner) = rw (sym count) (refused'.1) in
        let fault' = refused.1 in
        let ty : other.ty ≡ error.ty = refused'.0 ∙ count ∙ sym (refused.0) in
        let inner : other.inner ≡ error.inner = cc in
        λ i. Layout (let e : LayoutError = record { ty = ty i; inner = inner i } in e)
    again count OutOfMemory refused' =
        let fine : fault_at ctx (length stored) ≡ Some None = rw (sym count) refused' in
        let fault = refused.1 in
        absurd (cc)

-- Layouts over those of earlier types.
use Rattle.std.proofs.Common.{◌≡◌, ◌∙◌, ◌↔◌, All, get_or, ap, sym, refl, subst, ℕ, zero, suc, ◌+◌, ◌-◌, ◌<◌, ◌≤◌}
use Rattle.std.proofs.Common.{nat_lt, max, List, [], ◌∷◌, ◌++◌, drop, length, map, slice_get, take, Option, Some}
use Rattle.std.proofs.Common.{None, Ok, if◌then◌else◌, unwrap_or, ◌⊎◌, inl, inr, arith, rules, length-append}
use Rattle.std.specs.Option.{option_map}
use Rattle.std.proofs.lemmas.Bool.{cases_lt}
use Rattle.std.proofs.lemmas.List.{drop_all, get_or-drop, get_or_append_left, length-drop}
use Rattle.std.proofs.lemmas.List.{length-map, length-take, take-append-le, take_more}
use Rattle.std.proofs.lemmas.List.Elements.{All-cons, All-head, All-nil, All-tail}
use Rattle.std.proofs.lemmas.Option.{slice_get_within, slice_get-get_or, slice_get-map, get_or_from_slice_get}
use Rattle.std.proofs.Math.Seq.{get_or-append_seam, take-append_seam}
use Rattle.shader_ir.specs.StoredLayouts.{AreLaidOver, faulty_or, greatest_stored, stored_alignment, stored_layout, stored_of, sized_layout}
use Rattle.shader_ir.specs.Layout.{alignment_of, greatest_of, member_fault, part_fault, layout_fault, sized_fault}
use Rattle.shader_ir.specs.Layout.{fault_at, layout_of, layouts_of, size_of_type, AreFaultless, AreFirstLayouts}
use Rattle.shader_ir.specs.Sizes.{AreTypeSizesInRange, AreTypeSizesInRangeFrom, IsTypeSizeInRange}
use Rattle.shader_ir.specs.TypeTree.{type_handles, TypeTree, TypeTrees, Node, NoTree, put_tree, trees_at, tree_within, tree_of}
use Rattle.shader_ir.specs.declared.proc.layouter.LayoutErrorInner.{LayoutErrorInner}
use Rattle.shader_ir.specs.declared.proc.layouter.LayoutErrorInner.TheVariants.{InvalidArrayElementType}
use Rattle.shader_ir.specs.declared.proc.layouter.TypeLayout.{TypeLayout}
use Rattle.shader_ir.specs.declared.module.GlobalCtx.{GlobalCtx}
use Rattle.shader_ir.specs.declared.types.«Type».{«Type»}
use Rattle.shader_ir.specs.declared.types.StructMember.{StructMember}
use Rattle.shader_ir.specs.declared.types.TypeInner.{TypeInner}
use Rattle.shader_ir.specs.declared.types.TypeInner.TheVariants.{Array, Struct}

-- the greatest of the members' alignments is at least 1
pub greatest_stored_positive : (layouts : List TypeLayout) (members : List StructMember) → 1 ≤ greatest_stored layouts members
greatest_stored_positive layouts [] = omega arith
greatest_stored_positive layouts (member ∷ members) = omega (arith, greatest_stored_positive layouts members)

-- a base without error is earlier
base_earlier : (position base : ℕ) → (if nat_lt base position then None else Some (InvalidArrayElementType base)) ≡ None → base < position
base_earlier position base fine = search (rules, fine)

-- the types of members without error are earlier
members_earlier : (position index : ℕ) (member : StructMember) (members : List StructMember)
    → member_fault position index (member ∷ members) ≡ None → (member.ty < position) × (member_fault position (index + 1) members ≡ None)
members_earlier position index member members fine = search (rules, fine)

abbrev ty_of : StructMember → ℕ
ty_of member = member.ty

abbrev over : List «Type» → (TypeInner → TypeTree) → List StructMember → TypeTrees
over types f members = trees_at f types (map ty_of members)

-- two lists that have the same types below a bound, where no type has an error
module _ (types others : List «Type») (bound : ℕ) (agree : (position : ℕ) → position < bound →
    slice_get types position ≡ slice_get others position) where
  -- f and g give the types below a position equal alignments
  abbrev AreAlike : (TypeInner → ℕ) → (TypeInner → ℕ) → ℕ → Type 0
  AreAlike f g position = (handle : ℕ) (type : «Type») → handle < position → slice_get types handle ≡ Some type →
      f type.inner ≡ g type.inner

  greatest_alike : (f g : TypeInner → TypeTree) (position : ℕ) → position ≤ bound →
      AreAlike (λ inner. alignment_of (f inner)) (λ inner. alignment_of (g inner)) position
      → (index : ℕ) (members : List StructMember) → member_fault position index members ≡ None
      → greatest_of (over types f members) ≡ greatest_of (over others g members)
  greatest_alike f g position within alike index [] fine = refl
  greatest_alike f g position within alike index (member ∷ members) fine =
      let earlier = members_earlier position index member members fine in
      by (earlier.0) (greatest_alike f g position within alike (index + 1) members (earlier.1)) (slice_get types member.ty) refl
    where
      by : member.ty < position → greatest_of (over types f members) ≡ greatest_of (over others g members) → (o : Option «Type») →
          slice_get types member.ty ≡ o
          → greatest_of (put_tree f (slice_get types member.ty) (over types f members))
          ≡ greatest_of (put_tree g (slice_get others member.ty) (over others g members))
      by lt tail None e = rw (sym (agree member.ty (omega arith)), e) tail
      by lt tail (Some type) e = rw (sym (agree member.ty (omega arith)), e) (λ i. max (alike member.ty type lt e i) (tail i))

  -- f and g then give a type at the position equal alignments
  alignment_alike : (f g : TypeInner → TypeTree) (position : ℕ) → position ≤ bound →
      AreAlike (λ inner. alignment_of (f inner)) (λ inner. alignment_of (g inner)) position
      → (inner : TypeInner) → part_fault position inner ≡ None
      → alignment_of (Node inner (trees_at f types (type_handles inner)))
      ≡ alignment_of (Node inner (trees_at g others (type_handles inner)))
  alignment_alike f g position within alike (Struct span members) fine = greatest_alike f g position within alike 0 members fine
  alignment_alike f g position within alike (Array base size stride) fine = by (base_earlier position base fine) (slice_get types base) refl
    where
      by : base < position → (o : Option «Type») → slice_get types base ≡ o
          → alignment_of (Node (Array base size stride) (put_tree f (slice_get types base) NoTree))
          ≡ alignment_of (Node (Array base size stride) (put_tree g (slice_get others base) NoTree))
      by lt None e = rw (sym (agree base (omega arith)), e) refl
      by lt (Some type) e = rw (sym (agree base (omega arith)), e) (alike base type lt e)
  alignment_alike f g position within alike inner fine = refl

  module _ (sound : (position : ℕ) (type : «Type») → position < bound → slice_get types position ≡ Some type →
      part_fault position type.inner ≡ None) where
    -- any depth from the position on gives the same alignment
    enough : (m n position : ℕ) (inner : TypeInner) → position ≤ m → position ≤ n → position ≤ bound → part_fault position inner ≡ None
        → alignment_of (tree_within (suc m) types inner) ≡ alignment_of (tree_within (suc n) others inner)
    unfolding tree_within
    enough zero n position inner le le' within fine =
        alignment_alike (tree_within zero types) (tree_within n others) position within (λ handle type lt at. absurd (omega arith)) inner
        fine
    enough (suc m) zero position inner le le' within fine =
        alignment_alike (tree_within (suc m) types) (tree_within zero others) position within
        (λ handle type lt at. absurd (omega arith)) inner fine
    enough (suc m) (suc n) position inner le le' within fine =
        alignment_alike (tree_within (suc m) types) (tree_within (suc n) others) position within
        (λ handle type lt at. enough m n handle type.inner (omega arith) (omega arith) (omega arith)
        (sound handle type (omega arith) at)) inner fine

    -- a type without error has one alignment among either's types
    pub same_alignment : (position : ℕ) (inner : TypeInner) → position ≤ bound → position ≤ length types → position ≤ length others →
        part_fault position inner ≡ None
        → alignment_of (tree_of types inner) ≡ alignment_of (tree_of others inner)
    unfolding tree_within
    same_alignment position inner within le le' fine = enough (length types) (length others) position inner le le' within fine

-- a type with a stored layout has in a tree the alignment that it has alone
child_alike : (types : List «Type») (bound : ℕ) →
    ((position : ℕ) (type : «Type») → position < bound → slice_get types position ≡ Some type →
    part_fault position type.inner ≡ None)
    → (position : ℕ) (type : «Type») → position < bound → slice_get types position ≡ Some type
    → alignment_of (tree_within (length types) types type.inner) ≡ alignment_of (tree_of types type.inner)
unfolding tree_within
child_alike types bound sound position type lt at = by (length types) refl (slice_get_within types position type at)
  where
    by : (n : ℕ) → length types ≡ n → position < n → alignment_of (tree_within (length types) types type.inner)
        ≡ alignment_of (tree_within (suc (length types)) types type.inner)
    by zero e less = absurd (omega arith)
    by (suc n) e less =
        subst (λ m. alignment_of (tree_within m types type.inner) ≡ alignment_of (tree_within (suc m) types type.inner)) (sym e)
        (enough types types bound (λ _ _. refl) sound n (suc n) position type.inner (omega arith) (omega arith) (omega arith)
        (sound position type lt at))

-- a type with a layout has a size and no error
sized_parts : (size : Option ℕ) (position : ℕ) (inner : TypeInner) → sized_fault size position inner ≡ None →
    part_fault position inner ≡ None
sized_parts None position inner fine = absurd (cc)
sized_parts (Some size) position inner fine = fine

pub found : {T : Type 0} → (xs : List T) (position : ℕ) → position < length xs → (x : T) × (slice_get xs position ≡ Some x)
found [] position lt = absurd (omega arith)
found (x ∷ xs) zero lt = (x, refl)
found (x ∷ xs) (suc position) lt = found xs position (omega arith)

pub get_taken : {T : Type 0} → (n : ℕ) (xs : List T) (position : ℕ) → position < n → slice_get (take n xs) position ≡ slice_get xs position
get_taken zero xs position lt = absurd (omega arith)
get_taken (suc n) [] position lt = refl
get_taken (suc n) (x ∷ xs) zero lt = refl
get_taken (suc n) (x ∷ xs) (suc position) lt = get_taken n xs position (omega arith)

pub take_whole : {T : Type 0} → (n : ℕ) (xs : List T) → length xs ≤ n → take n xs ≡ xs
take_whole zero [] le = refl
take_whole zero (x ∷ xs) le = absurd (omega arith)
take_whole (suc n) [] le = refl
take_whole (suc n) (x ∷ xs) le = ap (λ ys. x ∷ ys) (take_whole n xs (omega arith))

-- the check of all types implies that of each
pub size_in_range : (ctx : GlobalCtx) → AreTypeSizesInRange ctx → (position : ℕ) (type : «Type») →
    slice_get ctx.types.now position ≡ Some type
    → IsTypeSizeInRange ctx type.inner
size_in_range ctx all position type at =
    let is = get_or_from_slice_get ctx.types.now position type type at in
    subst (λ (t : «Type»). IsTypeSizeInRange ctx t.inner) is (all position type (slice_get_within ctx.types.now position type at))

-- the check of the types from a position on implies that of each of them
pub size_in_range_from : (ctx : GlobalCtx) (first : ℕ) → AreTypeSizesInRangeFrom ctx first → (position : ℕ) (type : «Type») →
    first ≤ position
    → slice_get ctx.types.now position ≡ Some type → IsTypeSizeInRange ctx type.inner
size_in_range_from ctx first all position type le at =
    let types = ctx.types.now in
    let is = get_or_from_slice_get types position type type at in
    let lt = slice_get_within types position type at in
    let there : position - first < length (drop first types) = omega (arith, length-drop first types) in
    let same : first + (position - first) ≡ position = omega arith in
    subst (λ (t : «Type»). IsTypeSizeInRange ctx t.inner)
    (get_or-drop first types (position - first) type ∙ ap (λ k. get_or types k type) same ∙ is)
    (all (position - first) type there)

-- the items from a position on are the item there and those after it
drop_next : {X : Type 0} → (n : ℕ) (xs : List X) (x : X) → slice_get xs n ≡ Some x → drop n xs ≡ x ∷ drop (suc n) xs
drop_next zero [] x at = absurd (cc)
drop_next zero (y ∷ xs) x at = let same : y ≡ x = cc in ap (λ z. z ∷ xs) same
drop_next (suc n) [] x at = absurd (cc)
drop_next (suc n) (y ∷ xs) x at = drop_next n xs x at

module _ (ctx : GlobalCtx) where
  abbrev SizeFits : «Type» → Type 0
  SizeFits type = IsTypeSizeInRange ctx type.inner

  -- the types from a position on pass the check if the next one and the rest do
  pub sizes_from : (position : ℕ) (type : «Type») → slice_get ctx.types.now position ≡ Some type
      → AreTypeSizesInRangeFrom ctx position ↔ (SizeFits type × AreTypeSizesInRangeFrom ctx (position + 1))
  sizes_from position type at =
      let types = ctx.types.now in
      let next : suc position ≡ position + 1 = omega arith in
      let split : drop position types ≡ type ∷ drop (position + 1) types = drop_next position types type at
      ∙ ap (λ k. type ∷ drop k types) next in (
        (λ all. let whole = subst (All SizeFits) split all in
            (All-head SizeFits type (drop (position + 1) types) whole, All-tail SizeFits type (drop (position + 1) types) whole)),
        (λ both. subst (All SizeFits) (sym split) (All-cons SizeFits type (drop (position + 1) types) both.0 both.1)),
      )

  -- an empty rest of types passes the check
  pub no_sizes_from : (position : ℕ) → length ctx.types.now ≤ position → AreTypeSizesInRangeFrom ctx position
  no_sizes_from position le = subst (All SizeFits) (sym (drop_all position ctx.types.now le)) (All-nil SizeFits)

module _ (ctx : GlobalCtx) where
  abbrev types : List «Type»
  types = ctx.types.now

  -- one more layout over those before it
  pub added_more : (first : ℕ) (layouts : List TypeLayout) (type : «Type») (layout : TypeLayout) → AreLaidOver ctx first layouts
      → slice_get types (length layouts) ≡ Some type → stored_layout ctx layouts (length layouts) type.inner ≡ Ok layout
      → AreLaidOver ctx first (layouts ++ layout ∷ [])
  added_more first layouts type layout before at is position other sort le stored there = by (cases_lt position (length layouts))
    where
      by : (position < length layouts) ⊎ (length layouts ≤ position) →
          stored_layout ctx (take position (layouts ++ layout ∷ [])) position sort.inner ≡ Ok other
      by (inl less) =
          let here = slice_get-get_or layouts position other less in
          let same : get_or layouts position other ≡ other =
          sym (get_or_append_left layouts (layout ∷ []) other position less)
          ∙ get_or_from_slice_get (layouts ++ layout ∷ []) position other other stored in
          rw (take-append-le position layouts (layout ∷ []) (omega arith)) (before position other sort le (here ∙ ap Some same) there)
      by (inr more) =
          let longer : length (layouts ++ layout ∷ []) ≡ length layouts + 1 = length-append layouts (layout ∷ []) in
          let last : position ≡ length layouts = omega (arith, longer, slice_get_within (layouts ++ layout ∷ []) position other stored) in
          let stored' : slice_get (layouts ++ layout ∷ []) (length layouts) ≡ Some other =
          subst (λ n. slice_get (layouts ++ layout ∷ []) n ≡ Some other) last stored in
          let there' : slice_get types (length layouts) ≡ Some sort = subst (λ n. slice_get types n ≡ Some sort) last there in
          let one : other ≡ layout =
          sym (get_or_from_slice_get (layouts ++ layout ∷ []) (length layouts) other other stored')
          ∙ get_or-append_seam layouts layout [] other in
          let sorts : type ≡ sort = cc in
          rw (last, take-append_seam layouts (layout ∷ []), one, sym sorts) is

  -- one more type without error
  pub faultless_more : (first end next : ℕ) → next ≡ end + 1 → AreFaultless ctx first end → fault_at ctx end ≡ Some None →
      AreFaultless ctx first next
  faultless_more first end next is before here position le lt = by (cases_lt position end)
    where
      by : (position < end) ⊎ (end ≤ position) → fault_at ctx position ≡ Some None
      by (inl less) = before position le less
      by (inr more) = let same : position ≡ end = omega arith in rw same here

  -- the error at a position is that of its type
  pub at_position : (position : ℕ) (type : «Type») → slice_get types position ≡ Some type →
      fault_at ctx position ≡ Some (layout_fault ctx position type.inner)
  at_position position type at = ap (λ o. option_map (λ (t : «Type»). layout_fault ctx position t.inner) o) at

  abbrev layout_in : TypeInner → TypeLayout
  layout_in inner = layout_of ctx (tree_of types inner)

  layout_at : (position : ℕ) (type : «Type») → slice_get types position ≡ Some type →
      slice_get (layouts_of ctx) position ≡ Some (layout_in type.inner)
  layout_at position type at = slice_get-map (λ (t : «Type»). layout_in t.inner) types position
      ∙ ap (λ o. option_map (λ (t : «Type»). layout_in t.inner) o) at

  count_of_layouts : length (layouts_of ctx) ≡ length types
  count_of_layouts = length-map types (λ (t : «Type»). layout_in t.inner)

  module _ (layouts : List TypeLayout) where
    -- a computed layout implies a size and no error
    built : (size : Option ℕ) (position : ℕ) (inner : TypeInner) (layout : TypeLayout) →
        sized_layout size layouts position inner ≡ Ok layout
        → (sized_fault size position inner ≡ None)
        × (layout ≡ record { size = unwrap_or size 0; alignment = stored_alignment layouts inner })
    built None position inner layout is = absurd (cc)
    built (Some size) position inner layout is = by (part_fault position inner) is
      where
        by : (fault : Option LayoutErrorInner) → faulty_or fault
            (record { size = size; alignment = stored_alignment layouts inner }) ≡ Ok layout
            → (fault ≡ None) × (layout ≡ record { size = size; alignment = stored_alignment layouts inner })
        by None e = (refl, cc)
        by (Some fault) e = absurd (cc)

    -- the type of a computed layout therefore has no error
    pub built_faultless : (position : ℕ) (type : «Type») (layout : TypeLayout) → slice_get types position ≡ Some type
        → stored_layout ctx layouts position type.inner ≡ Ok layout → fault_at ctx position ≡ Some None
    built_faultless position type layout at is = at_position position type at
        ∙ ap Some ((built (size_of_type ctx type.inner) position type.inner layout is).0)

    module _ (stored : AreFirstLayouts ctx layouts) where
      pub within : length layouts ≤ length types
      within = omega (arith, ap length stored.first, length-take (length layouts) (layouts_of ctx), count_of_layouts)

      pub sound : (position : ℕ) (type : «Type») → position < length layouts → slice_get types position ≡ Some type →
          part_fault position type.inner ≡ None
      sound position type lt at =
          let fine = stored.faultless position (omega arith) lt in
          let at' = at_position position type at in
          let none : layout_fault ctx position type.inner ≡ None = cc in
          sized_parts (size_of_type ctx type.inner) position type.inner none

      laid_out : (position : ℕ) (type : «Type») → position < length layouts → slice_get types position ≡ Some type →
          slice_get layouts position ≡ Some (layout_in type.inner)
      laid_out position type lt at =
          ap (λ ls. slice_get ls position) stored.first ∙ get_taken (length layouts) (layouts_of ctx) position lt
          ∙ layout_at position type at

      -- once all types are laid out, these are all layouts
      pub all_layouts : length types ≤ length layouts → layouts ≡ layouts_of ctx
      all_layouts whole = stored.first ∙ take_whole (length layouts) (layouts_of ctx) (omega (arith, count_of_layouts))

      child_is : (position : ℕ) (type : «Type») → position < length layouts → slice_get types position ≡ Some type
          → stored_of (slice_get layouts position) ≡ alignment_of (tree_within (length types) types type.inner)
      child_is position type lt at =
          ap stored_of (laid_out position type lt at) ∙ sym (child_alike types (length layouts) sound position type lt at)

      greatest_is : (index : ℕ) (members : List StructMember) → member_fault (length layouts) index members ≡ None
          → greatest_stored layouts members ≡ greatest_of (over types (tree_within (length types) types) members)
      greatest_is index [] fine = refl
      greatest_is index (member ∷ members) fine =
          let earlier = members_earlier (length layouts) index member members fine in
          let at = found types member.ty (omega (arith, within)) in
          let head = child_is member.ty (at.0) (earlier.0) (at.1) in
          let tail = greatest_is (index + 1) members (earlier.1) in
          rw (at.1) (λ i. max (head i) (tail i))

      -- over stored layouts a type has the alignment of its tree
      stored_is : (inner : TypeInner) → part_fault (length layouts) inner ≡ None →
          stored_alignment layouts inner ≡ alignment_of (tree_of types inner)
      unfolding tree_within
      stored_is (Struct span members) fine = greatest_is 0 members fine
      stored_is (Array base size stride) fine =
          let lt = base_earlier (length layouts) base fine in
          let at = found types base (omega (arith, within)) in
          rw (at.1) (child_is base (at.0) lt (at.1))
      stored_is inner fine = refl

      built_is : (inner : TypeInner) (layout : TypeLayout) → part_fault (length layouts) inner ≡ None
          → layout ≡ record { size = unwrap_or (size_of_type ctx inner) 0; alignment = stored_alignment layouts inner } →
          layout ≡ layout_in inner
      unfolding tree_within
      built_is inner layout fine is =
          is ∙ ap (λ (n : ℕ). let l : TypeLayout = record { size = unwrap_or (size_of_type ctx inner) 0; alignment = n } in
          l) (stored_is inner fine)

      -- one more layout
      pub one_more : (type : «Type») (layout : TypeLayout) → slice_get types (length layouts) ≡ Some type
          → stored_layout ctx layouts (length layouts) type.inner ≡ Ok layout → AreFirstLayouts ctx (layouts ++ layout ∷ [])
      one_more type layout at is =
          let parts = built (size_of_type ctx type.inner) (length layouts) type.inner layout is in
          let whole = built_is type.inner layout (sized_parts (size_of_type ctx type.inner) (length layouts) type.inner
          (parts.0)) (parts.1) in
          let here = layout_at (length layouts) type at in
          let lt = slice_get_within types (length layouts) type at in
          let last = get_or_from_slice_get (layouts_of ctx) (length layouts) (layout_in type.inner) layout here in
          let longer : length (layouts ++ layout ∷ []) ≡ length layouts + 1 = length-append layouts (layout ∷ []) in
          record {
            first =
                (λ i. stored.first i ++ (whole ∙ sym last) i ∷ [])
                ∙ sym (take_more (layouts_of ctx) (length layouts) layout (omega (arith, count_of_layouts)))
                ∙ ap (λ n. take n (layouts_of ctx)) (sym longer);
            faultless = faultless_more 0 (length layouts) _ longer stored.faultless (built_faultless (length layouts) type layout at is);
          }

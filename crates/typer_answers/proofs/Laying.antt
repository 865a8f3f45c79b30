-- A spelled type in an arena of its own, and its layout there.
use Rattle.std.proofs.Common.{◌≡◌, ℕ, zero, suc, ◌≤◌, ◌∙◌, List, [], ◌∷◌, Option, Some, None, length, map, refl, sym, subst, ap, arith}
use Rattle.std.specs.Prelude.{All, slice_get}
use Rattle.std.specs.Option.{option_map, option_or}
use Rattle.std.proofs.lemmas.List.Elements.{All-cons, All-nil}
use Rattle.std.proofs.lemmas.Option.{same_Some}
use Rattle.shader_arena.specs.Unique.{position_of, with_item}
use Rattle.shader_ir.specs.Layout.{AreFaultless, AreFirstLayouts, IsRefusalAt, fault_at, layout_fault, layout_of, layouts_of}
use Rattle.shader_ir.specs.Sizes.{AreTypeSizesInRange, IsTypeSizeInRange}
use Rattle.shader_ir.specs.TypeTree.{tree_of}
use Rattle.shader_ir.specs.contracts.types.TypePartialEq.TheImpl as type
use Rattle.shader_ir.specs.declared.module.GlobalCtx.{GlobalCtx}
use Rattle.shader_ir.specs.declared.proc.layouter.LayoutError.{LayoutError}
use Rattle.shader_ir.specs.declared.proc.layouter.LayoutErrorInner.{LayoutErrorInner}
use Rattle.shader_ir.specs.declared.proc.layouter.TypeLayout.{TypeLayout}
use Rattle.shader_ir.specs.declared.proc.layouter.UpdateError.{UpdateError}
use Rattle.shader_ir.specs.declared.proc.layouter.UpdateError.TheVariants.{Layout}
use Rattle.shader_ir.specs.declared.types.«Type».{«Type»}
use Rattle.shader_ir.specs.declared.types.TypeInner.{TypeInner}
use Rattle.shader_type_text.specs.declared.types.PlainType.{PlainType}
use Rattle.shader_type_text.specs.declared.types.PlainType.TheVariants.{Scalar, Vector, Matrix}
use Rattle.shader_type_text.specs.declared.types.SpelledType.{SpelledType}
use Rattle.shader_type_text.specs.declared.types.SpelledType.TheVariants.{Plain, Array}
use Rattle.shader_type_text.specs.Insertions.{own_inner, own_types, unnamed}
use Rattle.shader_type_text.specs.Types.{plain_inner}
use Rattle.typer_answers.specs.Layouts.{context, first_fault, laid_types, layout_in, layout_of_spelled, layout_unless}

abbrev pub last_position : SpelledType → ℕ
last_position spelled = length (own_types spelled)

-- no base equals the array
type_added : (spelled : SpelledType) → with_item type.ghosts.eq (own_types spelled) (unnamed (own_inner spelled)) ≡ laid_types spelled
type_added (Plain plain) = refl
type_added (Array (Scalar scalar) count stride) = refl
type_added (Array (Vector size scalar) count stride) = refl
type_added (Array (Matrix columns rows scalar) count stride) = refl

type_last : (spelled : SpelledType) → position_of type.ghosts.eq (own_types spelled) (unnamed (own_inner spelled)) ≡ last_position spelled
type_last (Plain plain) = refl
type_last (Array (Scalar scalar) count stride) = refl
type_last (Array (Vector size scalar) count stride) = refl
type_last (Array (Matrix columns rows scalar) count stride) = refl

-- a type that was put into an empty arena, its base first
pub types_laid : (spelled : SpelledType) (old new : List «Type») (inner : TypeInner) → old ≡ own_types spelled → inner ≡ own_inner spelled
    → new ≡ with_item type.ghosts.eq old (unnamed inner) → new ≡ laid_types spelled
types_laid spelled old new inner in_arena is added =
    added
    ∙ ap (λ ts. with_item type.ghosts.eq ts (unnamed inner)) in_arena
    ∙ ap (λ i. with_item type.ghosts.eq (own_types spelled) (unnamed i)) is
    ∙ type_added spelled

pub position_laid : (spelled : SpelledType) (old : List «Type») (inner : TypeInner) (position : ℕ) → old ≡ own_types spelled →
    inner ≡ own_inner spelled
    → position ≡ position_of type.ghosts.eq old (unnamed inner) → position ≡ last_position spelled
position_laid spelled old inner position in_arena is at =
    at
    ∙ ap (λ ts. position_of type.ghosts.eq ts (unnamed inner)) in_arena
    ∙ ap (λ i. position_of type.ghosts.eq (own_types spelled) (unnamed i)) is
    ∙ type_last spelled

-- ---- sizes don't depend on the module's overrides

plain_in_range : (ctx : GlobalCtx) (plain : PlainType) → IsTypeSizeInRange ctx (plain_inner plain)
plain_in_range ctx (Scalar scalar) = tt
plain_in_range ctx (Vector size scalar) = tt
plain_in_range ctx (Matrix columns rows scalar) = tt

abbrev InRange : GlobalCtx → «Type» → Type 0
InRange ctx t = IsTypeSizeInRange ctx t.inner

laid_in_range : (ctx : GlobalCtx) (spelled : SpelledType) → All (InRange ctx) (laid_types spelled)
laid_in_range ctx (Plain plain) = All-cons (InRange ctx) (unnamed (plain_inner plain)) [] (plain_in_range ctx plain) (All-nil (InRange ctx))
laid_in_range ctx (Array base count stride) =
    let array = unnamed (own_inner (Array base count stride)) in
    All-cons (InRange ctx) (unnamed (plain_inner base)) (array ∷ []) (plain_in_range ctx base)
    (All-cons (InRange ctx) array [] tt (All-nil (InRange ctx)))

pub sizes_in_range : (ctx : GlobalCtx) (spelled : SpelledType) → ctx.types.now ≡ laid_types spelled → AreTypeSizesInRange ctx
sizes_in_range ctx spelled is = subst (All (InRange ctx)) (sym is) (laid_in_range ctx spelled)

-- ---- arenas with the same types agree

types_counted : (spelled : SpelledType) → length (laid_types spelled) ≡ suc (last_position spelled)
types_counted (Plain plain) = refl
types_counted (Array base count stride) = refl

fault_same : (a b : GlobalCtx) (position : ℕ) (plain : PlainType) →
    layout_fault a position (plain_inner plain) ≡ layout_fault b position (plain_inner plain)
fault_same a b position (Scalar scalar) = refl
fault_same a b position (Vector size scalar) = refl
fault_same a b position (Matrix columns rows scalar) = refl

faults_same : (a b : GlobalCtx) (spelled : SpelledType) → first_fault a 0 (laid_types spelled) ≡ first_fault b 0 (laid_types spelled)
faults_same a b (Plain plain) = ap (λ fault. option_or fault None) (fault_same a b 0 plain)
faults_same a b (Array base count stride) =
    ap (λ fault. option_or fault (first_fault a 1 (unnamed (own_inner (Array base count stride)) ∷ []))) (fault_same a b 0 base)

layout_same : (a b : GlobalCtx) (spelled : SpelledType) →
    layout_of a (tree_of (laid_types spelled) (own_inner spelled)) ≡ layout_of b (tree_of (laid_types spelled) (own_inner spelled))
layout_same a b (Plain (Scalar scalar)) = refl
layout_same a b (Plain (Vector size scalar)) = refl
layout_same a b (Plain (Matrix columns rows scalar)) = refl
layout_same a b (Array base count stride) = refl

in_same : (a b : GlobalCtx) (spelled : SpelledType) → layout_in a spelled ≡ layout_in b spelled
in_same a b spelled =
    ap (λ fault. layout_unless fault (layout_of a (tree_of (laid_types spelled) (own_inner spelled)))) (faults_same a b spelled)
    ∙ ap (layout_unless (first_fault b 0 (laid_types spelled))) (layout_same a b spelled)

-- ---- layout errors

-- the layout error of the type at a position of an arena
abbrev fault_in : GlobalCtx → List «Type» → ℕ → Option (Option LayoutErrorInner)
fault_in ctx types position = option_map (λ (t : «Type»). layout_fault ctx position t.inner) (slice_get types position)

fault_is : (ctx : GlobalCtx) (types : List «Type») (position : ℕ) (fault : Option (Option LayoutErrorInner)) → ctx.types.now ≡ types
    → fault_at ctx position ≡ fault → fault_in ctx types position ≡ fault
fault_is ctx types position fault is at = sym (ap (λ ts. fault_in ctx ts position) is) ∙ at

no_fault : (ctx : GlobalCtx) (spelled : SpelledType) → ctx.types.now ≡ laid_types spelled → AreFaultless ctx 0 (suc (last_position spelled))
    → first_fault ctx 0 (laid_types spelled) ≡ None
no_fault ctx (Plain plain) is faultless =
    let first = same_Some _ _ (fault_is ctx (laid_types (Plain plain)) 0 (Some None) is (faultless 0 (omega arith) (omega arith))) in
    ap (λ fault. option_or fault None) first
no_fault ctx (Array base count stride) is faultless =
    let types = laid_types (Array base count stride) in
    let first = same_Some _ _ (fault_is ctx types 0 (Some None) is (faultless 0 (omega arith) (omega arith))) in
    let last = same_Some _ _ (fault_is ctx types 1 (Some None) is (faultless 1 (omega arith) (omega arith))) in
    ap (λ fault. option_or fault (first_fault ctx 1 (unnamed (own_inner (Array base count stride)) ∷ []))) first
    ∙ ap (λ fault. option_or fault None) last

-- ---- layouts

pub no_layouts : (ctx : GlobalCtx) (layouts : List TypeLayout) → layouts ≡ [] → AreFirstLayouts ctx layouts
no_layouts ctx layouts none =
    subst (AreFirstLayouts ctx) (sym none) (record { first = refl; faultless = λ position above below. absurd (omega arith) })

-- the layouts of the types of an arena
abbrev layouts_in : GlobalCtx → List «Type» → List TypeLayout
layouts_in ctx types = map (λ (t : «Type»). layout_of ctx (tree_of types t.inner)) types

layout_last : (ctx : GlobalCtx) (spelled : SpelledType) →
    slice_get (layouts_in ctx (laid_types spelled)) (last_position spelled)
    ≡ Some (layout_of ctx (tree_of (laid_types spelled) (own_inner spelled)))
layout_last ctx (Plain plain) = refl
layout_last ctx (Array base count stride) = refl

-- the layout that an update computes for a type after its base is the type's
pub layout_is : (ctx : GlobalCtx) (spelled : SpelledType) (first : ℕ) (layouts : List TypeLayout) (layout : TypeLayout) →
    ctx.types.now ≡ laid_types spelled
    → first ≡ 0 → AreFaultless ctx first (length layouts) → length ctx.types.now ≤ length layouts → layouts ≡ layouts_of ctx
    → slice_get layouts (last_position spelled) ≡ Some layout → Some layout ≡ layout_of_spelled spelled
layout_is ctx spelled first layouts layout is start faultless whole all at =
    let none = no_fault ctx spelled is (λ position above below. faultless position (omega (arith, start))
    (omega (arith, whole, ap length is, types_counted spelled))) in
    sym at
    ∙ ap (λ ls. slice_get ls (last_position spelled)) (all ∙ ap (layouts_in ctx) is)
    ∙ layout_last ctx spelled
    ∙ ap (λ fault. layout_unless fault (layout_of ctx (tree_of (laid_types spelled) (own_inner spelled)))) (sym none)
    ∙ in_same ctx (context (laid_types spelled) [] [] []) spelled

-- ---- rejected types

first_bad : (o : Option LayoutErrorInner) (later : Option LayoutErrorInner) (fault : LayoutErrorInner) (layout : TypeLayout) →
    Some o ≡ Some (Some fault)
    → None ≡ layout_unless (option_or o later) layout
first_bad None later fault layout some = absurd (cc)
first_bad (Some one) later fault layout some = refl

last_bad : (first o : Option LayoutErrorInner) (fault : LayoutErrorInner) (layout : TypeLayout) → Some o ≡ Some (Some fault)
    → None ≡ layout_unless (option_or first (option_or o None)) layout
last_bad (Some one) o fault layout some = refl
last_bad None o fault layout some = first_bad o None fault layout some

refused_in : (ctx : GlobalCtx) (spelled : SpelledType) (position : ℕ) (fault : LayoutErrorInner) →
    fault_in ctx (laid_types spelled) position ≡ Some (Some fault)
    → None ≡ layout_in ctx spelled
refused_in ctx (Plain plain) zero fault some = first_bad _ _ fault _ some
refused_in ctx (Plain plain) (suc position) fault some = absurd (cc)
refused_in ctx (Array base count stride) zero fault some = first_bad _ _ fault _ some
refused_in ctx (Array base count stride) (suc zero) fault some = last_bad _ _ fault _ some
refused_in ctx (Array base count stride) (suc (suc position)) fault some = absurd (cc)

-- if an update rejects one of the types, the type has no layout
pub refused_is : (ctx : GlobalCtx) (spelled : SpelledType) (position : ℕ) (error : UpdateError) (fault : LayoutError) →
    ctx.types.now ≡ laid_types spelled
    → error ≡ Layout fault → IsRefusalAt ctx position error → None ≡ layout_of_spelled spelled
refused_is ctx spelled position error fault is which refusal =
    let at : IsRefusalAt ctx position (Layout fault) = subst (IsRefusalAt ctx position) which refusal in
    refused_in ctx spelled position fault.inner (fault_is ctx (laid_types spelled) position (Some (Some fault.inner)) is at.1)
    ∙ in_same ctx (context (laid_types spelled) [] [] []) spelled

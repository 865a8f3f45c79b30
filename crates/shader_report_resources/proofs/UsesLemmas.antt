-- Uses of entry points, one after another.
use Rattle.std.proofs.Common.{◌≡◌, ◌∙◌, refl, sym, ap, subst, ℕ, ◌+◌, List, [], ◌∷◌, ◌++◌, All, Some, length, map, take, arith}
use Rattle.std.specs.Prelude.{slice_get}
use Rattle.std.proofs.lemmas.List.{map-append, take_all, take_more}
use Rattle.std.proofs.lemmas.List.Elements.{All-push}
use Rattle.std.proofs.lemmas.Option.{get_or_from_slice_get, slice_get_within}
use Rattle.shader_info.specs.declared.info.FunctionInfo.{FunctionInfo}
use Rattle.shader_ir.specs.declared.function.EntryPoint.{EntryPoint}
use Rattle.shader_report_resources.specs.Entries.{AddsUses, AreUses, HasPairs}
use Rattle.shader_report_resources.specs.declared.entries.EntryUses.{EntryUses}

-- one more item, of a list that is read by f
one_mapped : {X Y : Type 0} (f : X → Y) (ys : List Y) (n : ℕ) (old : List X) (x : X) → map f old ≡ take n ys → slice_get ys n ≡ Some (f x)
    → map f (old ++ x ∷ []) ≡ take (n + 1) ys
one_mapped f ys n old x so at =
    map-append f old (x ∷ []) ∙ ap (λ v. v ++ f x ∷ []) so
    ∙ sym (take_more ys n (f x) (slice_get_within ys n (f x) at)
    ∙ ap (λ y. take n ys ++ y ∷ []) (get_or_from_slice_get ys n (f x) (f x) at))

pub none_yet : (entries : List EntryPoint) (infos : List FunctionInfo) (uses : List EntryUses) → uses ≡ [] →
    AreUses (take 0 entries) (take 0 infos) uses
none_yet entries infos uses none = subst (AreUses (take 0 entries) (take 0 infos)) (sym none) (record {
  entries_are = refl;
  infos_are = refl;
  pairs_are = λ k d lt. absurd (omega arith);
})

-- one more entry point
pub one_more : (entries : List EntryPoint) (infos : List FunctionInfo) (n : ℕ) (entry : EntryPoint) (info : FunctionInfo)
    (old new : List EntryUses) → AreUses (take n entries) (take n infos) old → slice_get entries n ≡ Some entry
    → slice_get infos n ≡ Some info → AddsUses entry info old new → AreUses (take (n + 1) entries) (take (n + 1) infos) new
one_more entries infos n entry info old new are at recorded adds =
    subst (AreUses (take (n + 1) entries) (take (n + 1) infos)) (sym adds.added) (record {
      entries_are = one_mapped (λ (of : EntryUses). of.entry.now) entries n old adds.uses are.entries_are
          (at ∙ ap (λ e. Some e) (sym adds.of_entry));
      infos_are = one_mapped (λ (of : EntryUses). of.info.now) infos n old adds.uses are.infos_are
          (recorded ∙ ap (λ i. Some i) (sym adds.of_info));
      pairs_are = All-push HasPairs old adds.uses are.pairs_are adds.pairs;
    })

-- all entry points
pub all_of : (entries : List EntryPoint) (infos : List FunctionInfo) (n : ℕ) (uses : List EntryUses) → length entries ≡ n →
    length infos ≡ n → AreUses (take n entries) (take n infos) uses → AreUses entries infos uses
all_of entries infos n uses counted stored are =
    subst (λ v. AreUses entries v uses) (take_all n infos (omega (arith, stored)))
    (subst (λ v. AreUses v (take n infos) uses) (take_all n entries (omega (arith, counted))) are)

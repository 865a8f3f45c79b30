-- A module has one report.
use Rattle.std.proofs.Common.{◌≡◌, ◌∙◌, sym, subst, ap, refl, ℕ, zero, suc, ◌+◌, ◌<◌, ◌↔◌, inl}
use Rattle.std.proofs.Common.{inr, Bool, List, [], ◌∷◌, Some, map, length, slice_get, arith}
use Rattle.std.specs.BTreeSet.{BTreeSet, contains}
use Rattle.std.specs.Int.{IsBitSet}
use Rattle.std.specs.List.{Contains, range_with_len}
use Rattle.std.specs.Option.{option_map}
use Rattle.std.proofs.lemmas.Bool.{cases_order}
use Rattle.std.proofs.lemmas.Bool.Decides.{same_from_decides}
use Rattle.std.proofs.lemmas.List.{length-map}
use Rattle.std.proofs.lemmas.List.Elements.{Contains-append_cases}
use Rattle.std.proofs.lemmas.List.FromFn.{get_or-range_with_len, length-range_with_len}
use Rattle.std.proofs.lemmas.Map.Lookups.{btree_set_from_contains}
use Rattle.std.proofs.lemmas.Map.Views.{btree_set_contains_iff}
use Rattle.std.proofs.lemmas.Option.{get_or_from_slice_get, same_Some, slice_get-map, slice_get_cases, slice_get_within}
use Rattle.shader_analysis_spec.specs.Faults.{Cause, ComesBefore, IsFirstFault, OfEntryPoint, OfFunction, OfGlobalExpression, Settings}
use Rattle.shader_analysis_spec.specs.Faults.{Site}
use Rattle.shader_analysis_spec.specs.Infos.{Use, Reads, Writes, Queries, Atomics, bit_of}
use Rattle.shader_analysis_spec.specs.Program.{Function, Module}
use Rattle.shader_analysis_spec.proofs.BitsLemmas.{numbers_are_sets}
use Rattle.shader_analysis_spec.proofs.ListLemmas.{in_map}
use Rattle.shader_info.specs.declared.error.AnalysisLocation.{AnalysisLocation}
use Rattle.shader_info.specs.declared.error.AnalysisLocation.TheVariants as location
use Rattle.shader_info.specs.declared.flags.GlobalUse.{GlobalUse}
use Rattle.shader_info.specs.Recorded.{pair_cmp}
use Rattle.shader_info.proofs.PairLemmas.{pairs_exact, pairs_total}
use Rattle.shader_analysis.specs.Processed.{HasFunction, IsFunctionAt, site_of}
use Rattle.sample_reports.specs.Laws.{ReportsAreUnique}
use Rattle.sample_reports.specs.Reports.{AreCounts, ArePairs, AreReports, AreUses, IsFunctionReport, locations_of}
use Rattle.sample_reports.specs.declared.report.FunctionReport.{FunctionReport}
use Rattle.sample_reports.specs.declared.report.ModuleReport.TheVariants.{Accepted, Refused}
use Rattle.sample_reports.specs.declared.report.LocationReport.{LocationReport}

-- lists with the same item at each position are equal
same_lists : {X : Type 0} (xs ys : List X) → length xs ≡ length ys →
    ((i : ℕ) (x y : X) → slice_get xs i ≡ Some x → slice_get ys i ≡ Some y → x ≡ y) → xs ≡ ys
same_lists [] [] long same = refl
same_lists [] (y ∷ ys) long same = absurd (omega arith)
same_lists (x ∷ xs) [] long same = absurd (omega arith)
same_lists {X} (x ∷ xs) (y ∷ ys) long same =
    let first : x ≡ y = same zero x y refl refl in
    let rest : xs ≡ ys = same_lists xs ys (omega arith) (λ i a b. same (suc i) a b) in
    ap (λ (v : X). v ∷ xs) first ∙ ap (λ (v : List X). y ∷ v) rest

-- ---- the report on a function

-- a proposition that two bits decide
both_report : {P Q R : Type 0} → P ↔ R → Q ↔ R → P ↔ Q
both_report p q = (λ h. q.1 (p.0 h), λ h. p.1 (q.0 h))

below_four : (a b k : ℕ) → k < 4 → ((u : Use) → IsBitSet a (bit_of u) ↔ IsBitSet b (bit_of u)) → IsBitSet a k ↔ IsBitSet b k
below_four a b zero lt same = same Reads
below_four a b (suc zero) lt same = same Writes
below_four a b (suc (suc zero)) lt same = same Queries
below_four a b (suc (suc (suc zero))) lt same = same Atomics
below_four a b (suc (suc (suc (suc k)))) lt same = absurd (omega arith)

same_use : (a b : GlobalUse) → a.0 < 16 → b.0 < 16 → ((u : Use) → IsBitSet a.0 (bit_of u) ↔ IsBitSet b.0 (bit_of u)) → a ≡ b
same_use a b small few same =
    ap (λ (n : ℕ). record { 0 = n }) (numbers_are_sets.1 4 a.0 b.0 small few (λ k lt. below_four a.0 b.0 k lt same))

same_uses : (m : Module) (f : Function) (xs ys : List GlobalUse) → AreUses m f xs → AreUses m f ys → xs ≡ ys
same_uses m f xs ys a b =
    same_lists xs ys (a.each ∙ sym b.each) (λ g x y at other.
    same_use x y (a.few g x at) (b.few g y other) (λ u. both_report (a.bits g x u at) (b.bits g y u other)))

same_pairs : (m : Module) (f : Function) (xs ys : List (ℕ × ℕ)) → ArePairs m f xs → ArePairs m f ys → xs ≡ ys
same_pairs m f xs ys a b =
    let s : BTreeSet (ℕ × ℕ) = record { keys = xs } in
    let t : BTreeSet (ℕ × ℕ) = record { keys = ys } in
    btree_set_from_contains pairs_total s t a.ascending b.ascending (λ q.
    same_from_decides (contains pair_cmp s q) (contains pair_cmp t q)
    (btree_set_contains_iff pairs_total pairs_exact s q)
    (both_report (btree_set_contains_iff pairs_total pairs_exact t q) (both_report (a.members q.0 q.1) (b.members q.0 q.1)))) pairs_exact

same_counts : (f : Function) (xs ys : List ℕ) → AreCounts f xs → AreCounts f ys → xs ≡ ys
same_counts f xs ys a b =
    same_lists xs ys (a.each ∙ sym b.each) (λ e x y at other.
    let within : e < length f.expressions = subst (λ n. e < n) a.each (slice_get_within xs e x at) in
    same_Some x y (sym at ∙ a.exact e within ∙ sym (b.exact e within) ∙ other))

same_report : (m : Module) (f : Function) (x y : FunctionReport) → IsFunctionReport m f x → IsFunctionReport m f y → x ≡ y
same_report m f x y a b =
    let uses = same_uses m f x.uses y.uses a.uses b.uses in
    let pairs = same_pairs m f x.pairs y.pairs a.pairs b.pairs in
    let counts = same_counts f x.counts y.counts a.counts b.counts in
    let varies = same_from_decides x.varies y.varies a.varies b.varies in
    ap (λ (v : List GlobalUse). record x { uses = v }) uses
    ∙ ap (λ (v : List (ℕ × ℕ)). record x { uses = y.uses; pairs = v }) pairs
    ∙ ap (λ (v : List ℕ). record x { uses = y.uses; pairs = y.pairs; counts = v }) counts
    ∙ ap (λ (v : Bool). record y { varies = v }) varies

-- ---- the report on a module

within_range : (n x : ℕ) → Contains (range_with_len 0 n) x → x < n
within_range n x h =
    let lt : h.0 < n = subst (λ v. h.0 < v) (length-range_with_len 0 n) h.1 in
    let e : 0 + h.0 ≡ x = sym (get_or-range_with_len 0 n h.0 x lt) ∙ h.2 in
    omega (arith, e, lt)

-- the item at a position of a list that is long enough
item_at : {X : Type 0} (xs : List X) (i : ℕ) → i < length xs → (x : X) × (slice_get xs i ≡ Some x)
item_at xs i lt = elim ((slice_get_cases xs i).1) [ inl found ↦ (found.0, found.2) | inr past ↦ absurd (omega (arith, past.0, lt)) ]

-- each location of a module has a function
location_has : (m : Module) (at : AnalysisLocation) → Contains (locations_of m) at → HasFunction m at
location_has m at h =
    let functions = map location.Function (range_with_len 0 (length m.functions)) in
    let entry_points = map location.EntryPoint (range_with_len 0 (length m.entry_points)) in
    elim (Contains-append_cases functions entry_points at h) [
      | inl one ↦
          let i = in_map location.Function (range_with_len 0 (length m.functions)) at one in
          let f = item_at m.functions i.0 (within_range (length m.functions) i.0 i.1) in
          subst (HasFunction m) i.2 (f.0, f.1)
      | inr other ↦
          let i = in_map location.EntryPoint (range_with_len 0 (length m.entry_points)) at other in
          let entry = item_at m.entry_points i.0 (within_range (length m.entry_points) i.0 i.1) in
          subst (HasFunction m) i.2 (entry.0.function, (entry.0, entry.1, refl))
    ]

same_reports : (m : Module) (xs ys : List LocationReport) → AreReports m xs → AreReports m ys → xs ≡ ys
same_reports m xs ys a b =
    let location_in = λ (r : LocationReport). r.location in
    let locations : map location_in xs ≡ map location_in ys = a.locations ∙ sym b.locations in
    let long : length xs ≡ length ys = sym (length-map xs location_in) ∙ ap length locations ∙ length-map ys location_in in
    same_lists xs ys long (λ i x y at other.
    let first : slice_get (map location_in xs) i ≡ Some x.location = slice_get-map location_in xs i ∙ ap (option_map location_in) at in
    let second : slice_get (map location_in ys) i ≡ Some y.location = slice_get-map location_in ys i ∙ ap (option_map location_in) other in
    let same : x.location ≡ y.location =
    same_Some x.location y.location (sym first ∙ ap (λ (v : List AnalysisLocation). slice_get v i) locations ∙ second) in
    let is_there : slice_get (locations_of m) i ≡ Some x.location = sym (ap (λ (v : List AnalysisLocation). slice_get v i) a.locations)
    ∙ first in
    let f = location_has m x.location (
      i,
      slice_get_within (locations_of m) i x.location is_there,
      get_or_from_slice_get (locations_of m) i x.location x.location is_there,
    ) in
    let reported : x.report ≡ y.report =
    same_report m f.0 x.report y.report (a.each i x f.0 at f.1) (b.each i y f.0 other (subst (λ p. IsFunctionAt m p f.0) same f.1)) in
    ap (λ (p : AnalysisLocation). record x { location = p }) same ∙ ap (λ (r : FunctionReport). record y { report = r }) reported)

-- ---- the report on a refusal

-- of two items of a module one comes first, or they are the same
data Order (s t : Site) : Type 0 where
  before : ComesBefore s t → Order s t
  same : s ≡ t → Order s t
  behind : ComesBefore t s → Order s t

number_order : (a b : ℕ) → (P : Type 0) → (a < b → P) → (a ≡ b → P) → (b < a → P) → P
number_order a b P less equal more = elim (cases_order a b)
    [ inl e ↦ equal e | inr other ↦ elim other [ inl lt ↦ less lt | inr gt ↦ more gt ] ]

order : (s t : Site) → Order s t
order (OfGlobalExpression a) (OfGlobalExpression b) = number_order a b (Order (OfGlobalExpression a) (OfGlobalExpression b)) before
    (λ e. same (ap OfGlobalExpression e)) behind
order (OfGlobalExpression a) (OfFunction b) = before tt
order (OfGlobalExpression a) (OfEntryPoint b) = before tt
order (OfFunction a) (OfGlobalExpression b) = behind tt
order (OfFunction a) (OfFunction b) = number_order a b (Order (OfFunction a) (OfFunction b)) before (λ e. same (ap OfFunction e)) behind
order (OfFunction a) (OfEntryPoint b) = before tt
order (OfEntryPoint a) (OfGlobalExpression b) = behind tt
order (OfEntryPoint a) (OfFunction b) = behind tt
order (OfEntryPoint a) (OfEntryPoint b) = number_order a b (Order (OfEntryPoint a) (OfEntryPoint b)) before
    (λ e. same (ap OfEntryPoint e)) behind

settled : (s t : Site) → Order s t → (ComesBefore s t → ⊥) → (ComesBefore t s → ⊥) → s ≡ t
settled s t (before b) first second = absurd (first b)
settled s t (same e) first second = e
settled s t (behind b) first second = absurd (second b)

same_site : (m : Module) (settings : Settings) (s t : Site) (c d : Cause) → IsFirstFault m settings s c →
    IsFirstFault m settings t d → s ≡ t
same_site m settings s t c d x y = settled s t (order s t) (λ b. y.first s c b x.is_there) (λ b. x.first t d b y.is_there)

same_location : (p q : AnalysisLocation) → site_of p ≡ site_of q → p ≡ q
same_location (location.ConstExpression a) (location.ConstExpression b) e = let i : a ≡ b = cc in ap location.ConstExpression i
same_location (location.ConstExpression a) (location.Function b) e = cc
same_location (location.ConstExpression a) (location.EntryPoint b) e = cc
same_location (location.Function a) (location.ConstExpression b) e = cc
same_location (location.Function a) (location.Function b) e = let i : a ≡ b = cc in ap location.Function i
same_location (location.Function a) (location.EntryPoint b) e = cc
same_location (location.EntryPoint a) (location.ConstExpression b) e = cc
same_location (location.EntryPoint a) (location.Function b) e = cc
same_location (location.EntryPoint a) (location.EntryPoint b) e = let i : a ≡ b = cc in ap location.EntryPoint i

pub reports_are_unique : ReportsAreUnique
reports_are_unique m settings (Accepted xs) (Accepted ys) x y = same_reports m xs ys x.1 y.1
reports_are_unique m settings (Accepted xs) (Refused at kind) x y = x.0 (site_of at) y.cause y.first.is_there
reports_are_unique m settings (Refused at kind) (Accepted ys) x y = y.0 (site_of at) x.cause x.first.is_there
reports_are_unique m settings (Refused at kind) (Refused other reported) x y =
    same_location at other (same_site m settings (site_of at) (site_of other) x.cause y.cause x.first y.first)

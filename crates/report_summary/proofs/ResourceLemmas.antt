-- Whether one of the functions uses a global variable, by those seen before.
use Rattle.std.proofs.Common.{◌≡◌, ◌∙◌, ◌+◌, ◌<◌, ℕ, Bool, true, false, ◌||◌, List, Some, length, get_or, slice_get, take, ap, subst, sym}
use Rattle.std.proofs.lemmas.List.Folds.{list_any_at, list_any_more}
use Rattle.std.proofs.lemmas.Option.{get_or_from_slice_get}
use Rattle.shader_info.specs.declared.info.FunctionInfo.{FunctionInfo}
use Rattle.report_summary.specs.Resources.{is_use, is_used}

abbrev uses : ℕ → FunctionInfo → Bool
uses g info = is_use (slice_get info.global_uses g)

-- the function at an index does
pub used_at : (infos : List FunctionInfo) (i g : ℕ) (info : FunctionInfo) → slice_get infos i ≡ Some info → i < length infos →
    is_use (slice_get info.global_uses g) ≡ true → is_used infos g ≡ true
used_at infos i g info at lt use_ = list_any_at (uses g) infos i info lt
    (subst (λ (x : FunctionInfo). uses g x ≡ true) (sym (get_or_from_slice_get infos i info info at)) use_)

-- neither those before it nor the function at an index do
pub unused_more : (infos : List FunctionInfo) (i g : ℕ) (info : FunctionInfo) → slice_get infos i ≡ Some info → i < length infos →
    is_used (take i infos) g ≡ false → is_use (slice_get info.global_uses g) ≡ false → is_used (take (i + 1) infos) g ≡ false
unused_more infos i g info at lt before none = list_any_more (uses g) infos i info lt
    ∙ ap (λ (b : Bool). b || uses g (get_or infos i info)) before
    ∙ subst (λ (x : FunctionInfo). uses g x ≡ false) (sym (get_or_from_slice_get infos i info info at)) none

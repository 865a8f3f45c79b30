use Rattle.std.proofs.Common.{◌≡◌, ◌∙◌, ◌↔◌, ℕ, Contains, IsTrue, sym, subst}
use Rattle.std.proofs.lemmas.Option.{same_Some}
use Rattle.shader_typing.specs.ArenaPositions.{is_member}
use Rattle.shader_typing.specs.BoundsTyped.{Records}
use Rattle.shader_typing.specs.Checked.{IsCheckedIndex}
use Rattle.shader_typing.specs.Function.{Function}
use Rattle.shader_typing.specs.FunctionInfo.{FunctionInfo}
use Rattle.shader_typing.specs.Locals.{IsOutOfBoundsType}
use Rattle.shader_uses.proofs.bounds.checks_of.Goals as goal

pub returns-clause-indexes : goal.returns-clause-indexes
returns-clause-indexes c = λ f of at recorded.
    let m = c.args.module.now in
    let indexes = c.in_ok-find_checked_indexes.field-0 in
    let same : c.index-function.result.now ≡ f = same_Some _ _ (sym c.index-function.ensures ∙ at) in
    let info : c.index-of.result.now ≡ of = same_Some _ _ (sym c.index-of.ensures ∙ recorded) in
    subst (λ (v : FunctionInfo). (e : ℕ) → IsTrue (is_member indexes e) ↔ IsCheckedIndex m f (Records v) c.args.policies e) info
    (subst (λ (v : Function). (e : ℕ) → IsTrue (is_member indexes e) ↔ IsCheckedIndex m v (Records c.index-of.result.now) c.args.policies e)
    same c.in_ok-find_checked_indexes.ensures.members)

pub returns-clause-locals : goal.returns-clause-locals
returns-clause-locals c = λ f of at recorded.
    let m = c.args.module.now in
    let locals = c.in_ok-oob_local_types.field-0 in
    let same : c.index-function.result.now ≡ f = same_Some _ _ (sym c.index-function.ensures ∙ at) in
    let info : c.index-of.result.now ≡ of = same_Some _ _ (sym c.index-of.ensures ∙ recorded) in
    subst (λ (v : FunctionInfo). (ty : ℕ) → Contains locals.keys ty ↔ IsOutOfBoundsType m f (Records v) c.args.policies ty) info
    (subst (λ (v : Function). (ty : ℕ) → Contains locals.keys ty ↔ IsOutOfBoundsType m v (Records c.index-of.result.now) c.args.policies ty)
    same c.in_ok-oob_local_types.ensures.types)

use Rattle.std.proofs.Common.{◌≡◌, ap, sym, subst, ◌∙◌, ℕ, Option, Some, slice_get}
use Rattle.std.specs.Option.{option_copied}
use Rattle.shader_bounds.proofs.ChainLemmas.{Leads, leads_to_base}
use Rattle.shader_bounds.specs.Typed.{Records}
use Rattle.shader_bounds.proofs.chains.chain_needs_check.Goals as goal

pub loop-next-preserved : goal.loop-next-preserved
loop-next-preserved c =
    let m = c.args.module.now in
    let f = c.args.function.now in
    let expression = c.in-Some-try_get.expression.now in
    let is_there : slice_get f.expressions c.in-Some.position ≡ Some expression =
    sym c.try_get.ensures ∙ ap option_copied c.in-Some-try_get.is in
    let P : Option ℕ → Type 0 = λ v. Leads m f (Records c.args.info.now) c.args.chain v in
    subst P (sym c.base_of-next.ensures)
    (leads_to_base m f (Records c.args.info.now) c.args.chain c.loop-next.next c.in-Some.position expression c.loop-next.invariant
    c.in-Some.is
    is_there c.is_unchecked.result c.is_unchecked.ensures
    c.if-is_unchecked.false)

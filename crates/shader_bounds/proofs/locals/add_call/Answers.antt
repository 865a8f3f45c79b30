use Rattle.std.proofs.Common.{◌≡◌, ap, sym, subst, ◌∙◌, ℕ, List, Some, slice_get}
use Rattle.std.specs.List.{Contains, zip}
use Rattle.std.specs.Option.{option_copied}
use Rattle.shader_bounds.proofs.AddLemmas.{on_ok}
use Rattle.shader_bounds.proofs.SearchLemmas.{call_adds, call_of_none}
use Rattle.shader_bounds.specs.Adds.{Adds}
use Rattle.shader_bounds.specs.Locals.{CallPasses, PairsPass}
use Rattle.shader_bounds.specs.Typed.{Records}
use Rattle.shader_ir.specs.declared.function.FunctionArgument.{FunctionArgument}
use Rattle.shader_bounds.proofs.locals.add_call.Goals as goal

pub returns-in-Some : goal.returns-in-Some
returns-in-Some c =
    let m = c.args.module.now in
    let f = c.args.function.now in
    let S : ℕ → Type 0 = Contains c.args.locals.now.keys in
    let T : ℕ → Type 0 = Contains c.add_arguments.new.locals.keys in
    let is_there : slice_get m.functions c.args.callee ≡ Some c.in-Some.called.now = sym c.called.ensures ∙ ap option_copied c.in-Some.is in
    let parameters : c.as_slice-parameters.result.now ≡ (c.in-Some.called.now).arguments = cc in
    let P : List FunctionArgument → Type 0 = λ v. Adds S T (PairsPass m f (Records c.args.info.now) (zip v c.args.arguments.now)) in
    on_ok c.add_arguments.result (Adds S T (PairsPass m f (Records c.args.info.now)
    (zip c.as_slice-parameters.result.now c.args.arguments.now)))
    (Adds S T (λ ty. CallPasses m f (Records c.args.info.now) ty c.args.callee c.args.arguments.now))
    (λ g. call_adds m f (Records c.args.info.now) c.args.callee c.args.arguments.now c.in-Some.called.now S T is_there
    (subst P parameters g)) c.add_arguments.ensures

pub returns-in-None : goal.returns-in-None
returns-in-None c =
    call_of_none c.args.module.now c.args.function.now (Records c.args.info.now) c.args.callee c.args.arguments.now
    (Contains c.args.locals.now.keys)
    (sym c.called.ensures ∙ ap option_copied c.in-None.is)

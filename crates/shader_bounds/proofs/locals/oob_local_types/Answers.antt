use Rattle.std.proofs.Common.{rules, ◌≡◌, ℕ, ◌↔◌}
use Rattle.std.specs.List.{Contains}
use Rattle.shader_bounds.proofs.AddLemmas.{if_ok}
use Rattle.shader_bounds.proofs.SearchLemmas.{operands_earlier}
use Rattle.shader_bounds.specs.Locals.{IsOutOfBoundsType, NeedsLocal}
use Rattle.shader_bounds.specs.Typed.{Records}
use Rattle.shader_bounds.specs.declared.policies.BoundsCheckPolicy.TheVariants.{ReadZeroSkipWrite}
use Rattle.shader_bounds.proofs.locals.oob_local_types.Goals as goal

pub needed_locals-requires : goal.needed_locals-requires
needed_locals-requires c = operands_earlier c.args.module.now c.requires.well_formed c.args.function.now c.requires.function

pub returns-then-eq-clause-types : goal.returns-then-eq-clause-types
returns-then-eq-clause-types c =
    let chosen : c.args.policies.index ≡ ReadZeroSkipWrite = search rules in
    let needs : ℕ → Type 0 = NeedsLocal c.args.module.now c.args.function.now (Records c.args.info.now) in
    if_ok c.needed_locals.result (λ locals. (ty : ℕ) → Contains locals.keys ty ↔ needs ty)
    (λ locals. (ty : ℕ) → Contains locals.keys ty ↔ IsOutOfBoundsType c.args.module.now c.args.function.now (Records c.args.info.now)
    c.args.policies ty)
    (λ locals found ty. (λ h. (chosen, (found ty).0 h), λ h. (found ty).1 h.1)) c.needed_locals.ensures

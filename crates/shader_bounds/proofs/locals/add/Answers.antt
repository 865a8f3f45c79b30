use Rattle.std.proofs.Common.{rules, ◌≡◌, ℕ, Bool, true}
use Rattle.shader_arena.specs.contracts.handle.HandlePartialEq.TheImpl as handle
use Rattle.shader_bounds.proofs.AddLemmas.{key_put}
use Rattle.shader_bounds.proofs.locals.add.Lts as kinds
use Rattle.shader_bounds.proofs.locals.add.Goals as goal

pub returns : goal.returns
returns c =
    let same : ℕ → ℕ → Bool = (handle.eq-value (kinds.impl_arg-0-1 c.insert.lifetimes)).it in
    let is : (x y : ℕ) → same x y ≡ true → x ≡ y = λ x y h. search rules in
    key_put {same = same} c.args.locals.now c.insert.new.self.keys c.args.ty c.in_ok-insert.field-0 c.in_ok-insert.ensures.keys
    c.in_ok-insert.ensures.added is

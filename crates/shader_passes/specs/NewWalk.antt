-- A walk before its first statement.
use Rattle.std.specs.Prelude.{◌≡◌, None, false}
use Rattle.shader_passes.specs.declared.walk.statements.Walk.{Walk}

-- nothing is found yet
pub record IsNew (walk : Walk) : Type 0 where
  pub first : walk.first ≡ None
  pub origin : walk.origin ≡ None
  pub needs : walk.requirements.0 ≡ 0
  pub calls : walk.calls ≡ false

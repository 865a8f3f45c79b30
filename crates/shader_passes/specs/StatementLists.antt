-- A list of borrowed statements as a list of steps.
use Rattle.std.specs.Prelude.{List, map}
use denote.Bor.{Bor}
use Rattle.shader_ir.specs.Body.{Step}
use Rattle.shader_ir.specs.BodyOf.{step_of}
use Rattle.shader_ir.specs.declared.statement.Statement.{Statement}

abbrev pub steps_of : List (Bor Statement) → List Step
steps_of all = map (λ statement. step_of statement.now) all

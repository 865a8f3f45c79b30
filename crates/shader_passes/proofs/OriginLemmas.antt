-- The origins that the passes compute of one function meet its step equation.
use Rattle.std.proofs.Common.{refl}
use Rattle.shader_passes.specs.Results.{computed_facts}
use Rattle.shader_passes.specs.ComputedOrigins.{OriginsAreOfTheStep}
use Rattle.shader_passes.proofs.StepOrigins.{step_origins}

pub origins_of_the_step : OriginsAreOfTheStep
origins_of_the_step m infos f below = step_origins m infos f (computed_facts m infos f) refl below

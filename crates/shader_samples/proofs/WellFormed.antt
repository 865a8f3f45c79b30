-- The samples are well formed.
use Rattle.std.proofs.Common.{refl}
use Rattle.std.specs.Prelude.{IsOk}
use Rattle.shader_ir.specs.declared.«module».Module.{Module}
use Rattle.shader_resolve.specs.ModuleTests.{check_module}
use Rattle.shader_resolve.specs.WellFormed.{IsWellFormed}
use Rattle.shader_resolve.proofs.ModuleLemmas.{module-sound, ok-decides}
use Rattle.shader_samples.specs.Samples.{sample_module}
use Rattle.shader_samples.specs.declared.sample.Sample.{Sample}
use Rattle.shader_samples.specs.declared.sample.Sample.TheVariants as s

passes : (m : Module) → IsOk (check_module m) → IsWellFormed m
passes m = (ok-decides m (check_module m) (module-sound m)).0

pub well_formed : (sample : Sample) → IsWellFormed (sample_module sample)
well_formed s.Named = passes _ refl
well_formed s.Stored = passes _ refl
well_formed s.Sampling = passes _ refl
well_formed s.Exit = passes _ refl
well_formed s.NoFall = passes _ refl
well_formed s.ExitOff = passes _ refl
well_formed s.Counts = passes _ refl
well_formed s.DerivativeUniform = passes _ refl
well_formed s.Derivative = passes _ refl
well_formed s.DerivativeOff = passes _ refl

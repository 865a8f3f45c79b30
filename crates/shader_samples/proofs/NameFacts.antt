-- Facts about the name of each sample.
use Rattle.std.proofs.Common.{◌≡◌, Some, refl}
use Rattle.shader_samples.specs.Names.{sample_text, sample_named}
use Rattle.shader_samples.specs.declared.sample.Sample.{Sample}
use Rattle.shader_samples.specs.declared.sample.Sample.TheVariants as s

pub named_back : (sample : Sample) → sample_named (sample_text sample) ≡ Some sample
named_back s.Named = refl
named_back s.Stored = refl
named_back s.Sampling = refl
named_back s.Exit = refl
named_back s.NoFall = refl
named_back s.ExitOff = refl
named_back s.Counts = refl
named_back s.DerivativeUniform = refl
named_back s.Derivative = refl
named_back s.DerivativeOff = refl

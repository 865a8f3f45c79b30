-- The laws about the samples.
use Rattle.std.specs.Prelude.{◌≡◌, Some}
use Rattle.shader_resolve.specs.WellFormed.{IsWellFormed}
use Rattle.shader_samples.specs.Names.{sample_text, sample_named}
use Rattle.shader_samples.specs.Samples.{sample_module}
use Rattle.shader_samples.specs.declared.sample.Sample.{Sample}

abbrev pub SamplesAreWellFormed : Type 0
SamplesAreWellFormed = (sample : Sample) → IsWellFormed (sample_module sample)

abbrev pub NamesDetermineSamples : Type 0
NamesDetermineSamples = (sample : Sample) → sample_named (sample_text sample) ≡ Some sample

-- The names of the samples.
use Rattle.std.specs.Prelude.{ℕ, List, [], ◌∷◌, codes, Option, find}
use Rattle.std.specs.Str.{bytes_eq}
use Rattle.shader_samples.specs.declared.sample.Sample.{Sample}
use Rattle.shader_samples.specs.declared.sample.Sample.TheVariants as s

abbrev pub sample_text : Sample → List ℕ
sample_text s.Named = codes "named"
sample_text s.Stored = codes "stored"
sample_text s.Sampling = codes "sampling"
sample_text s.Exit = codes "exit"
sample_text s.NoFall = codes "no-fall"
sample_text s.ExitOff = codes "exit-off"
sample_text s.Counts = codes "counts"
sample_text s.DerivativeUniform = codes "derivative-uniform"
sample_text s.Derivative = codes "derivative"
sample_text s.DerivativeOff = codes "derivative-off"

abbrev pub all_samples : List Sample
all_samples = s.Named ∷ s.Stored ∷ s.Sampling ∷ s.Exit ∷ s.NoFall ∷ s.ExitOff ∷ s.Counts ∷ s.DerivativeUniform ∷ s.Derivative
    ∷ s.DerivativeOff ∷ []

-- the sample that a name names
abbrev pub sample_named : List ℕ → Option Sample
sample_named name = find (λ sample. bytes_eq (sample_text sample) name) all_samples

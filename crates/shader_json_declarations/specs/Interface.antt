-- What the IR lacks of the declarations to the host and to other stages, in the JSON of modules.
use Rattle.std.specs.Prelude.{◌≡◌, ℕ, List, codes}
use Rattle.json.specs.Json.{Json, string}
use Rattle.shader_json_declarations.specs.declared.interface.Interpolation.{Interpolation}
use Rattle.shader_json_declarations.specs.declared.interface.Interpolation.TheVariants as interpolations
use Rattle.shader_json_declarations.specs.declared.interface.ResourceBinding.{ResourceBinding}
use Rattle.shader_json_declarations.specs.declared.interface.Sampling.{Sampling}
use Rattle.shader_json_declarations.specs.declared.interface.Sampling.TheVariants as samplings
use Rattle.shader_json_reader.specs.Numbers.{IsU32}
use Rattle.shader_json_reader.specs.Shapes.{IsObject, HasField}

abbrev pub IsResourceBinding : Json → ResourceBinding → Type 0
IsResourceBinding j bound =
    IsObject j (λ ms. HasField IsU32 (codes "group") ms bound.group × HasField IsU32 (codes "binding") ms bound.binding)

abbrev pub interpolation_name : Interpolation → List ℕ
interpolation_name interpolations.Perspective = codes "Perspective"
interpolation_name interpolations.Linear = codes "Linear"
interpolation_name interpolations.Flat = codes "Flat"
interpolation_name interpolations.PerVertex = codes "PerVertex"

abbrev pub IsInterpolation : Json → Interpolation → Type 0
IsInterpolation j interpolation = j ≡ string (interpolation_name interpolation)

abbrev pub sampling_name : Sampling → List ℕ
sampling_name samplings.Center = codes "Center"
sampling_name samplings.Centroid = codes "Centroid"
sampling_name samplings.Sample = codes "Sample"
sampling_name samplings.First = codes "First"
sampling_name samplings.Either = codes "Either"

abbrev pub IsSampling : Json → Sampling → Type 0
IsSampling j sampling = j ≡ string (sampling_name sampling)

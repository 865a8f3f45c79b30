-- The verdict on uniform flow as a member of a JSON object.
use Rattle.std.specs.Prelude.{◌∷◌, true, false, List, [], Option, Some, None, codes}
use Rattle.json.specs.Token.{Token, boolean, key}
use Rattle.report_json.specs.Tokens.{object}
use Rattle.report_places.specs.Sites.{place_of_body}
use Rattle.report_places.specs.Tokens.{body_tokens}
use Rattle.report_places.specs.declared.body_place.BodyPlace.{BodyPlace}
use Rattle.shader_uniformity.specs.declared.divergence.Uniformity.{Uniformity}
use Rattle.shader_uniformity.specs.declared.facts.BodyLocation.{BodyLocation}

-- flow is at fault there
abbrev pub refused_tokens : BodyPlace → List Token
refused_tokens place = object (key (codes "accepted") ∷ boolean false ∷ key (codes "place") ∷ body_tokens place)

unfoldable pub verdict_tokens : Option BodyLocation → List Token
verdict_tokens None = object (key (codes "accepted") ∷ boolean true ∷ [])
verdict_tokens (Some location) = refused_tokens (place_of_body location)

-- nothing if flow wasn't checked
abbrev pub verdict_members : Option Uniformity → List Token
verdict_members (Some found) = key (codes "uniformity_verdict") ∷ verdict_tokens found.fault
verdict_members None = []

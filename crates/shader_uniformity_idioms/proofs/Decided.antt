-- The examples and idioms, computed.
use Rattle.std.proofs.Common.{refl, ℕ, List, [], ◌∷◌, ◌++◌, slice_index_or}
use Rattle.shader_ir.specs.declared.function.Function.{Function}
use Rattle.shader_uniformity.specs.Fault.{AreAllKnown, AreKnown, none, next}
use Rattle.shader_uniformity.specs.declared.facts.Rule.{Rule}
use Rattle.shader_uniformity_idioms.specs.Examples.{calls, flows, jumps, needs, places, values, AreTold}
use Rattle.shader_uniformity_idioms.specs.Idioms.{accepted, refused, AreDecided}
use Rattle.shader_uniformity_idioms.specs.Shapes.{point, shaders, known, helpers}
use Rattle.shader_uniformity_idioms.proofs.Decide.{all_fine, all_faulty, all_told, helper_known, what_is_known}

abbrev function_at : ℕ → Function
function_at i = slice_index_or helpers i (point [])

-- what is known of the first functions, of which none calls another one
abbrev after : List (List Rule) → ℕ → List (List Rule)
after before i = before ++ what_is_known before (function_at i) ∷ []

abbrev one : List (List Rule)
one = after [] 0

abbrev two : List (List Rule)
two = after one 1

abbrev three : List (List Rule)
three = after two 2

abbrev four : List (List Rule)
four = after three 3

abbrev five : List (List Rule)
five = after four 4

abbrev six : List (List Rule)
six = after five 5

one_known : AreKnown shaders one
one_known = next {callees = []} {f = function_at 0} none refl (helper_known [] (function_at 0) refl)

two_known : AreKnown shaders two
two_known = next {callees = one} {f = function_at 1} one_known refl (helper_known one (function_at 1) refl)

three_known : AreKnown shaders three
three_known = next {callees = two} {f = function_at 2} two_known refl (helper_known two (function_at 2) refl)

four_known : AreKnown shaders four
four_known = next {callees = three} {f = function_at 3} three_known refl (helper_known three (function_at 3) refl)

five_known : AreKnown shaders five
five_known = next {callees = four} {f = function_at 4} four_known refl (helper_known four (function_at 4) refl)

six_known : AreKnown shaders six
six_known = next {callees = five} {f = function_at 5} five_known refl (helper_known five (function_at 5) refl)

seven_known : AreKnown shaders (after six 6)
seven_known = next {callees = six} {f = function_at 6} six_known refl (helper_known six (function_at 6) refl)

functions_known : AreAllKnown shaders known
functions_known = (seven_known, refl)

pub values_are_told : AreTold values
values_are_told = record { functions = functions_known; told = all_told values refl }

pub places_are_told : AreTold places
places_are_told = record { functions = functions_known; told = all_told places refl }

pub flows_are_told : AreTold flows
flows_are_told = record { functions = functions_known; told = all_told flows refl }

pub jumps_are_told : AreTold jumps
jumps_are_told = record { functions = functions_known; told = all_told jumps refl }

pub calls_are_told : AreTold calls
calls_are_told = record { functions = functions_known; told = all_told calls refl }

pub needs_are_told : AreTold needs
needs_are_told = record { functions = functions_known; told = all_told needs refl }

pub idioms_are_decided : AreDecided
idioms_are_decided = record {
  functions = functions_known;
  faulty = all_faulty refused refl;
  fine = all_fine accepted refl;
}

-- What the JSON of a module declares beside the IR, as serde prints naga's modules: where each of it stands.
use Rattle.std.specs.Prelude.{ℕ, List, ◌&&◌, true, false, cond, nat_lt, length, codes, Option, Some, None, option_map, option_and_then}
use Rattle.std.specs.Borrow.{Bor}
use Rattle.std.specs.Char.{is_digit}
use Rattle.std.specs.List.{list_all}
use Rattle.std.specs.Str.{bytes_eq}
use Rattle.std.specs.Str.Parse.{digits_value, without_leading_plus}
use Rattle.json.specs.Find.{as_number, as_str, at, get}
use Rattle.json.specs.Json.{Json, null, boolean, number, string, array, object, Members, no_members, member}
use Rattle.json.specs.Value.{value_view}
use Rattle.json.specs.declared.value.Value.{Value}

-- ---- looking into a value

-- the value behind a borrow that may be absent
abbrev pub seen : {A : Type 0} → Option (Bor (Value A)) → Option Json
seen found = option_map (λ value. value_view value.now) found

abbrev pub member_in : List ℕ → Option Json → Option Json
member_in name found = option_and_then (get name) found

abbrev pub item_in : ℕ → Option Json → Option Json
item_in n found = option_and_then (at n) found

-- an integer without point and exponent that fits into 32 bits
unfoldable pub integer_of : List ℕ → Option ℕ
integer_of text =
    let digits = without_leading_plus text in
    cond (nat_lt 0 (length digits) && list_all (λ c. is_digit c 10) digits && nat_lt (digits_value 10 digits) 4294967296)
    (Some (digits_value 10 digits)) None

abbrev pub integer_in : Option Json → Option ℕ
integer_in found = option_and_then integer_of (option_and_then as_number found)

abbrev pub text_in : Option Json → Option (List ℕ)
text_in found = option_and_then as_str found

abbrev first_key : Members → Option (List ℕ)
first_key no_members = None
first_key (member key value others) = Some key

-- the name of an enum's variant: a string, or the first key of an object, which has no other
abbrev pub variant_of : Json → Option (List ℕ)
variant_of null = None
variant_of (boolean b) = None
variant_of (number s) = None
variant_of (string s) = Some s
variant_of (array js) = None
variant_of (object ms) = first_key ms

abbrev pub variant_in : Option Json → Option (List ℕ)
variant_in found = option_and_then variant_of found

-- ---- where each declaration stands in the module `root`

-- `global_variables[n].binding`
abbrev pub resource_binding_at : Json → ℕ → Option Json
resource_binding_at root n = member_in (codes "binding") (item_in n (get (codes "global_variables") root))

abbrev pub group_of : Json → ℕ → Option ℕ
group_of root n = integer_in (member_in (codes "group") (resource_binding_at root n))

abbrev pub binding_of : Json → ℕ → Option ℕ
binding_of root n = integer_in (member_in (codes "binding") (resource_binding_at root n))

-- `overrides[n].id`
abbrev pub override_id_of : Json → ℕ → Option ℕ
override_id_of root n = integer_in (member_in (codes "id") (item_in n (get (codes "overrides") root)))

abbrev payload_in : Members → Option Json
payload_in no_members = None
payload_in (member key value others) = cond (bytes_eq key (codes "F16")) None (Some value)

-- what a literal holds; of an f16 naga writes the bits, which count as nothing
abbrev pub payload_of : Json → Option Json
payload_of null = None
payload_of (boolean b) = None
payload_of (number s) = None
payload_of (string s) = None
payload_of (array js) = None
payload_of (object ms) = payload_in ms

-- a number or a bool as it is spelled
abbrev pub spelled : Json → Option (List ℕ)
spelled null = None
spelled (boolean true) = Some (codes "true")
spelled (boolean false) = Some (codes "false")
spelled (number s) = Some s
spelled (string s) = None
spelled (array js) = None
spelled (object ms) = None

-- `overrides[n].init`
abbrev pub override_init_of : Json → ℕ → Option ℕ
override_init_of root n = integer_in (member_in (codes "init") (item_in n (get (codes "overrides") root)))

abbrev pub global_expression_at : Json → ℕ → Option Json
global_expression_at root n = item_in n (get (codes "global_expressions") root)

-- `global_expressions[init].Literal` as it is spelled
abbrev pub override_default_of : Json → ℕ → Option (List ℕ)
override_default_of root n =
    option_and_then spelled (option_and_then payload_of (member_in (codes "Literal")
    (option_and_then (global_expression_at root) (override_init_of root n))))

abbrev pub entry_point_at : Json → ℕ → Option Json
entry_point_at root n = item_in n (get (codes "entry_points") root)

-- `entry_points[n].workgroup_size[axis]`
abbrev pub workgroup_size_of : Json → ℕ → ℕ → Option ℕ
workgroup_size_of root n axis = integer_in (item_in axis (member_in (codes "workgroup_size") (entry_point_at root n)))

-- `entry_points[n].workgroup_size_overrides[axis]`, a handle of a global expression
abbrev pub workgroup_override_of : Json → ℕ → ℕ → Option ℕ
workgroup_override_of root n axis = integer_in (item_in axis (member_in (codes "workgroup_size_overrides") (entry_point_at root n)))

-- `entry_points[n].function.arguments[index].binding`
abbrev pub argument_binding_at : Json → ℕ → ℕ → Option Json
argument_binding_at root n index =
    member_in (codes "binding") (item_in index (member_in (codes "arguments") (member_in (codes "function") (entry_point_at root n))))

-- `entry_points[n].function.result.binding`
abbrev pub result_binding_at : Json → ℕ → Option Json
result_binding_at root n = member_in (codes "binding") (member_in (codes "result") (member_in (codes "function") (entry_point_at root n)))

-- `types[n].inner.Struct.members[index].binding`
abbrev pub member_binding_at : Json → ℕ → ℕ → Option Json
member_binding_at root n index =
    member_in (codes "binding") (item_in index (member_in (codes "members") (member_in (codes "Struct")
    (member_in (codes "inner") (item_in n (get (codes "types") root))))))

-- ---- a binding between stages, or to a built-in value

-- `BuiltIn`, e.g. `"VertexIndex"` or `{"Position":{"invariant":false}}`
abbrev pub builtin_of : Option Json → Option (List ℕ)
builtin_of binding = variant_in (member_in (codes "BuiltIn") binding)

-- `Location.NAME`
abbrev pub location_part : List ℕ → Option Json → Option Json
location_part name binding = member_in name (member_in (codes "Location") binding)

abbrev pub location_of : Option Json → Option ℕ
location_of binding = integer_in (location_part (codes "location") binding)

abbrev pub blend_source_of : Option Json → Option ℕ
blend_source_of binding = integer_in (location_part (codes "blend_src") binding)

abbrev pub interpolation_of : Option Json → Option (List ℕ)
interpolation_of binding = text_in (location_part (codes "interpolation") binding)

abbrev pub sampling_of : Option Json → Option (List ℕ)
sampling_of binding = text_in (location_part (codes "sampling") binding)

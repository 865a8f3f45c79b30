-- Types, globals and overrides as JSON.
use Rattle.std.specs.Prelude.{ℕ, List, [], ◌∷◌, ◌++◌, Option, Some, None, codes, flat_map, slice_get}
use Rattle.std.specs.Fmt.{decimal}
use Rattle.std.specs.List.{enumerate_from}
use Rattle.std.specs.Option.{option_map}
use Rattle.json.specs.Json.{Json}
use Rattle.json.specs.Token.{Token, begin_object, end_object, begin_array, end_array, key, string, number, null}
use Rattle.shader_interface.specs.Interface.{binding_of, group_of, override_default_of, override_id_of}
use Rattle.shader_ir.specs.declared.«module».GlobalVariable.{GlobalVariable}
use Rattle.shader_ir.specs.declared.«module».Module.{Module}
use Rattle.shader_ir.specs.declared.«module».Override.{Override}
use Rattle.shader_ir.specs.declared.proc.layouter.TypeLayout.{TypeLayout}
use Rattle.shader_ir.specs.declared.types.«Type».{«Type»}
use Rattle.shader_ir.specs.declared.types.StructMember.{StructMember}
use Rattle.shader_ir.specs.declared.types.TypeInner.{TypeInner}
use Rattle.shader_ir.specs.declared.types.TypeInner.TheVariants as types
use Rattle.shader_report_resources.specs.Spaces.{space_word, stated_access}
use Rattle.shader_report_resources.specs.Words.{words}
use Rattle.shader_report_resources.specs.Written.{number_member, text_member}

-- the position of a type, and its words
abbrev pub type_members : Module → ℕ → List Token
type_members m ty = number_member (codes "ty") (Some ty) ++ text_member (codes "type") (Some (words m ty))

-- ---- types

-- the distance of an array's elements
abbrev pub stride_of : TypeInner → Option ℕ
stride_of (types.Array base size stride) = Some stride
stride_of _ = None

abbrev pub layout_size : TypeLayout → ℕ
layout_size layout = layout.size

abbrev pub layout_alignment : TypeLayout → ℕ
layout_alignment layout = layout.alignment

unfoldable pub layout_members : Option TypeLayout → List Token
layout_members layout =
    number_member (codes "size") (option_map layout_size layout) ++ number_member (codes "alignment") (option_map layout_alignment layout)

module _ (m : Module) where
  unfoldable pub member_tokens : StructMember → List Token
  member_tokens member =
      begin_object ∷ (text_member (codes "name") member.name ++ (type_members m member.ty
      ++ (number_member (codes "offset") (Some member.offset) ++ end_object ∷ [])))

  -- the members of a struct, and null of another type
  abbrev pub members_tokens : TypeInner → List Token
  members_tokens (types.Struct span members) = begin_array ∷ (flat_map member_tokens members ++ end_array ∷ [])
  members_tokens _ = null ∷ []

  module _ (layouts : List TypeLayout) where
    unfoldable pub type_tokens : ℕ × «Type» → List Token
    type_tokens entry =
        begin_object ∷ (text_member (codes "type") (Some (words m entry.0)) ++ (layout_members (slice_get layouts entry.0)
        ++ (number_member (codes "stride") (stride_of entry.1.inner) ++ (key (codes "members") ∷ (members_tokens entry.1.inner
        ++ end_object ∷ [])))))

    abbrev pub types_tokens : List Token
    types_tokens = flat_map type_tokens (enumerate_from 0 m.types)

-- ---- globals and overrides

unfoldable pub binding_members : Json → ℕ → List Token
binding_members j position = number_member (codes "group") (group_of j position) ++ number_member (codes "binding") (binding_of j position)

module _ (j : Json) (m : Module) where
  unfoldable pub global_tokens : ℕ × GlobalVariable → List Token
  global_tokens entry =
      begin_object ∷ (text_member (codes "name") entry.1.name ++ (binding_members j entry.0
      ++ (text_member (codes "space") (Some (space_word entry.1.space)) ++ (text_member (codes "access") (stated_access entry.1.space)
      ++ (type_members m entry.1.ty ++ end_object ∷ [])))))

  abbrev pub globals_tokens : List Token
  globals_tokens = flat_map global_tokens (enumerate_from 0 m.global_variables)

  unfoldable pub override_tokens : ℕ × Override → List Token
  override_tokens entry =
      begin_object ∷ (text_member (codes "name") entry.1.name ++ (number_member (codes "id") (override_id_of j entry.0)
      ++ (type_members m entry.1.ty ++ (text_member (codes "default") (override_default_of j entry.0) ++ end_object ∷ []))))

  abbrev pub overrides_tokens : List Token
  overrides_tokens = flat_map override_tokens (enumerate_from 0 m.overrides)

-- What is written of resources spells a value.
use Rattle.std.proofs.Common.{◌++◌, ◌∷◌, ◌≡◌, ◌∙◌, [], ap, append_assoc, subst, sym, ℕ, suc, Bool, true, false, cond}
use Rattle.std.proofs.Common.{List, Option, Some, None, codes}
use Rattle.std.specs.List.{enumerate_from}
use Rattle.std.specs.Option.{option_map}
use Rattle.std.specs.Prelude.{slice_get}
use Rattle.json.specs.Json.{Json}
use Rattle.json.specs.Token.{Token, begin_array, begin_object, end_array, end_object, key}
use Rattle.report_json.proofs.SpellingLemmas.{each_item, each_items, no_item, one_item, one_member, spell_array, spell_boolean}
use Rattle.report_json.proofs.SpellingLemmas.{spell_null, spell_number, spell_object, spell_text, then_items, then_member, then_members}
use Rattle.report_json.specs.Values.{SpellItems, SpellMembers, SpellValue}
use Rattle.shader_analysis.specs.Recorded.{Recorded}
use Rattle.shader_info.specs.declared.flags.GlobalUse.{GlobalUse}
use Rattle.shader_interface.specs.Interface.{argument_binding_at, binding_of, blend_source_of, builtin_of, group_of, interpolation_of}
use Rattle.shader_interface.specs.Interface.{location_of, member_binding_at, override_default_of, override_id_of, result_binding_at}
use Rattle.shader_interface.specs.Interface.{sampling_of, workgroup_override_of, workgroup_size_of}
use Rattle.shader_ir.specs.declared.«module».GlobalVariable.{GlobalVariable}
use Rattle.shader_ir.specs.declared.«module».Module.{Module}
use Rattle.shader_ir.specs.declared.«module».Override.{Override}
use Rattle.shader_ir.specs.declared.function.EntryPoint.{EntryPoint}
use Rattle.shader_ir.specs.declared.function.Function.{Function}
use Rattle.shader_ir.specs.declared.function.FunctionArgument.{FunctionArgument}
use Rattle.shader_ir.specs.declared.function.FunctionResult.{FunctionResult}
use Rattle.shader_ir.specs.declared.proc.layouter.TypeLayout.{TypeLayout}
use Rattle.shader_ir.specs.declared.types.«Type».{«Type»}
use Rattle.shader_ir.specs.declared.types.StructMember.{StructMember}
use Rattle.shader_ir.specs.declared.types.TypeInner.{TypeInner}
use Rattle.shader_ir.specs.declared.types.TypeInner.TheVariants as types
use Rattle.shader_report_resources.specs.Entries.{access_members, axes_tokens, bound_members, entry_tokens, idle_tokens, is_idle, is_used}
use Rattle.shader_report_resources.specs.Entries.{pair_tokens, size_members, stage_word, use_tokens, uses_members}
use Rattle.shader_report_resources.specs.Entries as entries
use Rattle.shader_report_resources.specs.Interfaces.{bound_tokens, inputs_tokens, location_members, outputs_of}
use Rattle.shader_report_resources.specs.Interfaces.{value_tokens}
use Rattle.shader_report_resources.specs.Resources.{AreResources, declared_tokens, resources_tokens, used_tokens}
use Rattle.shader_report_resources.specs.Spaces.{space_word, stated_access}
use Rattle.shader_report_resources.specs.Tables.{binding_members, global_tokens, layout_alignment, layout_members, layout_size}
use Rattle.shader_report_resources.specs.Tables.{member_tokens, members_tokens, override_tokens, stride_of, type_members, type_tokens}
use Rattle.shader_report_resources.specs.Words.{words}
use Rattle.shader_report_resources.specs.Written.{number_member, number_or_null, text_member, text_or_null}
use Rattle.shader_report_resources.specs.declared.entries.EntryUses.{EntryUses}

-- ---- members

number_value : {most : ℕ} (n : Option ℕ) → SpellValue most (number_or_null n ∷ [])
number_value (Some n) = spell_number
number_value None = spell_null

text_value : {most : ℕ} (text : Option (List ℕ)) → SpellValue most (text_or_null text ∷ [])
text_value (Some text) = spell_text
text_value None = spell_null

number_spelled : {most : ℕ} {name : List ℕ} (n : Option ℕ) → SpellMembers most (number_member name n)
number_spelled n = one_member (number_value n)

text_spelled : {most : ℕ} {name : List ℕ} (text : Option (List ℕ)) → SpellMembers most (text_member name text)
text_spelled text = one_member (text_value text)

-- a member with an array, and others
then_array : {most : ℕ} {name : List ℕ} {ts us : List Token} → SpellItems most ts → SpellMembers (suc most) us →
    SpellMembers (suc most) (key name ∷ begin_array ∷ (ts ++ end_array ∷ us))
then_array {most} {name} {ts} {us} items others =
    subst (λ l. SpellMembers (suc most) (key name ∷ begin_array ∷ l)) (append_assoc ts (end_array ∷ []) us)
    (then_member (spell_array items) others)

-- ---- types

type_spelled : {most : ℕ} (m : Module) (ty : ℕ) → SpellMembers most (type_members m ty)
type_spelled m ty = then_members (number_spelled (Some ty)) (text_spelled (Some (words m ty)))

layout_spelled : {most : ℕ} (layout : Option TypeLayout) → SpellMembers most (layout_members layout)
unfolding layout_members
layout_spelled layout =
    then_members (number_spelled (option_map layout_size layout)) (number_spelled (option_map layout_alignment layout))

member_value : {most : ℕ} (m : Module) (member : StructMember) → SpellValue (suc most) (member_tokens m member)
unfolding member_tokens
member_value m member =
    spell_object (then_members (text_spelled member.name)
    (then_members (type_spelled m member.ty) (number_spelled (Some member.offset))))

struct_value : {most : ℕ} (m : Module) (inner : TypeInner) → SpellValue (suc (suc most)) (members_tokens m inner)
struct_value m (types.Struct span members) = spell_array (each_item (member_value m) members)
struct_value m _ = spell_null

type_value : {most : ℕ} (m : Module) (layouts : List TypeLayout) (entry : ℕ × «Type») →
    SpellValue (suc (suc (suc most))) (type_tokens m layouts entry)
unfolding type_tokens layout_members
type_value m layouts entry =
    spell_object (then_members (text_spelled (Some (words m entry.0)))
    (then_members (layout_spelled (slice_get layouts entry.0))
    (then_members (number_spelled (stride_of entry.1.inner)) (one_member (struct_value m entry.1.inner)))))

-- ---- globals and overrides

binding_spelled : {most : ℕ} (j : Json) (position : ℕ) → SpellMembers most (binding_members j position)
unfolding binding_members
binding_spelled j position = then_members (number_spelled (group_of j position)) (number_spelled (binding_of j position))

global_value : {most : ℕ} (j : Json) (m : Module) (entry : ℕ × GlobalVariable) → SpellValue (suc most) (global_tokens j m entry)
unfolding global_tokens binding_members
global_value j m entry =
    spell_object (then_members (text_spelled entry.1.name)
    (then_members (binding_spelled j entry.0)
    (then_members (text_spelled (Some (space_word entry.1.space)))
    (then_members (text_spelled (stated_access entry.1.space)) (type_spelled m entry.1.ty)))))

override_value : {most : ℕ} (j : Json) (m : Module) (entry : ℕ × Override) → SpellValue (suc most) (override_tokens j m entry)
unfolding override_tokens
override_value j m entry =
    spell_object (then_members (text_spelled entry.1.name)
    (then_members (number_spelled (override_id_of j entry.0))
    (then_members (type_spelled m entry.1.ty) (text_spelled (override_default_of j entry.0)))))

-- ---- what entry points use

items_if : {most : ℕ} {ts : List Token} (b : Bool) → SpellItems most ts → SpellItems most (cond b ts [])
items_if true items = items
items_if false items = no_item

used_value : {most : ℕ} (position : ℕ) (uses : GlobalUse) → SpellValue (suc most) (entries.used_tokens position uses)
unfolding entries.used_tokens access_members
used_value position uses =
    spell_object (then_member spell_number
    (then_member spell_boolean (then_member spell_boolean (then_member spell_boolean (one_member spell_boolean)))))

use_items : {most : ℕ} (entry : ℕ × GlobalUse) → SpellItems (suc most) (use_tokens entry)
use_items entry = items_if (is_used entry.1) (one_item (used_value entry.0 entry.1))

pair_value : {most : ℕ} (pair : ℕ × ℕ) → SpellValue (suc most) (pair_tokens pair)
unfolding pair_tokens
pair_value pair = spell_object (then_member spell_number (one_member spell_number))

axes_spelled : {most : ℕ} (name : List ℕ) (x y z : Option ℕ) → SpellMembers (suc most) (axes_tokens name x y z)
unfolding axes_tokens
axes_spelled name x y z =
    one_member (spell_array (then_items (one_item (number_value x)) (then_items (one_item (number_value y)) (one_item (number_value z)))))

size_spelled : {most : ℕ} (j : Json) (place : ℕ) → SpellMembers (suc most) (size_members j place)
unfolding size_members
size_spelled j place =
    then_members (axes_spelled _ (workgroup_size_of j place 0) (workgroup_size_of j place 1) (workgroup_size_of j place 2))
    (axes_spelled _ (workgroup_override_of j place 0) (workgroup_override_of j place 1) (workgroup_override_of j place 2))

uses_spelled : {most : ℕ} (uses : EntryUses) → SpellMembers (suc (suc most)) (uses_members uses)
unfolding uses_members
uses_spelled uses =
    then_array (each_items use_items (enumerate_from 0 uses.info.now.global_uses))
    (one_member (spell_array (each_item pair_value uses.pairs)))

-- ---- what entry points take and return

location_spelled : {most : ℕ} (binding : Option Json) → SpellMembers most (location_members binding)
unfolding location_members
location_spelled binding =
    then_members (number_spelled (location_of binding))
    (then_members (number_spelled (blend_source_of binding))
    (then_members (text_spelled (interpolation_of binding)) (text_spelled (sampling_of binding))))

bound_value : {most : ℕ} (m : Module) (name : Option (List ℕ)) (ty : ℕ) (binding : Option Json) →
    SpellValue (suc most) (value_tokens m name ty binding)
unfolding value_tokens location_members
bound_value m name ty binding =
    spell_object (then_members (text_spelled name)
    (then_members (type_spelled m ty) (then_members (text_spelled (builtin_of binding)) (location_spelled binding))))

module _ (j : Json) (m : Module) where
  bound_by_inner : {most : ℕ} (name : Option (List ℕ)) (ty : ℕ) (binding : Option Json) (type_name : Option (List ℕ)) (inner : TypeInner) →
      SpellItems (suc most) (bound_tokens j m name ty binding (Some (record { name = type_name; inner = inner })))
  bound_by_inner name ty binding type_name (types.Struct span members) =
      each_item (λ (entry : ℕ × StructMember). bound_value m entry.1.name entry.1.ty (member_binding_at j ty entry.0))
      (enumerate_from 0 members)
  bound_by_inner name ty binding type_name _ = one_item (bound_value m name ty binding)

  bound_items : {most : ℕ} (name : Option (List ℕ)) (ty : ℕ) (binding : Option Json) (type : Option «Type») →
      SpellItems (suc most) (bound_tokens j m name ty binding type)
  bound_items name ty binding None = one_item (bound_value m name ty binding)
  bound_items name ty binding (Some type) = bound_by_inner name ty binding type.name type.inner

  inputs_items : {most : ℕ} (place : ℕ) (function : Function) → SpellItems (suc most) (inputs_tokens j m place function)
  inputs_items place function =
      each_items (λ (entry : ℕ × FunctionArgument).
      bound_items entry.1.name entry.1.ty (argument_binding_at j place entry.0) (slice_get m.types entry.1.ty))
      (enumerate_from 0 function.arguments)

  outputs_items : {most : ℕ} (place : ℕ) (result : Option FunctionResult) → SpellItems (suc most) (outputs_of j m place result)
  outputs_items place None = no_item
  outputs_items place (Some result) = bound_items None result.ty (result_binding_at j place) (slice_get m.types result.ty)

  bound_spelled : {most : ℕ} (place : ℕ) (entry : EntryPoint) → SpellMembers (suc (suc most)) (bound_members j m place entry)
  unfolding bound_members
  bound_spelled place entry =
      then_array (inputs_items place entry.function) (one_member (spell_array (outputs_items place entry.function.result)))

  regrouped : {A : Type 0} (a b c end : List A) → (a ++ (b ++ c)) ++ end ≡ a ++ (b ++ (c ++ end))
  regrouped a b c end = append_assoc a (b ++ c) end ∙ ap (λ l. a ++ l) (append_assoc b c end)

  entry_value : (of : ℕ × EntryUses) → SpellValue 3 (entry_tokens j m of)
  unfolding entry_tokens
  entry_value of =
      let name = text_member (codes "name") (Some of.1.entry.now.name) in
      let stage = text_member (codes "stage") (Some (stage_word of.1.entry.now.stage)) in
      subst (λ l. SpellValue 3 (begin_object ∷ (name ++ (stage ++ l))))
      (regrouped (size_members j of.0) (uses_members of.1) (bound_members j m of.0 of.1.entry.now) (end_object ∷ []))
      (spell_object (then_members (text_spelled (Some of.1.entry.now.name))
      (then_members (text_spelled (Some (stage_word of.1.entry.now.stage)))
      (then_members (size_spelled j of.0) (then_members (uses_spelled of.1) (bound_spelled of.0 of.1.entry.now))))))

  -- ---- resources

  declared_spelled : (layouts : List TypeLayout) → SpellMembers 4 (declared_tokens j m layouts)
  unfolding declared_tokens
  declared_spelled layouts =
      then_array (each_item (type_value m layouts) (enumerate_from 0 m.types))
      (then_array (each_item (global_value j m) (enumerate_from 0 m.global_variables))
      (one_member (spell_array (each_item (override_value j m) (enumerate_from 0 m.overrides)))))

  idle_items : {most : ℕ} (uses : List EntryUses) (entry : ℕ × GlobalVariable) → SpellItems most (idle_tokens j uses entry)
  idle_items uses entry = items_if (is_idle j uses entry.0) (one_item spell_number)

  used_spelled : (uses : List EntryUses) → SpellMembers 4 (used_tokens j m uses)
  unfolding used_tokens
  used_spelled uses =
      then_array (each_item entry_value (enumerate_from 0 uses))
      (one_member (spell_array (each_items (idle_items uses) (enumerate_from 0 m.global_variables))))

  resources_value : (layouts : List TypeLayout) (uses : List EntryUses) → SpellValue 5 (resources_tokens j m layouts uses)
  unfolding resources_tokens
  resources_value layouts uses =
      subst (λ l. SpellValue 5 (begin_object ∷ l)) (append_assoc (declared_tokens j m layouts) (used_tokens j m uses) (end_object ∷ []))
      (spell_object (then_members (declared_spelled layouts) (used_spelled uses)))

  pub resources_spelled : (layouts : List TypeLayout) (infos : Recorded) (tokens : List Token) → AreResources j m layouts infos tokens →
      SpellValue 5 tokens
  resources_spelled layouts infos tokens are = subst (SpellValue 5) (sym are.written) (resources_value layouts are.uses)

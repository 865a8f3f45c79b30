-- Structs as declarations, with the layouts of their members.
use Rattle.std.specs.Prelude.{ℕ, ◌+◌, ◌-◌, Bool, true, false, List, [], ◌∷◌, ◌++◌, codes, if◌then◌else◌, is_some, length, nat_lt}
use Rattle.std.specs.Prelude.{Option, Some, None, slice_get}
use Rattle.std.specs.Option.{option_and_then}
use Rattle.std.specs.Fmt.{decimal}
use Rattle.report_layouts.specs.Columns.{Row, aligned_text}
use Rattle.report_names.specs.Items.{item_text}
use Rattle.report_names.specs.Types.{type_text}
use Rattle.report_names.specs.declared.items.ItemKind.TheVariants as kinds
use Rattle.shader_ir.specs.declared.«module».Module.{Module}
use Rattle.shader_ir.specs.declared.proc.layouter.TypeLayout.{TypeLayout}
use Rattle.shader_ir.specs.declared.types.ArraySize.TheVariants.{Dynamic}
use Rattle.shader_ir.specs.declared.types.StructMember.{StructMember}
use Rattle.shader_ir.specs.declared.types.«Type».{«Type»}
use Rattle.shader_ir.specs.declared.types.TypeInner.{TypeInner}
use Rattle.shader_ir.specs.declared.types.TypeInner.TheVariants.{Array}

-- the distance of the elements of an array without a fixed length
abbrev stride_in : TypeInner → Option ℕ
stride_in (Array base Dynamic stride) = Some stride
stride_in _ = None

abbrev pub stride_of : Module → ℕ → Option ℕ
stride_of m ty = option_and_then (λ (found : «Type»). stride_in found.inner) (slice_get m.types ty)

-- the last member has no fixed length
abbrev pub is_open : Module → List StructMember → Bool
is_open m members = is_some (option_and_then (λ (last : StructMember). stride_of m last.ty) (slice_get members (length members - 1)))

abbrev pub alignment_text : Option TypeLayout → List ℕ
alignment_text (Some layout) = codes "align " ++ decimal layout.alignment
alignment_text None = []

-- the size of a member, or the distance of its elements
abbrev pub member_size : Option ℕ → Option TypeLayout → List ℕ
member_size (Some stride) layout = codes "stride " ++ decimal stride
member_size None (Some layout) = codes "size " ++ decimal layout.size
member_size None None = codes "no layout"

abbrev pub head_size : Bool → Option TypeLayout → List ℕ
head_size true (Some layout) = codes "size " ++ decimal layout.size ++ codes " with one element"
head_size false (Some layout) = codes "size " ++ decimal layout.size
head_size no_end None = codes "no layout"

-- the bytes between two offsets, if there are any
abbrev pub padding : ℕ → ℕ → List Row
padding start end = if nat_lt start end then record {
  declared = codes "  // padding";
  offset = codes "offset " ++ decimal start;
  alignment = [];
  size = codes "size " ++ decimal (end - start);
} ∷ [] else []

-- the bytes of a struct behind the end of its last member, unless that has no fixed length
abbrev pub last_padding : Bool → ℕ → ℕ → List Row
last_padding no_end span end = if no_end then [] else padding end span

abbrev size_or_none : Option TypeLayout → ℕ
size_or_none (Some layout) = layout.size
size_or_none None = 0

module _ (layouts : List TypeLayout) where
  -- where a member ends
  abbrev pub end_of : StructMember → ℕ
  end_of member = member.offset + size_or_none (slice_get layouts member.ty)

  abbrev pub head_line : Bool → ℕ → Option (List ℕ) → Row
  head_line no_end ty name = record {
    declared = codes "struct " ++ (item_text kinds.Struct name ty ++ codes " {");
    offset = [];
    alignment = alignment_text (slice_get layouts ty);
    size = head_size no_end (slice_get layouts ty);
  }

  module _ (m : Module) where
    abbrev pub member_line : ℕ → StructMember → Row
    member_line index member = record {
      declared = codes "  " ++ (item_text kinds.Member member.name index ++ (codes ": " ++ (type_text m 4 member.ty ++ codes ",")));
      offset = codes "offset " ++ decimal member.offset;
      alignment = alignment_text (slice_get layouts member.ty);
      size = member_size (stride_of m member.ty) (slice_get layouts member.ty);
    }

    -- members from an index and an offset on, with the padding before each; then what stands behind the end of the last one
    abbrev pub member_lines : (ℕ → List Row) → ℕ → ℕ → List StructMember → List Row
    member_lines last index start [] = last start
    member_lines last index start (member ∷ members) =
        padding start member.offset ++ member_line index member ∷ member_lines last (index + 1) (end_of member) members

    abbrev pub struct_lines : ℕ → Option (List ℕ) → List StructMember → ℕ → List Row
    struct_lines ty name members span =
        head_line (is_open m members) ty name ∷ member_lines (last_padding (is_open m members) span) 0 0 members

    abbrev pub declaration_text : ℕ → Option (List ℕ) → List StructMember → ℕ → List ℕ
    declaration_text ty name members span = aligned_text (struct_lines ty name members span) ++ codes "}\n"

-- Globals and overrides as text for people.
use Rattle.std.specs.Prelude.{ℕ, List, [], ◌++◌, Option, Some, None, codes, map, slice_get}
use Rattle.std.specs.Fmt.{decimal}
use Rattle.std.specs.List.{enumerate_from}
use Rattle.json.specs.Json.{Json}
use Rattle.report_columns.specs.Columns.{Row, row}
use Rattle.report_names.specs.Declarations.{declaration_text}
use Rattle.report_names.specs.Items.{item_text}
use Rattle.report_names.specs.Names.{name_text}
use Rattle.report_names.specs.Types.{type_text}
use Rattle.report_names.specs.declared.items.ItemKind.TheVariants as kinds
use Rattle.shader_interface.specs.Bound.{attributes, bound_at}
use Rattle.shader_interface.specs.Interface.{override_default_of, override_id_of}
use Rattle.shader_ir.specs.declared.«module».GlobalVariable.{GlobalVariable}
use Rattle.shader_ir.specs.declared.«module».Module.{Module}
use Rattle.shader_ir.specs.declared.«module».Override.{Override}
use Rattle.shader_ir.specs.declared.proc.layouter.TypeLayout.{TypeLayout}
use Rattle.shader_ir.specs.declared.types.«Type».{«Type»}
use Rattle.shader_ir.specs.declared.types.AddressSpace.{AddressSpace}
use Rattle.shader_ir.specs.declared.types.AddressSpace.TheVariants as spaces
use Rattle.shader_ir.specs.declared.types.ArraySize.TheVariants.{Dynamic}
use Rattle.shader_ir.specs.declared.types.TypeInner.{TypeInner}
use Rattle.shader_ir.specs.declared.types.TypeInner.TheVariants.{Array}

-- ---- globals

abbrev stride_in : TypeInner → Option ℕ
stride_in (Array base Dynamic stride) = Some stride
stride_in _ = None

-- the distance of the elements of an array without a fixed length
abbrev pub element_stride : Option «Type» → Option ℕ
element_stride (Some type) = stride_in type.inner
element_stride None = None

-- a size and an alignment
abbrev pub size_words : (size alignment : ℕ) → List ℕ
size_words size alignment = decimal size ++ (codes " bytes, align " ++ decimal alignment)

-- the size of an element and an alignment
abbrev pub element_words : (stride alignment : ℕ) → List ℕ
element_words stride alignment = decimal stride ++ (codes " bytes an element, align " ++ decimal alignment)

-- the size and the alignment of a layout, or the size of an element
abbrev pub room_of : Option ℕ → Option TypeLayout → List ℕ
room_of stride None = []
room_of (Some stride) (Some layout) = element_words stride layout.alignment
room_of None (Some layout) = size_words layout.size layout.alignment

-- of images, samplers and other handles no size is told
abbrev pub room_words : Module → List TypeLayout → ℕ → AddressSpace → List ℕ
room_words m layouts ty spaces.Handle = []
room_words m layouts ty space = room_of (element_stride (slice_get m.types ty)) (slice_get layouts ty)

module _ (j : Json) (m : Module) where
  -- a global as WGSL declares it, with its binding
  abbrev pub bound_declaration : ℕ × GlobalVariable → List ℕ
  bound_declaration entry = attributes (bound_at j entry.0) ++ declaration_text m entry.1 entry.0

  module _ (layouts : List TypeLayout) where
    abbrev pub global_row : ℕ × GlobalVariable → Row
    global_row entry = row (bound_declaration entry) (room_words m layouts entry.1.ty entry.1.space)

    -- a line for each global
    abbrev pub global_rows : List Row
    global_rows = map global_row (enumerate_from 0 m.global_variables)

-- ---- overrides

abbrev pub id_words : Option ℕ → List ℕ
id_words (Some id) = codes "@id(" ++ (decimal id ++ codes ") ")
id_words None = []

-- a literal as the JSON spells it, cut like a name; three dots stand for another initial value
abbrev pub value_words : Option (List ℕ) → Option ℕ → List ℕ
value_words (Some default) init = codes " = " ++ name_text default
value_words None (Some init) = codes " = ..."
value_words None None = []

unfoldable pub override_declaration : (id name ty value : List ℕ) → List ℕ
override_declaration id name ty value = id ++ (codes "override " ++ (name ++ (codes ": " ++ (ty ++ value))))

module _ (j : Json) (m : Module) where
  abbrev pub override_row : ℕ × Override → Row
  override_row entry = row (override_declaration (id_words (override_id_of j entry.0)) (item_text kinds.Override entry.1.name entry.0)
      (type_text m 4 entry.1.ty) (value_words (override_default_of j entry.0) entry.1.init)) []

  -- a line for each override
  abbrev pub override_rows : List Row
  override_rows = map override_row (enumerate_from 0 m.overrides)

-- The structs of a module as text.
use Rattle.std.specs.Prelude.{◌≡◌, ℕ, zero, suc, Bool, false, List, [], ◌++◌, codes, Option, Some, None, slice_get}
use Rattle.report_layouts.specs.Declarations.{declaration_text}
use Rattle.shader_ir.specs.declared.«module».Module.{Module}
use Rattle.shader_ir.specs.declared.proc.layouter.TypeLayout.{TypeLayout}
use Rattle.shader_ir.specs.declared.types.StructMember.{StructMember}
use Rattle.shader_ir.specs.declared.types.«Type».{«Type»}
use Rattle.shader_ir.specs.declared.types.TypeInner.{TypeInner}
use Rattle.shader_ir.specs.declared.types.TypeInner.TheVariants.{Struct}

module _ (m : Module) (layouts : List TypeLayout) (is_drawn : Bool) where
  -- a struct as a declaration behind an empty line; a drawing follows only if structs are drawn
  pub record IsStruct (ty : ℕ) (name : Option (List ℕ)) (members : List StructMember) (span : ℕ) (text : List ℕ) : Type 0 where
    pub drawing : List ℕ
    pub undrawn : is_drawn ≡ false → drawing ≡ []
    pub is : text ≡ codes "\n" ++ (declaration_text layouts m ty name members span ++ drawing)

  abbrev IsOnInner : ℕ → Option (List ℕ) → TypeInner → List ℕ → Type 0
  IsOnInner ty name (Struct span members) text = IsStruct ty name members span text
  IsOnInner ty name _ text = text ≡ []

  -- the text on a type, which is empty if it is no struct
  abbrev pub IsOnType : ℕ → Option «Type» → List ℕ → Type 0
  IsOnType ty (Some found) text = IsOnInner ty found.name found.inner text
  IsOnType ty None text = text ≡ []

  -- the texts on so many types, in their order
  abbrev pub AreStructs : ℕ → List ℕ → Type 0
  AreStructs zero text = text ≡ []
  AreStructs (suc ty) text =
      (before own : List ℕ) × AreStructs ty before × IsOnType ty (slice_get m.types ty) own × (text ≡ before ++ own)

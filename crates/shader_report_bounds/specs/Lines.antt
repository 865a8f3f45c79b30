-- Lines on the checks of a function, as text for people.
use Rattle.std.specs.Prelude.{◌≡◌, ℕ, zero, suc, ◌-◌, ◌==◌, Bool, true, false, List, [], ◌∷◌, ◌++◌, Option, Some, None, codes}
use Rattle.std.specs.Prelude.{if◌then◌else◌, length, slice_get}
use Rattle.std.specs.Fmt.{decimal}
use Rattle.report_columns.specs.Columns.{Row, row}
use Rattle.report_names.specs.Types.{type_text}
use Rattle.shader_analysis_spec.specs.Program.{Function, Module}
use Rattle.shader_bounds.specs.declared.lengths.IndexableLength.{IndexableLength}
use Rattle.shader_bounds.specs.declared.lengths.IndexableLength.TheVariants.{Known, Dynamic}
use Rattle.shader_report_bounds.specs.Shown.{IsShown, handle_at}
use Rattle.shader_report_bounds.specs.Tokens.{policy_name}
use Rattle.shader_report_bounds.specs.declared.accesses.AccessCheck.{AccessCheck}

-- ---- accesses

abbrev pub length_text : IndexableLength → List ℕ
length_text (Known length) = codes "length " ++ decimal length
length_text Dynamic = codes "length known at run time"

module _ (m : Module) (f : Function) where
  -- the line on an access: what is accessed, then the length and the policy of its check
  pub record IsCheckRow (check : AccessCheck) (line : Row) : Type 0 where
    pub place : List ℕ
    pub shown : IsShown m f check.access place
    pub is : line ≡ row place (length_text check.length ++ (codes ": " ++ policy_name check.policy))

  -- a line for each access, and no other
  abbrev pub AreCheckRows : List AccessCheck → List Row → Type 0
  AreCheckRows [] rows = rows ≡ []
  AreCheckRows (check ∷ checks) rows =
      (first : Row) × (rest : List Row) × IsCheckRow check first × AreCheckRows checks rest × (rows ≡ first ∷ rest)

-- ---- lists in a line

-- the texts on so many, one behind another
abbrev pub AreTexts : (ℕ → List ℕ → Type 0) → ℕ → List ℕ → Type 0
AreTexts Is zero text = text ≡ []
AreTexts Is (suc i) text = (before own : List ℕ) × AreTexts Is i before × Is i own × (text ≡ before ++ own)

-- nothing in the first case
abbrev pub IsUnless : Bool → (List ℕ → Type 0) → List ℕ → Type 0
IsUnless true Is text = text ≡ []
IsUnless false Is text = Is text

-- commas, and `and` in front of the last one
abbrev pub separator : ℕ → ℕ → List ℕ
separator i count = if i == 0 then [] else (if i == count - 1 then codes " and " else codes ", ")

abbrev pub quoted : ℕ → ℕ → List ℕ → List ℕ
quoted i count text = separator i count ++ (codes "`" ++ (text ++ codes "`"))

-- an item of a list of so many, in backquotes
abbrev pub IsItem : (ℕ → List ℕ → Type 0) → ℕ → ℕ → Option ℕ → List ℕ → Type 0
IsItem Names i count (Some position) text = (name : List ℕ) × Names position name × (text ≡ quoted i count name)
IsItem Names i count None text = text ≡ []

module _ (m : Module) (f : Function) (positions : List ℕ) where
  abbrev pub IsCheckedItem : ℕ → List ℕ → Type 0
  IsCheckedItem i text = IsItem (IsShown m f) i (length positions) (slice_get positions i) text

  -- the indexes that are checked before they are used
  pub record IsCheckedItems (text : List ℕ) : Type 0 where
    pub items : List ℕ
    pub items_are : AreTexts IsCheckedItem (length positions) items
    pub is : text ≡ codes "  checked before use: " ++ (items ++ codes "\n")

  -- a line on them, if there are any
  abbrev pub IsCheckedLine : List ℕ → Type 0
  IsCheckedLine text = IsUnless (length positions == 0) IsCheckedItems text

abbrev pub locals_words : ℕ → List ℕ
locals_words count = if count == 1 then codes "a local of type" else codes "locals of types"

module _ (m : Module) (positions : List ℕ) where
  abbrev IsTypeName : ℕ → List ℕ → Type 0
  IsTypeName ty text = text ≡ type_text m 4 (handle_at ty)

  abbrev pub IsLocalItem : ℕ → List ℕ → Type 0
  IsLocalItem i text = IsItem IsTypeName i (length positions) (slice_get positions i) text

  -- the types of the locals to which pointers out of bounds lead
  pub record AreLocalItems (text : List ℕ) : Type 0 where
    pub items : List ℕ
    pub items_are : AreTexts IsLocalItem (length positions) items
    pub is : text ≡ codes "  out of bounds, pointers lead to " ++ (locals_words (length positions) ++ (codes " " ++ (items ++ codes "\n")))

  -- a line on them, if there are any
  abbrev pub IsLocalsLine : List ℕ → Type 0
  IsLocalsLine text = IsUnless (length positions == 0) AreLocalItems text

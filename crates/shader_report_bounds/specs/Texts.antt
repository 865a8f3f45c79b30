-- Bounds checks as text for people.
use Rattle.std.specs.Prelude.{◌≡◌, ◌==◌, ◌&&◌, ℕ, Bool, true, false, List, [], ◌++◌, Option, Some, None, codes, length, slice_get}
use Rattle.report_columns.specs.Columns.{Row, rows_text}
use Rattle.report_names.specs.Items.{override_text}
use Rattle.report_places.specs.Sites.{function_of}
use Rattle.report_places.specs.Words.{body_text}
use Rattle.report_places.specs.declared.body_place.BodyPlace.{BodyPlace}
use Rattle.report_places.specs.declared.body_place.BodyPlace.TheVariants.{EntryPoint, Function as Called}
use Rattle.shader_analysis_spec.specs.Program.{Function, Module}
use Rattle.shader_bounds.specs.declared.policies.BoundsCheckPolicies.{BoundsCheckPolicies}
use Rattle.shader_report_bounds.specs.Lines.{AreCheckRows, AreTexts, IsCheckedLine, IsLocalsLine, IsUnless}
use Rattle.shader_report_bounds.specs.Tokens.{policy_name}
use Rattle.shader_report_bounds.specs.declared.function.FunctionBounds.{FunctionBounds}
use Rattle.shader_report_bounds.specs.declared.module_bounds.ModuleBounds.{ModuleBounds}
use Rattle.shader_report_bounds.specs.declared.module_bounds.ModuleBounds.TheVariants.{Found, Unsized}

-- ---- the first line

unfoldable pub policies_words : (index buffer image_load binding_array : List ℕ) → List ℕ
policies_words index buffer image_load binding_array =
    codes "\nbounds checks: index " ++ (index ++ (codes ", buffer " ++ (buffer ++ (codes ", image_load " ++ (image_load
    ++ (codes ", binding_array " ++ (binding_array ++ codes "\n")))))))

abbrev pub policies_line : BoundsCheckPolicies → List ℕ
policies_line policies = policies_words (policy_name policies.index) (policy_name policies.buffer) (policy_name policies.image_load)
    (policy_name policies.binding_array)

-- ---- an override without a value

unfoldable pub unsized_words : (name : List ℕ) → List ℕ
unsized_words name = codes "  unknown: `" ++ (name ++ (codes "` sizes an array and has no value above 0 that is known here\n  help: give `"
    ++ (name ++ codes "` a literal value above 0\n")))

abbrev pub unsized_lines : Module → ℕ → List ℕ
unsized_lines m handle = unsized_words (override_text m handle)

-- ---- functions

-- there is nothing to say of a function
abbrev pub is_free : FunctionBounds → Bool
is_free bounds = length bounds.accesses.items == 0 && (length bounds.checked_indexes.items == 0 && length bounds.local_types.items == 0)

-- the entry point, or the function, of a number
abbrev pub place_of : Bool → ℕ → BodyPlace
place_of true i = EntryPoint i
place_of false i = Called i

module _ (m : Module) where
  -- the block on a function behind an empty line: its heading, and a line for each access that needs a check; then the lists
  pub record IsBlock (place : BodyPlace) (f : Function) (bounds : FunctionBounds) (text : List ℕ) : Type 0 where
    pub rows : List Row
    pub rows_are : AreCheckRows m f bounds.accesses.items rows
    pub checked : List ℕ
    pub checked_is : IsCheckedLine m f bounds.checked_indexes.items checked
    pub locals : List ℕ
    pub locals_is : IsLocalsLine m bounds.local_types.items locals
    pub is : text ≡ codes "\n" ++ (body_text m place ++ (codes "\n" ++ (rows_text rows ++ (checked ++ locals))))

  -- nothing of a function without checks
  abbrev pub IsOnFunction : BodyPlace → Option Function → Option FunctionBounds → List ℕ → Type 0
  IsOnFunction place (Some f) (Some bounds) text = IsUnless (is_free bounds) (IsBlock place f bounds) text
  IsOnFunction place (Some f) None text = text ≡ []
  IsOnFunction place None bounds text = text ≡ []

  abbrev pub IsOnPlace : Bool → List FunctionBounds → ℕ → List ℕ → Type 0
  IsOnPlace is_entry_point bounds i text =
      IsOnFunction (place_of is_entry_point i) (function_of m (place_of is_entry_point i)) (slice_get bounds i) text

  -- the blocks on all functions, or on all entry points, in their order
  abbrev pub AreBlocks : Bool → List FunctionBounds → List ℕ → Type 0
  AreBlocks is_entry_point bounds text = AreTexts (IsOnPlace is_entry_point bounds) (length bounds) text

  pub record AreAllBlocks (policies : BoundsCheckPolicies) (functions entry_points : List FunctionBounds) (text : List ℕ) : Type 0 where
    pub functions_text : List ℕ
    pub functions_are : AreBlocks false functions functions_text
    pub entry_points_text : List ℕ
    pub entry_points_are : AreBlocks true entry_points entry_points_text
    pub is : text ≡ policies_line policies ++ (functions_text ++ entry_points_text)

  -- the policies, and the blocks; or the override that is to be given a value first
  abbrev pub IsBoundsText : BoundsCheckPolicies → ModuleBounds → List ℕ → Type 0
  IsBoundsText policies (Unsized handle) text = text ≡ policies_line policies ++ unsized_lines m handle
  IsBoundsText policies (Found functions entry_points) text = AreAllBlocks policies functions.items entry_points.items text

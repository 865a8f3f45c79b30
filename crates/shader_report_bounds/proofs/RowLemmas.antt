-- A line more.
use Rattle.std.proofs.Common.{◌≡◌, ◌∙◌, List, [], ◌∷◌, ◌++◌, ap, refl}
use Rattle.report_columns.specs.Columns.{Row}
use Rattle.shader_analysis_spec.specs.Program.{Function, Module}
use Rattle.shader_report_bounds.specs.Lines.{AreCheckRows, IsCheckRow}
use Rattle.shader_report_bounds.specs.declared.accesses.AccessCheck.{AccessCheck}

-- a line behind those of other accesses
pub one_more : (m : Module) (f : Function) (checks : List AccessCheck) (check : AccessCheck) (rows : List Row) (row : Row) →
    AreCheckRows m f checks rows → IsCheckRow m f check row → AreCheckRows m f (checks ++ check ∷ []) (rows ++ row ∷ [])
one_more m f [] check rows row none is = (row, [], is, refl, ap (λ (rs : List Row). rs ++ row ∷ []) none)
one_more m f (x ∷ checks) check rows row (first, rest, is_first, are_rest, all) is = (
  first,
  rest ++ row ∷ [],
  is_first,
  one_more m f checks check rest row are_rest is,
  ap (λ (rs : List Row). rs ++ row ∷ []) all,
)

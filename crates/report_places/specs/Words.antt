-- Functions and statements in words.
use Rattle.std.specs.Prelude.{ℕ, List, ◌++◌, Option, Some, None, codes, slice_get}
use Rattle.std.specs.Fmt.{decimal}
use Rattle.shader_ir.specs.declared.function.EntryPoint.{EntryPoint}
use Rattle.shader_ir.specs.declared.module.Module.{Module}
use Rattle.report_names.specs.Items.{function_text}
use Rattle.report_names.specs.Names.{name_text}
use Rattle.report_places.specs.Stages.{stage_word}
use Rattle.report_places.specs.Pointers.{statement_text}
use Rattle.report_places.specs.declared.body_place.BodyPlace.{BodyPlace}
use Rattle.report_places.specs.declared.body_place.BodyPlace.TheVariants as body
use Rattle.report_places.specs.declared.paths.StatementPath.{StatementPath}

-- an item of a list that has no name
abbrev item_path : (list : List ℕ) → ℕ → List ℕ
item_path list i = list ++ (codes "[" ++ (decimal i ++ codes "]"))

abbrev point_text : Option EntryPoint → ℕ → List ℕ
point_text (Some point) i = stage_word point.stage ++ (codes " entry point `" ++ (name_text point.name ++ codes "`"))
point_text None i = item_path (codes "entry_points") i

-- a function with its name or number, an entry point with its stage and name
abbrev pub body_text : Module → BodyPlace → List ℕ
body_text m (body.ConstExpression i) = item_path (codes "global_expressions") i
body_text m (body.Function i) = codes "function `" ++ (function_text m i ++ codes "`")
body_text m (body.EntryPoint i) = point_text (slice_get m.entry_points i) i

-- a statement, or its function if the way to it isn't known
abbrev pub place_text : Module → BodyPlace → Option StatementPath → List ℕ
place_text m place (Some path) = body_text m place ++ (codes ", " ++ statement_text path.steps)
place_text m place None = body_text m place

-- The facts that the records of expressions hold, beside the globals that the expressions point into.
use Rattle.std.specs.Prelude.{ℕ, List, [], ◌∷◌, Option, map, slice_get, unwrap_or}
use Rattle.std.specs.Option.{option_and_then, option_map}
use Rattle.shader_info.specs.declared.info.ExpressionInfo.{ExpressionInfo}
use Rattle.shader_ir.specs.declared.proc.type_resolution.TypeResolution.{TypeResolution}
use Rattle.shader_passes.specs.Facts.{Fact}

-- the fact that a record holds, with the root of its expression
abbrev pub fact_of : ExpressionInfo → Option ℕ → Fact
fact_of info root = record { origin = info.uniformity.non_uniform_result; requirements = info.uniformity.requirements; root = root }

-- the facts of the first expressions, by their records and roots
abbrev pub facts_in : List ExpressionInfo → List (Option ℕ) → List Fact
facts_in [] roots = []
facts_in (info ∷ infos) [] = []
facts_in (info ∷ infos) (root ∷ roots) = fact_of info root ∷ facts_in infos roots

-- what the record of an expression holds, and its root
abbrev pub origin_in : List ExpressionInfo → ℕ → Option ℕ
origin_in records e = option_and_then (λ found. found.uniformity.non_uniform_result) (slice_get records e)

abbrev pub needs_in : List ExpressionInfo → ℕ → ℕ
needs_in records e = unwrap_or (option_map (λ found. found.uniformity.requirements.0) (slice_get records e)) 0

abbrev pub root_in : List (Option ℕ) → ℕ → Option ℕ
root_in roots e = option_and_then (λ root. root) (slice_get roots e)

-- the types of the expressions
abbrev pub types_in : List ExpressionInfo → List TypeResolution
types_in records = map (λ found. found.ty) records

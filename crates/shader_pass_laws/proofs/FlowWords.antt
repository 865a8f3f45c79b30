-- The statements that the recursion over the blocks has to detect.
use Rattle.std.specs.Prelude.{ℕ, Bool, true, false, List, is_some, slice_get, unwrap_or}
use Rattle.std.specs.Option.{option_map}
use Rattle.std.specs.List.{list_any}
use Rattle.shader_arena.specs.Positions.{positions_between}
use Rattle.shader_analysis_spec.specs.Program.{Step, Leaf, Emit, Kill, Call}
use Rattle.shader_passes.specs.Facts.{Fact}
use Rattle.shader_passes.specs.Ends.{requires_uniform_flow}

abbrev pub any_requires : List Fact → List ℕ → Bool
any_requires facts es = list_any (requires_uniform_flow facts) es

abbrev pub is_kill : Step → Bool
is_kill (Leaf Kill) = true
is_kill _ = false

-- an Emit of an expression that needs undisrupted flow
abbrev pub emits_requiring : List Fact → Step → Bool
emits_requiring facts (Leaf (Emit start finish)) = any_requires facts (positions_between start finish)
emits_requiring facts _ = false

-- the statement calls a function that kills
abbrev pub calls_kill : (ℕ → Bool) → Step → Bool
calls_kill is_killing (Leaf (Call c arguments result)) = is_killing c
calls_kill is_killing _ = false

-- the expression has an origin
abbrev pub varies : List Fact → ℕ → Bool
varies facts e = unwrap_or (option_map (λ fact. is_some fact.origin) (slice_get facts e)) false

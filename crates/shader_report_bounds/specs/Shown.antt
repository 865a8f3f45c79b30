-- Expressions as lines on bounds checks show them.
use Rattle.std.specs.Prelude.{◌≡◌, ℕ, List, min}
use Rattle.report_expressions.specs.Texts.{IsLine}
use Rattle.report_expressions.specs.declared.line.Line.TheVariants.{Place}
use Rattle.report_expressions.specs.declared.line.Source.{Source}
use Rattle.shader_analysis_spec.specs.Program.{Function, Module}

-- no arena has a position beyond those of handles
abbrev pub handle_at : ℕ → ℕ
handle_at position = min position 4294967295

-- the text is a line on the expression of a function, by which an access is shown as the memory that it accesses
pub record IsShown (m : Module) (f : Function) (e : ℕ) (text : List ℕ) : Type 0 where
  pub source : Source
  pub of_module : source.«module».now ≡ m
  pub of_function : source.function.now ≡ f
  pub place : source.line ≡ Place (handle_at e)
  pub is : IsLine source text

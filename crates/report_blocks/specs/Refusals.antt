-- The text on a refused module.
use Rattle.std.specs.Prelude.{◌≡◌, ℕ, Bool, ◌==◌, nat_le, ◌-◌, List, [], ◌++◌, codes, if◌then◌else◌, length}
use Rattle.std.specs.Fmt.{decimal}
use Rattle.shader_ir.specs.declared.module.Module.{Module}
use Rattle.report_diagnostics.specs.declared.diagnostic.Diagnostic.{Diagnostic}
use Rattle.report_blocks.specs.Blocks.{AreBlocks, IsInputBlock}
use Rattle.report_blocks.specs.Chosen.{chosen}
use Rattle.report_blocks.specs.declared.detail.Detail.{Detail}

-- the verdict, with the number of errors
abbrev pub verdict_line : ℕ → List ℕ
verdict_line count =
    if count == 1 then codes "refused: 1 error\n" else codes "refused: " ++ (decimal count ++ codes " errors\n")

-- how many of so many diagnostics get no block, if so many get one
abbrev pub more_line : (shown count : ℕ) → List ℕ
more_line shown count =
    if nat_le count shown then [] else codes "\n... and " ++ (decimal (count - shown) ++ codes " more, which `--all` shows\n")

-- the verdict is the first line and the last one; between them stand a block for each of the chosen diagnostics, which may be all, and the
-- sections
pub record IsRefusalText (m : Module) (diagnostics : List Diagnostic) (detail : Detail) (sections text : List ℕ) : Type 0 where
  pub blocks : List ℕ
  pub blocks_are : AreBlocks m detail.explains diagnostics (chosen detail.shows_all diagnostics) blocks
  pub is : text ≡ verdict_line (length diagnostics)
      ++ (blocks ++ (more_line (length (chosen detail.shows_all diagnostics)) (length diagnostics)
      ++ (sections ++ (codes "\n" ++ verdict_line (length diagnostics)))))

-- the text on an input that is no module: the verdict is the first line and the last one, and between them stands a block
pub record IsInputText (explains : Bool) (diagnostic : Diagnostic) (text : List ℕ) : Type 0 where
  pub block : List ℕ
  pub block_is : IsInputBlock explains diagnostic block
  pub is : text ≡ codes "not a module: 1 error\n" ++ (block ++ codes "\nnot a module: 1 error\n")

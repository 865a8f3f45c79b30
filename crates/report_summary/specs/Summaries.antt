-- The text on an accepted module.
use Rattle.std.specs.Prelude.{◌≡◌, ℕ, zero, suc, ◌-◌, ◌==◌, Bool, ◌&&◌, nat_le, min, List, [], ◌++◌, codes, if◌then◌else◌, length}
use Rattle.std.specs.Prelude.{Option, Some, None, slice_get}
use Rattle.std.specs.Fmt.{decimal}
use Rattle.shader_analysis.specs.Recorded.{Recorded}
use Rattle.shader_interface.specs.declared.bound.ResourceBinding.{ResourceBinding}
use Rattle.shader_interface.specs.declared.workgroup.WorkgroupSize.{WorkgroupSize}
use Rattle.shader_ir.specs.declared.module.Module.{Module}
use Rattle.shader_uniformity.specs.declared.facts.BodyLocation.{BodyLocation}
use Rattle.shader_uniformity.specs.declared.facts.BodyLocation.TheVariants as location
use Rattle.report_summary.specs.Headings.{heading}
use Rattle.report_summary.specs.Resources.{resource_count}

-- how many things there are, behind a text, or nothing if there are none
unfoldable pub counted : List ℕ → ℕ → List ℕ → List ℕ
counted before count word = if count == 0 then [] else (if count == 1 then before ++ (codes "1 " ++ word)
    else before ++ (decimal count ++ (codes " " ++ (word ++ codes "s"))))

abbrev pub separator : ℕ → List ℕ
separator points = if points == 0 then codes " " else codes ", "

unfoldable pub counts_line : (points functions resources : ℕ) → List ℕ
counts_line points functions resources =
    codes "accepted:" ++ (counted (codes " ") points (codes "entry point") ++ (counted (separator points) functions (codes "function")
    ++ (counted (codes ", ") resources (codes "resource") ++ codes "\n")))

-- the verdict, with the numbers of entry points, functions and resources that aren't 0
unfoldable pub verdict_line : (points functions resources : ℕ) → List ℕ
verdict_line points functions resources =
    if points == 0 && functions == 0 then codes "accepted: no functions\n" else counts_line points functions resources

unfoldable pub last_line : List ℕ
last_line = codes "accepted\n"

-- how many of so many entry points get a block
abbrev pub shown_count : (all : Bool) → ℕ → ℕ
shown_count all count = if all then count else min 8 count

-- how many of so many get no block, if so many get one
abbrev pub more_line : (shown count : ℕ) → List ℕ
more_line shown count = if nat_le count shown then [] else codes "... and " ++ (decimal (count - shown) ++ codes " more\n")

-- the reason of an entry point, or nothing if it has none
abbrev pub reason_at : Option (List ℕ) → List ℕ
reason_at (Some reason) = reason
reason_at None = []

module _ (m : Module) where
  -- the entry points get blocks, or the functions of a module without any
  abbrev pub place_count : ℕ
  place_count = if length m.entry_points == 0 then length m.functions else length m.entry_points

  abbrev pub place_of : ℕ → BodyLocation
  place_of i = if length m.entry_points == 0 then location.Function i else location.EntryPoint i

  module _ (groups : List WorkgroupSize) where
    -- the heading, what no clause says, and the reason
    pub record IsBlock (place : BodyLocation) (reason text : List ℕ) : Type 0 where
      pub rest : List ℕ
      pub is : text ≡ heading m groups place ++ (rest ++ reason)

    -- a block for each of so many, in their order
    abbrev pub AreBlocks : (reasons : List (List ℕ)) → ℕ → List ℕ → Type 0
    AreBlocks reasons zero text = text ≡ []
    AreBlocks reasons (suc n) text =
        (blocks block : List ℕ) × AreBlocks reasons n blocks × IsBlock (place_of n) (reason_at (slice_get reasons n)) block
        × (text ≡ blocks ++ block)

    -- the blocks, which may be all, and how many more there are, behind an empty line; or nothing if there are none
    pub record IsBlocksPart (reasons : List (List ℕ)) (all : Bool) (text : List ℕ) : Type 0 where
      pub blocks : List ℕ
      pub blocks_are : AreBlocks reasons (shown_count all place_count) blocks
      pub is : text ≡ (if place_count == 0 then [] else codes "\n" ++ (blocks ++ more_line (shown_count all place_count) place_count))

  unfoldable pub first_line : Option Recorded → List (Option ResourceBinding) → List ℕ
  first_line found bindings = verdict_line (length m.entry_points) (length m.functions) (resource_count found bindings)

  -- the first line is the verdict with counts, and the last one the verdict alone; between them stand the blocks, and the sections
  pub record IsSummaryText (groups : List WorkgroupSize) (reasons : List (List ℕ)) (all : Bool) (found : Option Recorded)
      (bindings : List (Option ResourceBinding)) (sections text : List ℕ) : Type 0 where
    pub blocks : List ℕ
    pub blocks_are : IsBlocksPart groups reasons all blocks
    pub is : text ≡ first_line found bindings ++ (blocks ++ (sections ++ (codes "\n" ++ last_line)))

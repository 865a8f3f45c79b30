-- A block more.
use Rattle.std.proofs.Common.{◌∙◌, ℕ, Bool, List, [], ◌∷◌, ◌++◌, ap, append_assoc, sym, refl}
use Rattle.std.proofs.lemmas.List.{append-nil}
use Rattle.shader_ir.specs.declared.module.Module.{Module}
use Rattle.report_diagnostics.specs.declared.diagnostic.Diagnostic.{Diagnostic}
use Rattle.report_blocks.specs.Blocks.{AreBlocks, IsBlockAt}

module _ (m : Module) (explains : Bool) (ds : List Diagnostic) where
  -- a block behind those of other diagnostics
  pub one_more : (indexes : List ℕ) (index : ℕ) (text block : List ℕ) → AreBlocks m explains ds indexes text →
      IsBlockAt m explains ds index block → AreBlocks m explains ds (indexes ++ index ∷ []) (text ++ block)
  one_more [] index text block none is =
      (block, [], is, refl, ap (λ (t : List ℕ). t ++ block) none ∙ sym (append-nil block))
  one_more (i ∷ indexes) index text block (first, rest, is_first, are_rest, all) is = (
    first,
    rest ++ block,
    is_first,
    one_more indexes index rest block are_rest is,
    ap (λ (t : List ℕ). t ++ block) all ∙ append_assoc first rest block,
  )

-- One more diagnostic with its place in the JSON.
use Rattle.std.proofs.Common.{ℕ, List, [], ◌∷◌, ◌++◌}
use Rattle.report_diagnostics.specs.declared.diagnostic.Diagnostic.{Diagnostic}
use Rattle.report_input.specs.Located.{AreLocated, IsLocated}

pub one_more : (text : List ℕ) (befores afters : List Diagnostic) (before after : Diagnostic) → AreLocated text befores afters →
    IsLocated text before after → AreLocated text (befores ++ before ∷ []) (afters ++ after ∷ [])
one_more text [] [] before after all one = (one, tt)
one_more text [] (a ∷ others) before after all one = absurd all
one_more text (b ∷ rest) [] before after all one = absurd all
one_more text (b ∷ rest) (a ∷ others) before after all one = (all.0, one_more text rest others before after all.1 one)

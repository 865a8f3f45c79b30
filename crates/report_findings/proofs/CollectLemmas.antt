-- Diagnostics that are added one after another.
use Rattle.std.proofs.Common.{◌∙◌, ap, List, [], ◌∷◌, ◌++◌}
use Rattle.std.proofs.lemmas.List.{append_assoc}
use Rattle.report_findings.specs.Collected.{AddsEach, AreOfEach}
use Rattle.report_diagnostics.specs.declared.diagnostic.Diagnostic.{Diagnostic}

more_each : {A : Type 0} (IsOf : A → Diagnostic → Type 0) (xs : List A) (diagnostics : List Diagnostic) (x : A) (diagnostic : Diagnostic) →
    AreOfEach IsOf xs diagnostics → IsOf x diagnostic → AreOfEach IsOf (xs ++ x ∷ []) (diagnostics ++ diagnostic ∷ [])
more_each IsOf [] [] x diagnostic each is = (is, tt)
more_each IsOf (y ∷ ys) (d ∷ ds) x diagnostic each is = (each.0, more_each IsOf ys ds x diagnostic each.1 is)
more_each IsOf [] (d ∷ ds) x diagnostic each is = absurd each
more_each IsOf (y ∷ ys) [] x diagnostic each is = absurd each

-- the diagnostic of one more
pub one_more : {A : Type 0} (IsOf : A → Diagnostic → Type 0) (xs : List A) (x : A) (old between : List Diagnostic)
    (diagnostic : Diagnostic) → AddsEach IsOf xs old between → IsOf x diagnostic →
    AddsEach IsOf (xs ++ x ∷ []) old (between ++ diagnostic ∷ [])
one_more IsOf xs x old between diagnostic adds is = record {
  added = adds.added ++ diagnostic ∷ [];
  all = ap (λ (v : List Diagnostic). v ++ diagnostic ∷ []) adds.all ∙ append_assoc old adds.added (diagnostic ∷ []);
  each = more_each IsOf xs adds.added x diagnostic adds.each is;
}

use Rattle.std.proofs.Common.{◌≡◌, ◌++◌}
use Rattle.shader_overloads.specs.Masks.{rules_at, word_sum}
use Rattle.shader_overloads.proofs.TableLemmas.{IsInside}
use Rattle.shader_overloads.proofs.masked.Masked.overload_list.Given as goal

-- the rules so far and the remaining ones
abbrev pub invariant-loop-number : goal.invariant-loop-number
invariant-loop-number g l =
    let table_rules = g.T.Table.table_rules l.self.table in
    record {
      listed : l.rules.items ++ rules_at l.left table_rules ≡ rules_at l.self.mask table_rules;
      inside : IsInside l.left l.self.mask;
    }

abbrev pub decreases-loop-number : goal.decreases-loop-number
decreases-loop-number g l = word_sum l.left

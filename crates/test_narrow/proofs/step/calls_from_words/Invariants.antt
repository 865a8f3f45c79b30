use Rattle.std.proofs.Common.{All}
use Rattle.shader_overloads.specs.Remaining.{CallFits}
use Rattle.shader_type_text.specs.Insertions.{AreFlat}
use Rattle.test_narrow.proofs.Supplies.{AreTaken}
use Rattle.test_narrow.proofs.step.calls_from_words.Given as goal

-- the calls so far are those of the words already read
abbrev pub invariant-loop-word : goal.invariant-loop-word
invariant-loop-word l = record {
  flat : AreFlat l.types;
  fit : All (CallFits l.types) l.calls.items;
  taken : AreTaken l.types l.fn.words l.word-iterator l.calls.items;
}

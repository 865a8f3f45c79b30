use Rattle.std.proofs.Common.{◌≡◌, drop}
use Rattle.shader_json_reader.specs.Grammar.{stop_from, stop_of}
use Rattle.shader_json_reader.proofs.grammar.Stop.of.Given as goal

abbrev pub invariant-loop-byte : goal.invariant-loop-byte
invariant-loop-byte l =
    (stop_from l.at l.expected l.brackets.items (drop l.byte-index l.text) ≡ stop_of l.text) × (l.at ≡ l.byte-index)

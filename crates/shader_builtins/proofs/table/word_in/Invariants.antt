use Rattle.std.proofs.Common.{◌≡◌, drop}
use Rattle.shader_builtins.specs.BuiltIns.{rows_of, word_in}
use Rattle.shader_builtins.proofs.table.word_in.Given as goal

abbrev pub invariant-loop-row : goal.invariant-loop-row
invariant-loop-row l = word_in (rows_of l.table) l.built_in ≡ word_in (rows_of (drop l.row-index l.table)) l.built_in

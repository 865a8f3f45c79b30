use Rattle.std.proofs.Common.{◌≡◌, drop}
use Rattle.shader_builtins.specs.BuiltIns.{named_in, rows_of}
use Rattle.shader_builtins.proofs.table.named_in.Given as goal

abbrev pub invariant-loop-row : goal.invariant-loop-row
invariant-loop-row l = named_in (rows_of l.table) l.name l.flag ≡ named_in (rows_of (drop l.row-index l.table)) l.name l.flag

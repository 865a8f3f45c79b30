use Rattle.std.proofs.Common.{◌≡◌, drop}
use Rattle.shader_overloads.specs.Rank.{rank_among}
use Rattle.shader_overloads_laws.proofs.ranks.rank_in.Given as goal

-- the remaining entries give what the whole table gives
abbrev pub invariant-loop-row : goal.invariant-loop-row
invariant-loop-row l = rank_among (drop l.row-index l.rows) l.from l.to ≡ rank_among l.rows l.from l.to

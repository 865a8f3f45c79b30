use Rattle.std.proofs.Common.{◌∙◌, ◌≤◌, length, sym, arith}
use Rattle.std.proofs.lemmas.Slice.Eq.{bytes_eq-Decides}
use Rattle.shader_json_declarations.proofs.RowLemmas.{not_listed, other_row, spelled-row}
use Rattle.shader_json_declarations.proofs.names.by_name.Goals as goal

pub returns-then-eq-clause-some : goal.returns-then-eq-clause-some
returns-then-eq-clause-some g c =
    let row = c.row-item.result in
    let same = (bytes_eq-Decides row.0.now c.args.name.now).0 (sym c.if-eq.ensures) in
    sym same ∙ spelled-row g.T.Spelled.spelling c.args.table.now c.loop-row.row-index row c.loop-row-test.true c.row-item.is c.requires.spelled

pub loop-row-preserved : goal.loop-row-preserved
loop-row-preserved g c =
    other_row c.args.name.now c.args.table.now c.loop-row.row-index c.row-item.result c.loop-row-test.true c.row-item.is
    c.loop-row.invariant c.if-eq.ensures

pub returns-clause-none : goal.returns-clause-none
returns-clause-none g c =
    let end : length c.args.table.now ≤ c.loop-row.row-index = omega arith in
    not_listed g.T.Spelled.spelling c.args.name.now c.args.table.now c.loop-row.row-index end c.loop-row.invariant c.requires.listed

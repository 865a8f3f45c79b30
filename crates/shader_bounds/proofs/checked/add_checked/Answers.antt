use Rattle.std.proofs.Common.{length}
use Rattle.shader_bounds.proofs.SearchLemmas.{access_below, array_index_below, coordinate_below, level_below, sample_below}
use Rattle.shader_bounds.proofs.checked.add_checked.Goals as goal

pub add-requires : goal.add-requires
add-requires c = access_below (length c.args.checked.now) c.args.expression.now c.in-Access.base c.in-Access.index c.in-Access.is c.requires

pub add_load-requires-clause-coordinate : goal.add_load-requires-clause-coordinate
add_load-requires-clause-coordinate c =
    coordinate_below (length c.args.checked.now) c.args.expression.now c.in-ImageLoad.image c.in-ImageLoad.coordinate
    c.in-ImageLoad.array_index c.in-ImageLoad.sample c.in-ImageLoad.level
    c.in-ImageLoad.is c.requires

pub add_load-requires-clause-array_index : goal.add_load-requires-clause-array_index
add_load-requires-clause-array_index c =
    array_index_below (length c.args.checked.now) c.args.expression.now c.in-ImageLoad.image c.in-ImageLoad.coordinate
    c.in-ImageLoad.array_index c.in-ImageLoad.sample c.in-ImageLoad.level
    c.in-ImageLoad.is c.requires

pub add_load-requires-clause-sample : goal.add_load-requires-clause-sample
add_load-requires-clause-sample c =
    sample_below (length c.args.checked.now) c.args.expression.now c.in-ImageLoad.image c.in-ImageLoad.coordinate c.in-ImageLoad.array_index
    c.in-ImageLoad.sample c.in-ImageLoad.level
    c.in-ImageLoad.is c.requires

pub add_load-requires-clause-level : goal.add_load-requires-clause-level
add_load-requires-clause-level c =
    level_below (length c.args.checked.now) c.args.expression.now c.in-ImageLoad.image c.in-ImageLoad.coordinate c.in-ImageLoad.array_index
    c.in-ImageLoad.sample c.in-ImageLoad.level
    c.in-ImageLoad.is c.requires

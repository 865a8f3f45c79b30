use Rattle.std.proofs.Common.{ap, sym, ◌∙◌, ◌++◌, slice_get, append-nil}
use Rattle.std.specs.Option.{option_to_list}
use Rattle.shader_overloads.proofs.ArgumentLemmas.{slice_get-past}
use Rattle.shader_overloads.proofs.overload_set.push_argument.Goals as goal

pub returns-in-None : goal.returns-in-None
returns-in-None c =
    let absent = ap (λ xs. slice_get xs c.args.i) (sym c.as_slice.ensures)
    ∙ slice_get-past c.as_slice.result.now c.args.i c.in-None.ensures.lookup.3 in
    sym (ap (λ found. c.args.arguments.now.items ++ option_to_list found) absent ∙ append-nil c.args.arguments.now.items)

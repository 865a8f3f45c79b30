use Rattle.std.proofs.Common.{◌≡◌, ◌++◌}
use Rattle.std.specs.List.{flat_map}
use Rattle.shader_overloads.specs.ListForms.{rows}
use Rattle.shader_overloads.proofs.list_forms.by_size.Given as goal

-- the rules so far and those of the remaining pairs
abbrev pub invariant-loop-size : goal.invariant-loop-size
invariant-loop-size l =
    l.rules.items ++ flat_map (λ pair. rows l.form pair.0 pair.1) l.size-iterator
    ≡ flat_map (λ size. flat_map (rows l.form size) l.scalars) l.sizes

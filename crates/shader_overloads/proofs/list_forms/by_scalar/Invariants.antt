use Rattle.std.proofs.Common.{◌≡◌, ◌++◌}
use Rattle.std.specs.List.{flat_map}
use Rattle.shader_overloads.specs.ListForms.{rows}
use Rattle.shader_overloads.proofs.list_forms.by_scalar.Given as goal

-- the rules so far and those of the remaining pairs
abbrev pub invariant-loop-scalar : goal.invariant-loop-scalar
invariant-loop-scalar l =
    l.rules.items ++ flat_map (λ pair. rows l.form pair.1 pair.0) l.scalar-iterator
    ≡ flat_map (λ scalar. flat_map (λ size. rows l.form size scalar) l.sizes) l.scalars

-- The lists of the built-in functions as they are built.
use Rattle.std.proofs.Common.{◌≡◌, ◌≤◌, true, List, [], ◌∷◌, length, ap, arith}
use Rattle.std.specs.List.{flat_map, list_all}
use Rattle.shader_ir.specs.declared.scalar.VectorSize.TheVariants.{Bi, Tri, Quad}
use Rattle.shader_overloads.specs.declared.constructor_set.ConstructorSize.{ConstructorSize}
use Rattle.shader_overloads.specs.declared.constructor_set.ConstructorSize.TheVariants as sizes
use Rattle.shader_overloads.specs.declared.list_forms.ListForm.TheVariants as forms
use Rattle.shader_overloads.specs.declared.rule.Rule.{Rule}
use Rattle.shader_overloads.specs.Builtins.{all_floats, extract_bits_rules, insert_bits_rules, integers_by_width, ldexp_rules}
use Rattle.shader_overloads.specs.Builtins.{mix_rules, outer_rules, refract_rules, scalars_and_vectors, transpose_rules, vectors}
use Rattle.shader_overloads.specs.ListForms.{rows}
use Rattle.shader_overloads.specs.Remaining.{has_no_struct}

abbrev pub matrices : List ConstructorSize
matrices =
    sizes.Matrix Bi Bi ∷ sizes.Matrix Bi Tri ∷ sizes.Matrix Bi Quad
    ∷ sizes.Matrix Tri Bi ∷ sizes.Matrix Tri Tri ∷ sizes.Matrix Tri Quad
    ∷ sizes.Matrix Quad Bi ∷ sizes.Matrix Quad Tri ∷ sizes.Matrix Quad Quad ∷ []

-- the rules of a built list are the expected ones, which a list can hold
pub record IsBuilt (built expected : List Rule) : Type 0 where
  pub is : built ≡ expected
  pub few : length built ≤ 63
  pub no_struct : list_all has_no_struct built ≡ true

pub ldexp_built : (rules : List Rule) → rules ≡ flat_map (λ scalar. flat_map (λ size. rows forms.Ldexp size scalar) scalars_and_vectors)
    all_floats → IsBuilt rules ldexp_rules
unfolding ldexp_rules
ldexp_built rules e = record {
  is = e;
  few = let count : length rules ≡ 16 = ap length e in omega arith;
  no_struct = ap (list_all has_no_struct) e;
}

pub outer_built : (rules : List Rule) → rules ≡ flat_map (λ size. flat_map (rows forms.Outer size) all_floats) matrices →
    IsBuilt rules outer_rules
unfolding outer_rules
outer_built rules e = record {
  is = e;
  few = let count : length rules ≡ 36 = ap length e in omega arith;
  no_struct = ap (list_all has_no_struct) e;
}

pub refract_built : (rules : List Rule) → rules ≡ flat_map (λ size. flat_map (rows forms.Refract size) all_floats) vectors →
    IsBuilt rules refract_rules
unfolding refract_rules
refract_built rules e = record {
  is = e;
  few = let count : length rules ≡ 12 = ap length e in omega arith;
  no_struct = ap (list_all has_no_struct) e;
}

pub transpose_built : (rules : List Rule) → rules ≡ flat_map (λ size. flat_map (rows forms.Transpose size) all_floats) matrices →
    IsBuilt rules transpose_rules
unfolding transpose_rules
transpose_built rules e = record {
  is = e;
  few = let count : length rules ≡ 36 = ap length e in omega arith;
  no_struct = ap (list_all has_no_struct) e;
}

pub extract_bits_built : (rules : List Rule) → rules ≡ flat_map
    (λ scalar. flat_map (λ size. rows forms.ExtractBits size scalar) scalars_and_vectors) integers_by_width →
    IsBuilt rules extract_bits_rules
unfolding extract_bits_rules
extract_bits_built rules e = record {
  is = e;
  few = let count : length rules ≡ 24 = ap length e in omega arith;
  no_struct = ap (list_all has_no_struct) e;
}

pub insert_bits_built : (rules : List Rule) → rules ≡ flat_map
    (λ scalar. flat_map (λ size. rows forms.InsertBits size scalar) scalars_and_vectors) integers_by_width → IsBuilt rules insert_bits_rules
unfolding insert_bits_rules
insert_bits_built rules e = record {
  is = e;
  few = let count : length rules ≡ 24 = ap length e in omega arith;
  no_struct = ap (list_all has_no_struct) e;
}

pub mix_built : (rules : List Rule) → rules ≡ flat_map (λ scalar. flat_map (λ size. rows forms.Mix size scalar) scalars_and_vectors)
    all_floats → IsBuilt rules mix_rules
unfolding mix_rules
mix_built rules e = record {
  is = e;
  few = let count : length rules ≡ 32 = ap length e in omega arith;
  no_struct = ap (list_all has_no_struct) e;
}

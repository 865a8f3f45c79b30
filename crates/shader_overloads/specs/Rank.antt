-- Conversion ranks, and which of two rules the supplied arguments prefer.
use Rattle.std.specs.Prelude.{◌≡◌, ◌<◌, ◌&&◌, ℕ, Bool, true, false, List, [], ◌∷◌, ◌++◌}
use Rattle.std.specs.Prelude.{length, map, Option, Some, None, option_and_then, slice_get}
use Rattle.shader_ir.specs.declared.scalar.Scalar as s
use Rattle.shader_ir.specs.declared.scalar.ScalarKind.TheVariants.{Sint, Uint, Float}
use Rattle.shader_ir.specs.declared.types.«Type».{«Type»}
use Rattle.shader_ir.specs.declared.types.TypeInner.{TypeInner}
use Rattle.shader_ir.specs.Scalars.{abstract_float, abstract_int, named_scalars, same_scalar, scalar}
use Rattle.shader_overloads.specs.declared.overload_set.SetCall.{SetCall}
use Rattle.shader_overloads.specs.declared.overload_set.SetCall.TheVariants.{Arg}
use Rattle.shader_overloads.specs.declared.rule.Rule.{Rule}
use Rattle.shader_overloads.specs.Remaining.{argument_at, leaf_scalar}

-- the source scalar, the goal scalar, and the rank of the conversion
abbrev pub RankEntry : Type 0
RankEntry = s.Scalar × s.Scalar × ℕ

-- the ranks of all conversions, as the WGSL specification orders them: smaller is better
abbrev pub conversion_ranks : List RankEntry
conversion_ranks =
    map (λ scalar. (scalar, scalar, 0)) named_scalars
    ++ (abstract_float, scalar Float 4, 1) ∷ (abstract_float, scalar Float 2, 2) ∷ (abstract_float, scalar Float 8, 3)
    ∷ (abstract_int, scalar Sint 4, 4) ∷ (abstract_int, scalar Uint 4, 5)
    ∷ (abstract_int, scalar Sint 2, 6) ∷ (abstract_int, scalar Uint 2, 7)
    ∷ (abstract_int, scalar Sint 8, 8) ∷ (abstract_int, scalar Uint 8, 9)
    ∷ (abstract_int, abstract_float, 10)
    ∷ (abstract_int, scalar Float 4, 11) ∷ (abstract_int, scalar Float 2, 12) ∷ (abstract_int, scalar Float 8, 13) ∷ []

abbrev pub rank_if : Bool → ℕ → Option ℕ → Option ℕ
rank_if true rank others = Some rank
rank_if false rank others = others

-- the rank of the first entry from the one scalar to the other
abbrev pub rank_among : List RankEntry → s.Scalar → s.Scalar → Option ℕ
rank_among [] from to = None
rank_among (row ∷ rows) from to = rank_if (same_scalar from row.0 && same_scalar to row.1) row.2 (rank_among rows from to)

-- the rank of a conversion, or none if the scalar doesn't convert
abbrev pub conversion_rank : s.Scalar → s.Scalar → Option ℕ
conversion_rank from to = rank_among conversion_ranks from to

-- the rank of a conversion between leaf scalars
abbrev pub leaf_rank : Option s.Scalar → Option s.Scalar → Option ℕ
leaf_rank (Some from) (Some to) = conversion_rank from to
leaf_rank _ _ = None

-- the rank of a rule at a supplied argument: the conversion rank from the type's leaf scalar to that of the rule's argument
abbrev pub rank_at : List «Type» → ℕ → TypeInner → Rule → Option ℕ
rank_at types i ty rule = leaf_rank (leaf_scalar ty) (option_and_then leaf_scalar (argument_at types i rule))

-- the first rule has a smaller rank than the second at some supplied argument
pub record Beats (types : List «Type») (calls : List SetCall) (rule other : Rule) : Type 0 where
  pub call : ℕ
  pub i : ℕ
  pub ty : TypeInner
  pub supplied : slice_get calls call ≡ Some (Arg i ty)
  pub rank : ℕ
  pub other_rank : ℕ
  pub has_rank : rank_at types i ty rule ≡ Some rank
  pub other_has_rank : rank_at types i ty other ≡ Some other_rank
  pub smaller : rank < other_rank

-- both rules have the same rank at each supplied argument
abbrev pub HaveEqualRanks : List «Type» → List SetCall → Rule → Rule → Type 0
HaveEqualRanks types calls rule other =
    (call i : ℕ) (ty : TypeInner) → slice_get calls call ≡ Some (Arg i ty)
    → (rank : ℕ) × (rank_at types i ty rule ≡ Some rank) × (rank_at types i ty other ≡ Some rank)

-- each argument of a rule is supplied
abbrev pub IsSupplied : List SetCall → Rule → Type 0
IsSupplied calls rule = (i : ℕ) → i < length rule.arguments → (call : ℕ) × (ty : TypeInner) × (slice_get calls call ≡ Some (Arg i ty))

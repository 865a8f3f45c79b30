-- The computed needs have no bits but those of the four needs.
use Rattle.std.proofs.Common.{◌≡◌, refl, sym, subst, ℕ, zero, suc, ◌<◌, List, [], ◌∷◌, map, fold, slice_index, bit_or, arith}
use Rattle.std.proofs.lemmas.Nat.{or_lt}
use Rattle.shader_arena.specs.Positions.{positions_between}
use Rattle.shader_analysis_spec.specs.Program.{Function, Module, Step, Leaf, Emit, ControlBarrier, MemoryBarrier}
use Rattle.shader_analysis_spec.specs.Program.{WorkGroupUniformLoad, CooperativeStore, Call, statements}
use Rattle.shader_pass_laws.proofs.Needs.{needs_small, result_small}
use Rattle.shader_info.specs.declared.info.FunctionInfo.{FunctionInfo}
use Rattle.shader_passes.specs.Results.{computed_expression_needs, computed_facts, computed_needs}
use Rattle.shader_passes.specs.Facts.{Fact}
use Rattle.shader_passes.specs.Facts.{needs_at}
use Rattle.shader_passes.specs.CalleeUses.{with_needs_of, with_needs_in, statement_needs}

module _ (infos : List FunctionInfo) where
  module _ (facts : List Fact) (few : (e : ℕ) → needs_at facts e < 16) where
    needs_few : (es : List ℕ) (n : ℕ) → n < 16 → with_needs_in facts n es < 16
    needs_few [] n h = h
    needs_few (e ∷ es) n h = needs_few es (bit_or n (needs_at facts e)) (or_lt 4 n (needs_at facts e) h (few e))

    statement_few : (s : Step) → statement_needs infos facts s < 16
    statement_few (Leaf (Emit start end)) = needs_few (positions_between start end) 0 (omega arith)
    statement_few (Leaf (ControlBarrier flags)) = omega arith
    statement_few (Leaf (MemoryBarrier flags)) = omega arith
    statement_few (Leaf (WorkGroupUniformLoad pointer result)) = omega arith
    statement_few (Leaf (CooperativeStore target tile)) = omega arith
    statement_few (Leaf (Call function arguments result)) = result_small infos function
    statement_few s = omega arith

    joined_few : (ss : List Step) (n : ℕ) → n < 16 → fold (with_needs_of infos facts) n ss < 16
    joined_few [] n h = h
    joined_few (s ∷ ss) n h = joined_few ss (bit_or n (statement_needs infos facts s))
        (or_lt 4 n (statement_needs infos facts s) h (statement_few s))

needs_are : (facts : List Fact) (e : ℕ) → slice_index (map (λ (fact : Fact). fact.requirements.0) facts) e ≡ needs_at facts e
needs_are [] e = refl
needs_are (x ∷ xs) zero = refl
needs_are (x ∷ xs) (suc e) = needs_are xs e

module _ (m : Module) (infos : List FunctionInfo) (f : Function) where
  pub few_expression_needs : (e : ℕ) → slice_index (computed_expression_needs m infos f) e < 16
  few_expression_needs e = let P : ℕ → Type 0 = λ v. v < 16 in
      subst P (sym (needs_are (computed_facts m infos f) e)) (needs_small m infos f e)

  pub few_needs : computed_needs m infos f < 16
  few_needs = joined_few infos (computed_facts m infos f) (needs_small m infos f) (statements f.body) 0 (omega arith)

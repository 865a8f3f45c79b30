use Rattle.std.proofs.Common.{◌≡◌, ◌<◌, ◌≤◌, ◌^◌, ap, sym, subst, ◌∙◌, ℕ, IfSome, None, List, Option, length, slice_get, slice_index, arith}
use Rattle.shader_analysis_spec.specs.Counts.{count_of}
use Rattle.shader_analysis_spec.specs.Program.{occurrences, statements}
use Rattle.shader_info.specs.declared.info.ExpressionInfo.{ExpressionInfo}
use Rattle.shader_passes.proofs.CountLemmas.{counts_are, full_reported, small}
use Rattle.shader_passes.proofs.CountingLemmas.{counts_whole, facts_stay, types_stay}
use Rattle.shader_passes.proofs.WalkLemmas.{whole_full, whole_long, whole_records, whole_uses}
use Rattle.shader_passes.specs.CalleeUses.{uses_with_calls}
use Rattle.shader_passes.specs.Counting.{as_counts, bits_in, counts_in, state_after, State}
use Rattle.shader_passes.specs.CountsAndUses.{CountsAndUses, ref_counts_after}
use Rattle.shader_passes.specs.Records.{facts_in, types_in}
use Rattle.std.specs.Prelude.{fold, replicate}
use Rattle.shader_passes.proofs.walk.walk_function.Goals as goal

-- the state before the walk
abbrev before : goal.After-uses-1 → State
before c = (c.args.records.now, c.args.uses.now, None)

records_are : (c : goal.After-uses-1) → c.walk_whole.new.records
    ≡ (fold (state_after c.args.roots.now) (before c) (occurrences c.args.function.now)).0
records_are c =
    c.walk_whole.ensures.records ∙ whole_records c.args.roots.now c.args.infos.now c.args.function.now (before c)

full_is : (c : goal.After-uses-1) → c.walk_whole.result.full
    ≡ (fold (state_after c.args.roots.now) (before c) (occurrences c.args.function.now)).2
full_is c = c.walk_whole.ensures.full ∙ whole_full c.args.roots.now c.args.infos.now c.args.function.now (before c)

counts_of_all : (c : goal.After-uses-1) → as_counts (fold (state_after c.args.roots.now) (before c) (occurrences c.args.function.now))
    ≡ fold (ref_counts_after (facts_in c.args.records.now c.args.roots.now)) (
      replicate (length c.args.function.now.expressions) 0,
      replicate (length c.args.uses.now) 0,
      None,
    ) (occurrences c.args.function.now)
counts_of_all c = counts_whole c.args.function.now c.args.records.now c.args.roots.now c.args.uses.now c.requires.long c.requires.uncounted
    c.requires.unused

pub returns-clause-counted : goal.returns-clause-counted
returns-clause-counted c =
    let f = c.args.function.now in
    let roots = c.args.roots.now in
    let facts = facts_in c.args.records.now roots in
    let globals = length c.args.uses.now in
    record {
      facts = ap (λ v. facts_in v roots) (records_are c) ∙ facts_stay roots (before c) (occurrences f);
      types = ap types_in (records_are c) ∙ types_stay roots (before c) (occurrences f);
      counts = λ none e lt. ap (λ v. slice_get (counts_in v) e) (records_are c)
          ∙ counts_are facts f globals _ (counts_of_all c) (sym (full_is c) ∙ none) e lt;
      small = λ e. subst (λ (v : List ExpressionInfo). slice_index (counts_in v) e < 2 ^ 64) (sym (records_are c))
          (small facts f globals _ (counts_of_all c) e);
      overflows = subst (λ (v : Option ℕ). IfSome v (λ e. 2 ^ 64 ≤ count_of f e)) (sym (full_is c))
          (full_reported facts f globals _ (counts_of_all c));
    }

pub returns-clause-uses : goal.returns-clause-uses
returns-clause-uses c = λ g lt.
    let roots = c.args.roots.now in
    let infos = c.args.infos.now in
    let f = c.args.function.now in
    let long = ap length c.walk_whole.ensures.uses ∙ whole_long roots infos f (before c) in
    ap (λ v. slice_index (bits_in v) g) c.walk_whole.ensures.uses
    ∙ (whole_uses roots infos f (before c) g (omega (arith, lt, long))
    ∙ ap (λ (v : CountsAndUses). uses_with_calls infos g (slice_index v.1 g) (statements f.body)) (counts_of_all c))

use Rattle.std.proofs.Common.{◌≡◌, ◌<◌, refl, ap, subst, sym, ◌∙◌, fold, length, slice_index, List, None}
use Rattle.std.specs.Map.{keys_of}
use Rattle.shader_pass_laws.proofs.ResultLemmas.{uses_of_the_step}
use Rattle.shader_pass_laws.proofs.StepUses.{own_uses_long}
use Rattle.shader_pass_laws.specs.OfTheStep.{HasUses}
use Rattle.shader_analysis_spec.specs.Program.{occurrences, statements}
use Rattle.shader_passes.proofs.UsesLemmas.{bits_long}
use Rattle.shader_passes.specs.CalleeUses.{named_by, result_origin_after, uses_with_calls, with_needs_of}
use Rattle.shader_passes.specs.Counting.{bits_in}
use Rattle.shader_passes.specs.CountsAndUses.{ref_counts_after}
use Rattle.shader_passes.specs.Ends.{block_ends, block_fault, is_killing}
use Rattle.shader_passes.specs.Facts.{Fact, origin_at}
use Rattle.shader_passes.specs.Records.{facts_in}
use Rattle.shader_passes.specs.Walked.{IsCounted}
use Rattle.shader_passes.specs.Results.{computed_facts, own_counts, own_uses}
use Rattle.std.specs.Prelude.{replicate}
use Rattle.shader_analysis.proofs.valid.analyzer.passes.walked_in.Goals as goal

pub returns-clause-counted : goal.returns-clause-counted
returns-clause-counted c =
    subst (IsCounted c.args.function.now c.args.roots.now c.args.records.now c.walk_function-found.new.records)
    c.in_ok-check_counts.ensures.ok c.walk_function-found.ensures.counted

pub returns-clause-uses : goal.returns-clause-uses
returns-clause-uses c = λ m below within fit globals facts.
    let infos = c.args.infos.now in
    let f = c.args.function.now in
    let old = c.args.uses.now in
    let joined = c.walk_function-found.new.uses in
    let long : length joined ≡ length old = c.walk_function-found.auto.uses in
    let kept = c.new-facts.ensures ∙ (c.walk_function-found.ensures.counted.facts ∙ facts) in
    let own : (fold (ref_counts_after (facts_in c.args.records.now c.args.roots.now)) (
      replicate (length f.expressions) 0,
      replicate (length old) 0,
      None,
    ) (occurrences f)).1 ≡ own_uses m infos f =
    ap (λ v. (fold (ref_counts_after v) (replicate (length f.expressions) 0, replicate (length old) 0, None) (occurrences f)).1) facts
    ∙ ap (λ v. (fold (ref_counts_after (computed_facts m infos f)) (replicate (length f.expressions) 0, replicate v 0, None)
    (occurrences f)).1) globals in
    subst (HasUses m infos f)
    (sym (c.name_globals.ensures ∙ ap (λ v. fold (named_by v) (bits_in joined) (keys_of f.named_expressions)) kept))
    (uses_of_the_step m infos f below within fit (bits_in joined) (record {
      long = bits_long joined ∙ (long ∙ (globals ∙ sym (own_uses_long f (computed_facts m infos f) (length m.global_variables) (own_counts m infos f) refl)));
      each = λ g lt. c.walk_function-found.ensures.uses g (subst (λ v. g < v) (bits_long joined) lt)
          ∙ ap (λ v. uses_with_calls infos g (slice_index v g) (statements f.body)) own;
    }))

pub returns-clause-found : goal.returns-clause-found
returns-clause-found c = λ m facts.
    let infos = c.args.infos.now in
    let f = c.args.function.now in
    record {
      first = c.walk_function-found.ensures.first
          ∙ ap (λ v. block_fault (origin_at v) (is_killing infos) v None f.body) facts;
      may_kill = c.walk_function-found.ensures.may_kill
          ∙ ap (λ (v : List Fact). (block_ends (origin_at v) (is_killing infos) None f.body).kills) facts;
      origin = c.walk_function-found.ensures.origin
          ∙ ap (λ v. fold (result_origin_after infos v) None (statements f.body)) facts;
      needs = c.walk_function-found.ensures.needs
          ∙ ap (λ v. fold (with_needs_of infos v) 0 (statements f.body)) facts;
      calls = c.walk_function-found.ensures.calls;
    }

use Rattle.std.proofs.Common.{◌≡◌, sym, ap, subst, ◌∙◌, ℕ, ◌+◌, ◌<◌, List, [], ◌∷◌, Some, ◌++◌, length, replicate, slice_get, arith}
use Rattle.shader_analysis_spec.specs.Program.{Expression, Function, Module}
use Rattle.shader_expression_types.proofs.FaultLemmas.{sound_beyond}
use Rattle.shader_expression_types.proofs.ListLemmas.{IsLeft, next_left, none_left, up_to_here}
use Rattle.shader_expression_types.proofs.NextLemmas.{long, one_more_zero}
use Rattle.shader_expression_types.specs.Checked.{IsSound}
use Rattle.shader_info.specs.declared.info.FunctionInfo.{FunctionInfo}
use Rattle.shader_passes.proofs.FactLemmas.{extends}
use Rattle.shader_passes.specs.Counting.{counts_in}
use Rattle.shader_passes.specs.Facts.{Fact, facts_after}
use Rattle.shader_passes.specs.Records.{facts_in, types_in}
use Rattle.shader_passes.specs.Results.{computed_facts}
use Rattle.shader_expression_types.proofs.recording.record_expressions.Goals.{In-None}
use Rattle.shader_expression_types.proofs.recording.record_expressions.Goals as goal

pub record_next-added-requires-clause-position : goal.record_next-added-requires-clause-position
record_next-added-requires-clause-position c =
    let expressions = c.args.function.now.expressions in
    let count = length c.loop-handle.records.items in
    (next_left expressions count c.in-Some.handle c.in-Some.expression.now c.next.new.self
    (subst (λ v. IsLeft expressions count v) c.in-Some.ensures.steps c.loop-handle.invariant.2)).0

pub record_next-added-requires-clause-there : goal.record_next-added-requires-clause-there
record_next-added-requires-clause-there c =
    let expressions = c.args.function.now.expressions in
    let count = length c.loop-handle.records.items in
    let at = next_left expressions count c.in-Some.handle c.in-Some.expression.now c.next.new.self
    (subst (λ v. IsLeft expressions count v) c.in-Some.ensures.steps c.loop-handle.invariant.2) in
    subst (λ v. slice_get expressions v ≡ Some c.in-Some.expression.now) (sym at.0) at.1

-- the facts that come after those so far
later : (m : Module) (infos : List FunctionInfo) (f : Function) (facts : List Fact) (items : List (ℕ × Expression)) →
    facts_after m infos f facts items ≡ computed_facts m infos f → (rest : List Fact) × (computed_facts m infos f ≡ facts ++ rest)
later m infos f facts items all = let more = extends m infos f facts items in (more.0, sym all ∙ more.1)

pub loop-handle-preserved : goal.loop-handle-preserved
loop-handle-preserved c =
    let m = c.args.module.now in
    let infos = c.args.infos.now in
    let f = c.args.function.now in
    let old = c.loop-handle.records.items in
    let facts = facts_in old c.loop-handle.roots.items in
    let new = c.record_next-added.new.records.items in
    let added = c.in-Ok.ensures in
    let expressions = f.expressions in
    let at = next_left expressions (length old) c.in-Some.handle c.in-Some.expression.now c.next.new.self
    (subst (λ v. IsLeft expressions (length old) v) c.in-Some.ensures.steps c.loop-handle.invariant.2) in
    let rest = later m infos f facts c.loop-handle.handle-iterator c.loop-handle.invariant.4 in (
      tt,
      tt,
      subst (λ v. IsLeft expressions v c.next.new.self) (sym added.one) at.2,
      added.long,
      ap (λ v. facts_after m infos f v c.next.new.self) added.facts
          ∙ subst (λ v. facts_after m infos f facts v ≡ computed_facts m infos f) c.in-Some.ensures.steps c.loop-handle.invariant.4,
      added.counts ∙ (ap (λ (v : List ℕ). v ++ 0 ∷ []) c.loop-handle.invariant.5 ∙ (one_more_zero (length old)
          ∙ ap (λ v. replicate v 0) (sym added.one))),
      added.first,
      added.fit,
      λ e lt. up_to_here (IsSound m infos f c.args.capabilities) (length old) c.loop-handle.invariant.8
          (subst (IsSound m infos f c.args.capabilities) at.0 (added.sound rest.0 rest.1)) e (omega (arith, lt, added.one)),
    )

pub returns-in-Err-clause-named : goal.returns-in-Err-clause-named
returns-in-Err-clause-named c =
    let rest = later c.args.module.now c.args.infos.now c.args.function.now
    (facts_in c.loop-handle.records.items c.loop-handle.roots.items) c.loop-handle.handle-iterator c.loop-handle.invariant.4 in
    c.in-Err.ensures.named rest.0 rest.1

complete : (c : In-None) → length c.loop-handle.records.items ≡ length c.args.function.now.expressions
complete c = none_left c.args.function.now.expressions (length c.loop-handle.records.items)
    (subst (λ v. IsLeft c.args.function.now.expressions (length c.loop-handle.records.items) v) c.in-None.ensures.steps.0
    c.loop-handle.invariant.2)

pub returns-clause-counts : goal.returns-clause-counts
returns-clause-counts c = c.loop-handle.invariant.5 ∙ ap (λ v. replicate v 0) (complete c)

pub returns-clause-types : goal.returns-clause-types
returns-clause-types c = record {
  complete = sym (long c.loop-handle.records.items) ∙ complete c;
  derived = c.loop-handle.invariant.6;
}

pub returns-clause-sound : goal.returns-clause-sound
returns-clause-sound c =
    sound_beyond c.args.module.now c.args.infos.now c.args.function.now c.args.capabilities (types_in c.loop-handle.records.items)
    (sym (long c.loop-handle.records.items) ∙ complete c)
    (λ e lt. c.loop-handle.invariant.8 e (omega (arith, lt, long c.loop-handle.records.items)))

use Rattle.std.proofs.Common.{sym, ap, subst, ◌∙◌, length}
use Rattle.shader_expression_types.proofs.NextLemmas.{facts_long, first_recorded, fit_recorded, recorded_facts}
use Rattle.shader_analysis_spec.specs.Derivable.{Derives, function_context}
use Rattle.shader_ir.specs.Key.{FitsTypes}
use Rattle.shader_passes.specs.Records.{fact_of, facts_in}
use Rattle.shader_expression_types.proofs.recording.record_next.Goals as goal

pub next_type-requires-clause-known : goal.next_type-requires-clause-known
next_type-requires-clause-known c =
    let records = c.args.records.now.items in
    let roots = c.args.roots.now.items in
    ap length (c.new-facts.ensures ∙ (ap (λ v. facts_in v c.as_slice-2.result.now) c.as_slice.ensures.value
    ∙ ap (facts_in records) c.as_slice-2.ensures.value))
    ∙ (facts_long records roots c.requires.long ∙ ap length (sym c.as_slice-3.ensures.value))

pub returns-clause-facts : goal.returns-clause-facts
returns-clause-facts c =
    let records = c.args.records.now.items in
    let roots = c.args.roots.now.items in
    recorded_facts records c.record_of-found.result c.add.new.records.items c.in_ok-add.ensures.records
    c.args.module.now c.args.infos.now c.args.function.now c.args.handle c.args.expression.now c.new-facts.result roots
    c.own_root-root.result c.add.new.roots.items c.requires.long
    (c.new-facts.ensures ∙ (ap (λ v. facts_in v c.as_slice-2.result.now) c.as_slice.ensures.value
    ∙ ap (facts_in records) c.as_slice-2.ensures.value))
    c.in_ok-add.ensures.roots
    (ap (fact_of c.record_of-found.result) c.own_root-root.ensures ∙ c.record_of-found.ensures.fact)

pub returns-clause-first : goal.returns-clause-first
returns-clause-first c =
    let derives = Derives (function_context c.args.module.now c.args.function.now) c.args.function.now.expressions c.args.handle in
    first_recorded c.args.records.now.items c.record_of-found.result c.add.new.records.items c.in_ok-add.ensures.records
    c.args.module.now c.args.function.now c.args.handle c.requires.position c.requires.first
    (subst derives (sym c.record_of-found.ensures.ty) c.in_ok-ty.ensures.derived)

pub returns-clause-fit : goal.returns-clause-fit
returns-clause-fit c =
    fit_recorded c.args.records.now.items c.record_of-found.result c.add.new.records.items c.in_ok-add.ensures.records
    c.args.module.now c.requires.fit
    (subst (FitsTypes c.args.module.now.types) (sym c.record_of-found.ensures.ty) c.in_ok-ty.ensures.fits)

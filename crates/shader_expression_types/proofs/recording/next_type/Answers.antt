use Rattle.std.proofs.Common.{sym, subst, ◌∙◌}
use Rattle.shader_analysis_spec.specs.Derivable.{function_context}
use Rattle.shader_expression_types.proofs.ListLemmas.{at_position, operands_below}
use Rattle.shader_expression_types.proofs.NextLemmas.{next_failure_is_named, next_is_sound, next_refusal_is_named}
use Rattle.shader_expression_types.specs.Checked.{NamesFault}
use Rattle.shader_resolve.specs.Context.{IsInRange}
use Rattle.shader_resolve.specs.DerivesByRule.{memory_of}
use Rattle.shader_resolve.specs.WellFormed.{OperandsBelow}
use Rattle.shader_expression_types.proofs.recording.next_type.Goals as goal

pub access_refusal-requires-clause-operands : goal.access_refusal-requires-clause-operands
access_refusal-requires-clause-operands c =
    subst (λ v. OperandsBelow v c.args.expression.now) c.requires.position
    (operands_below c.args.function.now c.requires.operands c.args.handle c.args.expression.now c.requires.there)

pub type_beside-requires-clause-names : goal.type_beside-requires-clause-names
type_beside-requires-clause-names c =
    subst (λ v. IsInRange v c.args.expression.now) (sym c.requires.same)
    (at_position (IsInRange (function_context c.args.module.now c.args.function.now)) c.args.function.now.expressions c.args.handle
    c.args.expression.now c.requires.context.names c.requires.there)

pub type_beside-requires-clause-operands : goal.type_beside-requires-clause-operands
type_beside-requires-clause-operands c =
    subst (λ v. OperandsBelow v c.args.expression.now) c.requires.position
    (operands_below c.args.function.now c.requires.operands c.args.handle c.args.expression.now c.requires.there)

pub returns-in-Some-clause-named : goal.returns-in-Some-clause-named
returns-in-Some-clause-named c = λ infos later found.
    next_refusal_is_named c.args.module.now infos c.args.function.now c.args.capabilities c.args.facts.now later found c.args.records.now
    c.requires.operands c.requires.first c.args.handle c.requires.position c.requires.known c.args.expression.now c.requires.there
    c.in-Some.source (sym c.access_refusal.ensures ∙ c.in-Some.is)

pub returns-in-Ok-clause-sound : goal.returns-in-Ok-clause-sound
returns-in-Ok-clause-sound c = λ infos later found.
    next_is_sound c.args.module.now infos c.args.function.now c.args.capabilities c.args.facts.now later found c.args.records.now
    c.requires.operands c.requires.first c.args.handle c.requires.position c.requires.known c.args.expression.now c.requires.there
    c.args.context.now c.requires.same (memory_of c.args.expression.now) c.type_beside.result c.type_beside.ensures.reported
    c.in-Ok.resolution c.in-Ok.is (sym c.access_refusal.ensures ∙ c.in-None.is)

pub returns-in-Err-clause-named : goal.returns-in-Err-clause-named
returns-in-Err-clause-named c = λ infos later found.
    subst (NamesFault c.args.module.now infos c.args.function.now c.args.capabilities) (sym c.untyped.ensures)
    (next_failure_is_named c.args.module.now infos c.args.function.now c.args.capabilities c.args.facts.now later found c.args.records.now
    c.requires.operands c.requires.first c.args.handle c.requires.position c.requires.known c.args.expression.now c.requires.there
    c.args.context.now c.requires.same (memory_of c.args.expression.now) c.type_beside.result c.type_beside.ensures.reported
    c.in-Err.failure c.in-Err.is)

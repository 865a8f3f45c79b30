use Rattle.std.proofs.Common.{◌+◌, ◌*◌, length, take}
use Rattle.json.specs.Tree.{json_tokens, members_tokens}
use Rattle.json.specs.Value.{items_view, members_view, value_view}
use Rattle.shader_ir.specs.BodyOf.{body_of, cases_of}
use Rattle.shader_json_functions.specs.Statements.{AreCases, AreStatements}
use Rattle.shader_json_functions.proofs.statements.+statement.Given as goal

abbrev pub decreases-block : goal.decreases-block
decreases-block l = 4 * length (json_tokens (value_view l.value.now))

abbrev pub decreases-statement_at : goal.decreases-statement_at
decreases-statement_at l = 4 * length (json_tokens (value_view l.value.now)) + 1

abbrev pub decreases-statement : goal.decreases-statement
decreases-statement l = 4 * length (json_tokens (value_view l.value.now))

abbrev pub decreases-nested : goal.decreases-nested
decreases-nested l = 4 * length (json_tokens (value_view l.payload.value.now)) + 1

abbrev pub decreases-if_else : goal.decreases-if_else
decreases-if_else l = 4 * length (json_tokens (value_view l.payload.value.now))

abbrev pub decreases-switch : goal.decreases-switch
decreases-switch l = 4 * length (json_tokens (value_view l.payload.value.now))

abbrev pub decreases-repeat : goal.decreases-repeat
decreases-repeat l = 4 * length (json_tokens (value_view l.payload.value.now))

abbrev pub decreases-inner : goal.decreases-inner
decreases-inner l = 4 * length (members_tokens (members_view l.fields.members.now))

abbrev pub decreases-cases : goal.decreases-cases
decreases-cases l = 4 * length (members_tokens (members_view l.fields.members.now))

abbrev pub decreases-case_list : goal.decreases-case_list
decreases-case_list l = 4 * length (json_tokens (value_view l.value.now))

abbrev pub decreases-case_at : goal.decreases-case_at
decreases-case_at l = 4 * length (json_tokens (value_view l.value.now)) + 1

abbrev pub decreases-case : goal.decreases-case
decreases-case l = 4 * length (json_tokens (value_view l.value.now))

abbrev pub invariant-block-loop-index : goal.invariant-block-loop-index
invariant-block-loop-index l = AreStatements (body_of l.statements.items) (items_view (take l.index l.item-items))

abbrev pub invariant-case_list-loop-index : goal.invariant-case_list-loop-index
invariant-case_list-loop-index l = AreCases (cases_of l.cases.items) (items_view (take l.index l.item-items))

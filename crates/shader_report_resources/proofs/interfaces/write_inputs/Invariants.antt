use Rattle.std.proofs.Common.{◌≡◌, drop, flat_map}
use Rattle.std.specs.List.{enumerate_from}
use Rattle.json.specs.Value.{value_view}
use Rattle.shader_report_resources.specs.Interfaces.{input_tokens, inputs_tokens}
use Rattle.report_json.specs.Tokens.{Leads}
use Rattle.shader_report_resources.proofs.interfaces.write_inputs.Given as goal

abbrev pub invariant-loop-argument : goal.invariant-loop-argument
invariant-loop-argument l =
    (l.index ≡ l.argument-index)
    × Leads l.initial.writer l.writer
    (flat_map (input_tokens (value_view l.root) l.«module» l.place)
    (enumerate_from l.index (drop l.argument-index l.function.arguments)))
    (inputs_tokens (value_view l.root) l.«module» l.place l.function)

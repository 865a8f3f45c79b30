use Rattle.std.proofs.Common.{◌≡◌, ◌++◌}
use Rattle.std.specs.Option.{option_map}
use Rattle.typer_answers.specs.Requests.{types_of}
use Rattle.typer_answers.proofs.request.parse_types.Given as goal

-- the types so far, and those of the remaining words
abbrev pub invariant-loop-word : goal.invariant-loop-word
invariant-loop-word l =
    option_map (λ ts. l.types.items ++ ts) (types_of l.word-iterator) ≡ types_of l.fn.words

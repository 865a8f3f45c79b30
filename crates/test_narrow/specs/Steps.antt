-- Steps of narrowing, the words that spell them and the calls on sets that they stand for.
use Rattle.std.specs.Prelude.{◌≡◌, ◌==◌, ◌+◌, if◌then◌else◌, ℕ, Bool, List, take, drop, position, codes, Option, Some, is_none}
use Rattle.std.specs.Option.{option_map, option_and_then}
use Rattle.std.specs.Str.{bytes_eq}
use Rattle.shader_ir.specs.declared.types.«Type».{«Type»}
use Rattle.shader_ir.specs.declared.types.TypeInner.{TypeInner}
use Rattle.shader_overloads.specs.declared.overload_set.SetCall.{SetCall}
use Rattle.shader_overloads.specs.declared.overload_set.SetCall.TheVariants as calls
use Rattle.shader_type_text.specs.Numbers.{number_of_word}
use Rattle.shader_type_text.specs.Insertions.{IsInserted}
use Rattle.shader_type_text.specs.Types.{type_of}
use Rattle.test_narrow.specs.declared.step.Step.{Step}
use Rattle.test_narrow.specs.declared.step.Step.TheVariants.{Argument, ConcreteOnly}

-- `I=TYPE`, split at the first `=`
abbrev pub argument_of : List ℕ → Option Step
argument_of word = option_and_then (λ at. option_and_then (λ position. option_map (Argument position)
    (type_of (drop (at + 1) word))) (number_of_word (take at word))) (position (λ b. b == 61) word)

-- `concrete`, or an argument
abbrev pub step_of_word : List ℕ → Option Step
step_of_word word = if bytes_eq (codes "concrete") word then Some ConcreteOnly else argument_of word

-- whether the word spells no step
abbrev pub has_no_step : List ℕ → Bool
has_no_step word = is_none (step_of_word word)

-- the call supplies the argument, with its type in the arena, or keeps only concrete rules
abbrev pub IsCallOf : List «Type» → Step → SetCall → Type 0
IsCallOf types (Argument position spelled) call = (inner : TypeInner) × (call ≡ calls.Arg position inner) × IsInserted types spelled inner
IsCallOf types ConcreteOnly call = call ≡ calls.ConcreteOnly

-- the call is that of the step that the word spells
abbrev pub Denotes : List «Type» → List ℕ → SetCall → Type 0
Denotes types word call = (step : Step) × (step_of_word word ≡ Some step) × IsCallOf types step call

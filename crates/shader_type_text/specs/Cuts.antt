-- Splitting of byte strings.
use Rattle.std.specs.Prelude.{◌==◌, ◌+◌, ◌-◌, if◌then◌else◌, ℕ, length, take, drop, position, List, codes, Option, Some, None}
use Rattle.std.specs.Str.{bytes_eq}
use Rattle.std.specs.Option.{option_map, option_and_then}

-- the bytes after this beginning
abbrev pub after_prefix : List ℕ → List ℕ → Option (List ℕ)
after_prefix beginning bytes =
    if bytes_eq (take (length beginning) bytes) beginning then Some (drop (length beginning) bytes) else None

-- the bytes before this end
abbrev pub before_suffix : List ℕ → List ℕ → Option (List ℕ)
before_suffix end bytes =
    if bytes_eq (drop (length bytes - length end) bytes) end then Some (take (length bytes - length end) bytes) else None

-- the name and the argument of `name<argument>`, split at the first bracket
abbrev pub generic_parts : List ℕ → Option (List ℕ × List ℕ)
generic_parts word = option_and_then (λ at. option_map (λ argument. (take at word, argument))
    (before_suffix (codes ">") (drop (at + 1) word))) (position (λ b. b == 60) word)

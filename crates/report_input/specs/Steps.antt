-- Ways to values in JSON, as paths and as pointers.
use Rattle.std.specs.Prelude.{ℕ, List, [], ◌∷◌, ◌++◌, codes}
use Rattle.std.specs.Fmt.{decimal}
use Rattle.std.specs.List.{flat_map}
use Rattle.report_input.specs.declared.steps.Step.{Step}
use Rattle.report_input.specs.declared.steps.Step.TheVariants.{Member, Item}

-- behind other steps
abbrev pub step_in_path : Step → List ℕ
step_in_path (Member name) = codes "." ++ name
step_in_path (Item index) = codes "[" ++ (decimal index ++ codes "]")

abbrev pub steps_in_path : List Step → List ℕ
steps_in_path steps = flat_map step_in_path steps

-- no point stands before the first member
abbrev pub first_in_path : Step → List ℕ
first_in_path (Member name) = name
first_in_path (Item index) = step_in_path (Item index)

abbrev pub path_text : List Step → List ℕ
path_text [] = []
path_text (first ∷ rest) = first_in_path first ++ steps_in_path rest

abbrev pub step_in_pointer : Step → List ℕ
step_in_pointer (Member name) = codes "/" ++ name
step_in_pointer (Item index) = codes "/" ++ decimal index

-- RFC 6901, of names that have neither of the characters which it escapes
abbrev pub pointer_text : List Step → List ℕ
pointer_text steps = flat_map step_in_pointer steps

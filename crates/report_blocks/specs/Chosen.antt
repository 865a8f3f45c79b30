-- Which diagnostics get a block.
use Rattle.std.specs.Prelude.{ℕ, zero, suc, ◌-◌, Bool, ◌&&◌, ◌||◌, not, List, [], ◌∷◌, ◌++◌, if◌then◌else◌, length, nat_lt}
use Rattle.report_diagnostics.specs.declared.diagnostic.Diagnostic.{Diagnostic}
use Rattle.report_blocks.specs.Causes.{is_repeated}

-- it has the causes of each of the four before it: the first of these shows the causes, and three repeat them
abbrev pub is_left_out : List Diagnostic → ℕ → Bool
is_left_out diagnostics index =
    is_repeated diagnostics index && (is_repeated diagnostics (index - 1)
    && (is_repeated diagnostics (index - 2) && is_repeated diagnostics (index - 3)))

-- at most 20 get one, unless all do; so many before it do
abbrev pub is_chosen : Bool → List Diagnostic → (before index : ℕ) → Bool
is_chosen all diagnostics before index = all || (nat_lt before 20 && not (is_left_out diagnostics index))

-- the indexes before it that get one, and the index itself if it does
abbrev pub with_next : Bool → List Diagnostic → List ℕ → ℕ → List ℕ
with_next all diagnostics before index =
    if is_chosen all diagnostics (length before) index then before ++ index ∷ [] else before

-- the indexes of those among the first that get one
abbrev pub chosen_among : Bool → List Diagnostic → ℕ → List ℕ
chosen_among all diagnostics zero = []
chosen_among all diagnostics (suc n) = with_next all diagnostics (chosen_among all diagnostics n) n

abbrev pub chosen : Bool → List Diagnostic → List ℕ
chosen all diagnostics = chosen_among all diagnostics (length diagnostics)

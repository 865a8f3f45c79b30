-- Lines of two columns.
use Rattle.std.specs.Prelude.{ℕ, ◌-◌, ◌==◌, List, [], ◌∷◌, ◌++◌, codes, fold, if◌then◌else◌, length, max}
use Rattle.std.specs.List.{repeat}
use Rattle.std.specs.Str.{chars}

-- the texts of a line, of which the second may be empty
pub record Row : Type 0 where
  pub first : List ℕ
  pub second : List ℕ

abbrev pub row : List ℕ → List ℕ → Row
row first second = record { first = first; second = second }

-- how many characters a text has
abbrev pub columns_of : List ℕ → ℕ
columns_of text = length (chars text)

-- wide enough for one more line, if that has two columns
abbrev pub wider : ℕ → Row → ℕ
wider width row = if length row.second == 0 then width else max width (columns_of row.first)

-- the first column is as wide as the widest text that stands before another one
abbrev pub width_of : List Row → ℕ
width_of rows = fold wider 0 rows

-- the text, and blanks behind it up to a width
abbrev pub padded_text : ℕ → List ℕ → List ℕ
padded_text width text = text ++ repeat (width - columns_of text) (codes " ")

abbrev pub line_text : ℕ → Row → List ℕ
line_text width row = if length row.second == 0 then codes "  " ++ (row.first ++ codes "\n")
    else codes "  " ++ (padded_text width row.first ++ (codes "  " ++ (row.second ++ codes "\n")))

abbrev pub lines_text : ℕ → List Row → List ℕ
lines_text width [] = []
lines_text width (row ∷ rows) = line_text width row ++ lines_text width rows

abbrev pub rows_text : List Row → List ℕ
rows_text rows = lines_text (width_of rows) rows

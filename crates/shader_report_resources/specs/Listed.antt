-- Lists of the text for people.
use Rattle.std.specs.Prelude.{ℕ, ◌==◌, List, [], ◌++◌, codes, if◌then◌else◌, length}
use Rattle.report_columns.specs.Columns.{Row, rows_text}

-- the lines behind an empty line and a title, and nothing where there are no lines
abbrev pub listed : List ℕ → List Row → List ℕ
listed title rows = if length rows == 0 then [] else codes "\n" ++ (title ++ (codes "\n" ++ rows_text rows))

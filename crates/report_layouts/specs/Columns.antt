-- Lines with texts in columns.
use Rattle.std.specs.Prelude.{ℕ, ◌==◌, List, [], ◌∷◌, ◌++◌, codes, fold, if◌then◌else◌, max}
use Rattle.report_columns.specs.Columns.{columns_of, padded_text}
use Rattle.report_layouts.specs.declared.columns.Widths.{Widths}

-- what is declared, and its layout: an offset, an alignment and a size, of which the first two may be empty
pub record Row : Type 0 where
  pub declared : List ℕ
  pub offset : List ℕ
  pub alignment : List ℕ
  pub size : List ℕ

abbrev pub row : List ℕ → List ℕ → List ℕ → List ℕ → Row
row declared offset alignment size = record { declared = declared; offset = offset; alignment = alignment; size = size }

-- a column behind which another one stands; one without a width isn't there
abbrev pub column_text : ℕ → List ℕ → List ℕ
column_text width text = if width == 0 then [] else padded_text width text ++ codes "  "

-- wide enough for one more line
abbrev pub wider : Widths → Row → Widths
wider widths row = record {
  declared = max widths.declared (columns_of row.declared);
  offset = max widths.offset (columns_of row.offset);
  alignment = max widths.alignment (columns_of row.alignment);
}

-- each column is as wide as the widest text in it
abbrev pub widths_of : List Row → Widths
widths_of rows = fold wider (record { declared = 0; offset = 0; alignment = 0 }) rows

-- what is declared, and in a comment behind it its layout
abbrev pub line_text : Widths → Row → List ℕ
line_text widths row =
    padded_text widths.declared row.declared ++ (codes "  // " ++ (column_text widths.offset row.offset
    ++ (column_text widths.alignment row.alignment ++ (row.size ++ codes "\n"))))

abbrev pub lines_text : Widths → List Row → List ℕ
lines_text widths [] = []
lines_text widths (row ∷ rows) = line_text widths row ++ lines_text widths rows

abbrev pub aligned_text : List Row → List ℕ
aligned_text rows = lines_text (widths_of rows) rows

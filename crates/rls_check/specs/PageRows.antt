-- How a page tells what a statement did with rows.
use Rattle.std.specs.Prelude.{ℕ, List, [], ◌∷◌, ◌++◌, ◌-◌, Bool, ◌||◌, nat_eq, not, codes, Option, Some, None, filter, length, take, unwrap_or, if◌then◌else◌}
use Rattle.std.specs.List.{flat_map}
use Rattle.std.specs.Str.{bytes_eq}
use Rattle.rls_value.specs.{declared.value.Value.Value, Objects.row_id_text, Values.literal_text}
use Rattle.rls_expr.specs.declared.table.Column.{Column}
use Rattle.rls_catalog.specs.State.{State, table_of}
use Rattle.rls_explain.specs.declared.explanation.Explained.{Explained}
use Rattle.rls_explain.specs.declared.outcome.RowOutcome.{RowOutcome}
use Rattle.rls_check.specs.PageDecisions.{why_pieces}
use Rattle.rls_check.specs.Pieces.{Data, Number, Piece, Tag, page_text}
use Rattle.rls_check.specs.ShownRows.{columns_if, row_text, row_word}
use Rattle.rls_check.specs.ShownTexts.{is_seen, rows_word}
use Rattle.rls_check.specs.Tallies.{is_denied_row, is_shown_row, is_written_row}

-- ---- how many of each outcome

-- a word of them, in this color
abbrev pub is_in_word : List ℕ → RowOutcome → Bool
is_in_word word one = bytes_eq (row_word one.word) word

abbrev pub chip_with : List ℕ → List ℕ → ℕ → List Piece
chip_with color word n = Tag color ∷ Number n ∷ Tag (codes " ") ∷ Tag word ∷ Tag (codes "</span>") ∷ []

abbrev pub chip_of : List ℕ → List ℕ → ℕ → List Piece
chip_of color word n = if nat_eq n 0 then [] else chip_with color word n

abbrev pub chip_pieces : List RowOutcome → List ℕ → List ℕ → List Piece
chip_pieces rows color word = chip_of color word (length (filter (is_in_word word) rows))

abbrev pub good : List ℕ
good = codes "<span class=\"g\">"

abbrev pub bad : List ℕ
bad = codes "<span class=\"r\">"

abbrev pub other : List ℕ
other = codes "<span>"

-- rows that were shown and written
abbrev pub good_chips : List RowOutcome → List Piece
good_chips rows =
    chip_pieces rows good (codes "listed") ++ (chip_pieces rows good (codes "counted") ++ (chip_pieces rows good (codes "changed")
    ++ (chip_pieces rows good (codes "deleted") ++ (chip_pieces rows good (codes "inserted") ++ chip_pieces rows good (codes "returned")))))

-- those that were denied, and the others
abbrev pub other_chips : List RowOutcome → List Piece
other_chips rows =
    chip_pieces rows bad (codes "hidden") ++ (chip_pieces rows bad (codes "barred") ++ (chip_pieces rows bad (codes "refused")
    ++ (chip_pieces rows other (codes "matched") ++ (chip_pieces rows other (codes "proposed") ++ (chip_pieces rows other (codes "skipped") ++ chip_pieces rows other (codes "seen"))))))

-- ---- a row

-- a value below its column
abbrev pub cell_begin : Column → List Piece
cell_begin column = Tag (codes "<td class=\"v\" data-l=\"") ∷ Data column.name ∷ Tag (codes "\">") ∷ []

abbrev pub cell_with : Column → List Piece → List Piece
cell_with column inner = cell_begin column ++ (inner ++ (Tag (codes "</td>") ∷ []))

abbrev pub value_pieces : Value → List Piece
value_pieces value = Data (literal_text value) ∷ []

-- one that is changed
abbrev pub both_texts : List ℕ → List ℕ → List Piece
both_texts old new = Tag (codes "<del>") ∷ Data old ∷ Tag (codes "</del><span class=\"arrow\"> &rarr; </span><ins>") ∷ Data new ∷ Tag (codes "</ins>") ∷ []

abbrev pub changed_texts : List ℕ → List ℕ → List Piece
changed_texts old new = if bytes_eq old new then Data old ∷ [] else both_texts old new

abbrev pub changed_pieces : Value → Value → List Piece
changed_pieces old new = changed_texts (literal_text old) (literal_text new)

-- a value, with that of the changed row where there is one
abbrev pub cell_pieces : Column → Value → List Value → List Piece
cell_pieces column value [] = cell_with column (value_pieces value)
cell_pieces column old (new ∷ others) = cell_with column (changed_pieces old new)

abbrev pub behind_first : List Value → List Value
behind_first [] = []
behind_first (value ∷ values) = values

-- each of them, with those of the changed row where it is changed
abbrev pub cells_pieces : List Column → List Value → List Value → List Piece
cells_pieces (column ∷ columns) (value ∷ values) others = cell_pieces column value others ++ cells_pieces columns values (behind_first others)
cells_pieces columns values others = []

-- as they are written
abbrev pub cell_texts : List Column → List Value → List Value → List ℕ
cell_texts (column ∷ columns) (value ∷ values) others = page_text (cell_pieces column value others) ++ cell_texts columns values (behind_first others)
cell_texts columns values others = []

-- the color of its outcome
abbrev pub outcome_tag : RowOutcome → List ℕ
outcome_tag one =
    if is_denied_row one then codes "<tr><td class=\"what r\">"
    else if is_shown_row one || is_written_row one then codes "<tr><td class=\"what g\">"
    else codes "<tr><td class=\"what\">"

-- its outcome, number and values, and why
abbrev pub row_pieces : List ℕ → List Column → List Explained → RowOutcome → List Piece
row_pieces role columns explained one =
    Tag (outcome_tag one) ∷ Tag (row_word one.word) ∷ Tag (codes "</td><td class=\"v\">") ∷ Data (row_id_text one.id) ∷ Tag (codes "</td>")
    ∷ (cells_pieces columns one.row (unwrap_or one.new []) ++ (Tag (codes "<td class=\"y\">") ∷ (why_pieces role explained one ++ (Tag (codes "</td></tr>\n") ∷ []))))

-- ---- the rows of the statement's table

abbrev pub column_pieces : Column → List Piece
column_pieces column = Tag (codes "<th scope=\"col\">") ∷ Data column.name ∷ Tag (codes "</th>") ∷ []

-- what stands above them
abbrev pub table_head : List ℕ → List Column → List Piece
table_head table columns =
    Tag (codes "<div class=\"rows\" tabindex=\"0\" role=\"region\" aria-label=\"Rows of ") ∷ Data table ∷ Tag (codes "\"><table><caption>") ∷ Data table
    ∷ Tag (codes "</caption><thead><tr><th scope=\"col\">Outcome</th><th scope=\"col\">Row</th>")
    ∷ (flat_map column_pieces columns ++ (Tag (codes "<th scope=\"col\">Why</th></tr></thead><tbody>\n") ∷ []))

-- how many more there are
abbrev pub some_more : ℕ → List Piece
some_more n = Tag (codes "<p class=\"dim\">and ") ∷ Number n ∷ Tag (codes " more") ∷ Tag (rows_word n) ∷ Tag (codes "</p>\n") ∷ []

abbrev pub more_pieces : ℕ → List Piece
more_pieces n = if nat_eq n 0 then [] else some_more n

-- the first of them, so many at most
abbrev pub table_of_some : ℕ → List ℕ → List ℕ → List Column → List Explained → List RowOutcome → List Piece
table_of_some most role table columns explained rows =
    table_head table columns ++ (flat_map (row_pieces role columns explained) (take most rows) ++ (Tag (codes "</tbody></table></div>\n") ∷ more_pieces (length rows - most)))

abbrev pub table_pieces : ℕ → List ℕ → List ℕ → List Column → List Explained → List RowOutcome → List Piece
table_pieces most role table columns explained rows = if nat_eq (length rows) 0 then [] else table_of_some most role table columns explained rows

-- ---- those that subqueries could see

abbrev pub seen_pieces : State → RowOutcome → List Piece
seen_pieces s one = Tag (codes "<li class=\"v\">") ∷ Data (row_text s one) ∷ Tag (codes "</li>\n") ∷ []

abbrev pub list_of_some : ℕ → State → List RowOutcome → List Piece
list_of_some most s rows =
    Tag (codes "<p class=\"dim\">Rows that subqueries could see:</p><ul class=\"p\">\n") ∷ (flat_map (seen_pieces s) (take most rows) ++ (Tag (codes "</ul>\n") ∷ more_pieces (length rows - most)))

abbrev pub list_pieces : ℕ → State → List RowOutcome → List Piece
list_pieces most s rows = if nat_eq (length rows) 0 then [] else list_of_some most s rows

-- ---- all of a statement

abbrev pub is_of_table : RowOutcome → Bool
is_of_table one = not (is_seen one)

abbrev pub rows_pieces : ℕ → State → List ℕ → List ℕ → List Explained → List RowOutcome → List Piece
rows_pieces most s role table explained rows =
    table_pieces most role table (columns_if (table_of s table)) explained (filter is_of_table rows) ++ list_pieces most s (filter is_seen rows)

-- the tables of the rows, each once behind this one
abbrev pub tables_behind : List ℕ → List RowOutcome → List ℕ
tables_behind last [] = []
tables_behind last (one ∷ more) = if bytes_eq last one.table then tables_behind last more else codes " " ++ (one.table ++ tables_behind one.table more)

-- the tables of a statement
abbrev pub tables_text : Option (List ℕ) → List RowOutcome → List ℕ
tables_text None rows = []
tables_text (Some table) rows = table ++ tables_behind table rows

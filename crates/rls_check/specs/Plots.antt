-- The timeline of a page: a bar for each transaction that is drawn, from top to bottom in serial order, from left to right from its begin
-- to its commit, and an arrow for each rw-antidependency.
use Rattle.std.specs.Prelude.{ℕ, Bool, false, ◌+◌, ◌-◌, ◌&&◌, ◌||◌, max, nat_eq, nat_le, nat_lt, List, [], ◌∷◌, ◌++◌, filter, get_or, length, replicate, set, slice_get, codes, Option, Some, None, if◌then◌else◌}
use Rattle.std.specs.List.{flat_map}
use Rattle.rls_check.specs.declared.edges.Conflict.{Conflict}
use Rattle.rls_check.specs.declared.tallies.Tally.{Tally}
use Rattle.rls_check.specs.declared.transaction.Transaction.{Transaction}
use Rattle.rls_check.specs.Audited.{transaction_at}
use Rattle.rls_check.specs.GraphSteps.{drawn_with, is_at}
use Rattle.rls_check.specs.Pieces.{Data, Number, Piece, Tag}
use Rattle.rls_check.specs.Tallies.{has_statements, no_tally}

-- ---- what is drawn

-- the report has a statement of the transaction at the place
abbrev pub is_in : List Tally → ℕ → Bool
is_in tallies place = has_statements (get_or tallies place no_tally)

-- and of both transactions of a rw-antidependency
abbrev pub has_both : List Tally → Conflict → Bool
has_both tallies it = is_in tallies it.reader && is_in tallies it.writer

-- of many transactions with a statement in the report those that have an arrow, a row that was denied, or another one's commit before
-- their own; of few all
abbrev pub is_drawn_among : Bool → Bool → ℕ → Transaction → Tally → Bool
is_drawn_among few arrow place it tally = has_statements tally && (few || (arrow || (nat_lt 0 tally.denied || nat_lt it.snap place)))

-- whether each is drawn, from the place on
abbrev pub drawn_from : Bool → List Bool → List Tally → ℕ → List Transaction → List Bool
drawn_from few arrows tallies place [] = []
drawn_from few arrows tallies place (it ∷ more) = is_drawn_among few (is_at arrows place) place it (get_or tallies place no_tally) ∷ drawn_from few arrows tallies (place + 1) more

-- 30 are few
abbrev pub is_few : List Tally → Bool
is_few tallies = nat_le (length (filter has_statements tallies)) 30

abbrev pub drawn_of : List Transaction → List Tally → List Conflict → List Bool
drawn_of ts tallies conflicts = drawn_from (is_few tallies) (drawn_with (replicate (length ts) false) conflicts) tallies 0 ts

-- ---- where it stands

-- how many are drawn behind one that is drawn or isn't
abbrev pub column_behind : ℕ → Bool → ℕ
column_behind n drawn = if drawn then n + 1 else n

-- how many are drawn of those in front of each place, and of all
abbrev pub columns_from : ℕ → List Bool → List ℕ
columns_from n [] = n ∷ []
columns_from n (drawn ∷ more) = n ∷ columns_from (column_behind n drawn) more

-- the number of the line of each place, from this one on
abbrev pub lines_with : List ℕ → ℕ → List ℕ → List ℕ
lines_with lines n [] = lines
lines_with lines n (place ∷ places) = lines_with (set lines place n) (n + 1) places

-- ---- a bar

-- who a transaction is, and when it ran
abbrev pub ran_pieces : ℕ → Transaction → List Piece
ran_pieces commit it = Data it.begin.login ∷ Tag (codes ", began after ") ∷ Number it.snap ∷ Tag (codes " commits, commit ") ∷ Number commit ∷ []

-- of a row that was denied
abbrev pub denied_label : List Piece
denied_label = Tag (codes ", with denied rows") ∷ []

abbrev pub label_end : Tally → List Piece
label_end tally = if nat_lt 0 tally.denied then denied_label else []

abbrev pub mark_at : ℕ → List Piece
mark_at column = Tag (codes "<svg x=\"") ∷ Number column ∷ Tag (codes "em\"><path class=\"mark\" d=\"M3 8l2-2 3 3 3-3 2 2-3 3 3 3-2 2-3-3-3 3-2-2 3-3z\"/></svg>") ∷ []

abbrev pub mark_pieces : Tally → ℕ → List Piece
mark_pieces tally column = if nat_lt 0 tally.denied then mark_at column else []

-- its link, and what it is called
abbrev pub link_pieces : ℕ → Transaction → Tally → List Piece
link_pieces commit it tally =
    Tag (codes "<a href=\"#t") ∷ Number it.txn ∷ Tag (codes "\" aria-label=\"Transaction ") ∷ Number it.txn ∷ Tag (codes " of ")
    ∷ (ran_pieces commit it ++ (label_end tally ++ (Tag (codes "\"><title>") ∷ Number it.txn ∷ Tag (codes " ") ∷ (ran_pieces commit it ++ (Tag (codes "</title>") ∷ [])))))

-- the bar between the columns, on the line
abbrev pub bar_pieces : ℕ → ℕ → ℕ → Transaction → Tally → List Piece
bar_pieces line from to it tally =
    Tag (codes "<svg y=\"") ∷ Number line ∷ Tag (codes "em\"><rect class=\"band\" x=\"-166\" y=\"2\" width=\"100%\" height=\"20\"/><rect class=\"bar\" x=\"") ∷ Number from ∷ Tag (codes "em\" y=\"8\" width=\"") ∷ Number (to - from)
    ∷ Tag (codes "em\" height=\"8\" rx=\"3\"/>")
    ∷ (mark_pieces tally to ++ (Tag (codes "<text x=\"-158\" y=\"16\">") ∷ Number it.txn ∷ Tag (codes " ") ∷ Data it.begin.login ∷ Tag (codes "</text></svg></a>\n") ∷ []))

-- both, of a transaction with this commit
unfoldable pub drawn_at : ℕ → ℕ → ℕ → ℕ → Transaction → Tally → List Piece
drawn_at commit line from to it tally = link_pieces commit it tally ++ bar_pieces line from to it tally

-- where the columns and lines are these
abbrev pub drawn_pieces : List ℕ → List ℕ → ℕ → Transaction → Tally → List Piece
drawn_pieces columns lines place it tally = drawn_at (place + 1) (get_or lines place 0) (get_or columns it.snap 0) (get_or columns (place + 1) 0) it tally

abbrev pub drawn_if : List ℕ → List ℕ → List Tally → ℕ → Option Transaction → List Piece
drawn_if columns lines tallies place None = []
drawn_if columns lines tallies place (Some it) = drawn_pieces columns lines place it (get_or tallies place no_tally)

-- that of the place, where there is a transaction
abbrev pub bar_at : List ℕ → List ℕ → List Transaction → List Tally → ℕ → List Piece
bar_at columns lines ts tallies place = drawn_if columns lines tallies place (slice_get ts place)

-- ---- an arrow

-- in the column where both had begun, from line to line
abbrev pub arrow_between : ℕ → ℕ → ℕ → List Piece
arrow_between column from to =
    Tag (codes "<line class=\"rw\" x1=\"") ∷ Number column ∷ Tag (codes "em\" y1=\"") ∷ Number from ∷ Tag (codes "em\" x2=\"") ∷ Number column ∷ Tag (codes "em\" y2=\"") ∷ Number to
    ∷ Tag (codes "em\" transform=\"translate(9,12)\"/><svg x=\"") ∷ Number column ∷ Tag (codes "em\" y=\"") ∷ Number to ∷ Tag (codes "em\"><path class=\"tip\" d=\"M9 8l-4-8h8z\"/></svg>\n") ∷ []

unfoldable pub arrow_pieces : List ℕ → List ℕ → List Transaction → Conflict → List Piece
arrow_pieces columns lines ts it =
    arrow_between (max (get_or columns (transaction_at ts it.reader).snap 0) (get_or columns (transaction_at ts it.writer).snap 0)) (get_or lines it.reader 0) (get_or lines it.writer 0)

-- ---- all of it

-- how many are left out
abbrev pub left_out_some : ℕ → List Piece
left_out_some n = Tag (codes "<p class=\"dim\">Drawn are the transactions during which another one committed, and those with denied rows or a conflict; ") ∷ Number n ∷ Tag (codes " more are below.</p>\n") ∷ []

abbrev pub left_out_pieces : ℕ → List Piece
left_out_pieces n = if nat_eq n 0 then [] else left_out_some n

-- the bars of these places, then the arrows
abbrev pub plotted : List ℕ → List ℕ → List Transaction → List Tally → List Conflict → List ℕ → List Piece
plotted columns lines ts tallies conflicts places =
    flat_map (bar_at columns lines ts tallies) places ++ flat_map (arrow_pieces columns lines ts) conflicts

-- the picture, so many columns wide and lines high
abbrev pub picture_begin : ℕ → ℕ → List Piece
picture_begin width height =
    Tag (codes "<div class=\"scroll\" tabindex=\"0\" role=\"region\" aria-label=\"Timeline\"><svg class=\"plot\" width=\"") ∷ Number width ∷ Tag (codes "em\" height=\"") ∷ Number height
    ∷ Tag (codes "em\" role=\"group\" aria-label=\"Transactions in serial order\">\n") ∷ []

abbrev pub picture_pieces : ℕ → ℕ → List Piece → List Piece
picture_pieces width height inner = picture_begin width height ++ (inner ++ (Tag (codes "</svg></div>\n") ∷ []))

-- with the places that are drawn
abbrev pub plot_with : List Bool → List Transaction → List Tally → List Conflict → List ℕ → List Piece
plot_with drawn ts tallies conflicts places =
    left_out_pieces (length (filter has_statements tallies) - length places)
    ++ picture_pieces (length places) (length places) (plotted (columns_from 0 drawn) (lines_with (replicate (length ts) 0) 0 places) ts tallies conflicts places)

-- the timeline along the places
abbrev pub plot_pieces : List Transaction → List Tally → List Conflict → List ℕ → List Piece
plot_pieces ts tallies conflicts places = plot_with (drawn_of ts tallies conflicts) ts tallies conflicts (filter (is_at (drawn_of ts tallies conflicts)) places)

-- How a page tells the statements of an audit, each transaction a section.
use Rattle.std.specs.Prelude.{ℕ, List, [], ◌∷◌, ◌++◌, Bool, true, false, nat_eq, nat_lt, codes, Option, Some, None, filter, length, if◌then◌else◌}
use Rattle.std.specs.List.{flat_map}
use Rattle.rls_value.specs.{declared.object.Object.Object, Objects.object_text}
use Rattle.rls_catalog.specs.State.{State}
use Rattle.rls_statement.specs.{declared.statement.Statement.Statement, Tags.tag_of}
use Rattle.rls_audit.specs.Printed.{printed_text}
use Rattle.rls_explain.specs.declared.explanation.{Explained.Explained, Wanted.Wanted}
use Rattle.rls_explain.specs.declared.outcome.RowOutcome.{RowOutcome}
use Rattle.rls_explain.specs.Explaining.{explained_in}
use Rattle.rls_explain.specs.rls_meaning.specs.rls_guard.specs.{declared.context.Ctx.Ctx, declared.effect.Effect.Effect}
use Rattle.rls_explain.specs.rls_meaning.specs.rls_guard.specs.declared.effect.Effect.TheVariants as effect
use Rattle.rls_check.specs.declared.edges.Conflict.{Conflict}
use Rattle.rls_check.specs.declared.filtering.ShownFilter.{ShownFilter}
use Rattle.rls_check.specs.declared.transaction.Transaction.{Transaction}
use Rattle.rls_check.specs.declared.walking.Turn.{Turn}
use Rattle.rls_check.specs.Audited.{transaction_at}
use Rattle.rls_check.specs.PageRows.{good_chips, other_chips, rows_pieces, tables_text}
use Rattle.rls_check.specs.Pieces.{Data, Number, Piece, Tag}
use Rattle.rls_check.specs.ShownTexts.{target_of}
use Rattle.rls_check.specs.Tallies.{is_denied_row, is_in_report, plus, rows_asked}
use Rattle.rls_check.specs.Walking.{Standing}
use Rattle.rls_check.specs.WhyTexts.{came_text}

-- ---- a statement

-- what it is run in, what it is and what it comes to
pub record Told : Type 0 where
  pub before : State
  pub ctx : Ctx
  pub asked : Statement
  pub effect : Effect

-- its color
abbrev pub reply_tag : Effect → List ℕ
reply_tag (effect.Done reply decisions changes role) = codes "<span class=\"reply\">"
reply_tag (effect.Refused refusal decisions) = codes "<span class=\"reply err\">"

abbrev pub reply_pieces : Told → List Piece
reply_pieces it = Tag (reply_tag it.effect) ∷ Data (came_text (tag_of it.asked) it.effect) ∷ Tag (codes "</span>") ∷ []

-- what the filters of the page ask for
abbrev pub denied_tag : List RowOutcome → List ℕ
denied_tag rows = if nat_lt 0 (length (filter is_denied_row rows)) then codes "\" data-denied=\"1\">" else codes "\" data-denied=\"0\">"

abbrev pub named_pieces : Told → List RowOutcome → List Piece
named_pieces it rows = Data it.ctx.role ∷ Tag (codes "\" data-tables=\"") ∷ Data (tables_text (target_of it.asked) rows) ∷ Tag (denied_tag rows) ∷ []

-- one without rows is a line
abbrev pub plain_pieces : Told → List Piece
plain_pieces it =
    Tag (codes "<div class=\"s plain\" data-role=\"") ∷ (named_pieces it [] ++ (Tag (codes "<div class=\"h\"><span class=\"sql\">") ∷ Data (printed_text it.asked) ∷ Tag (codes "</span><span class=\"chips\"></span>")
    ∷ (reply_pieces it ++ (Tag (codes "</div></div>\n") ∷ []))))

-- the head of another one
abbrev pub summary_pieces : Told → List RowOutcome → List Piece
summary_pieces it rows =
    Tag (codes "<details class=\"s\" data-role=\"") ∷ (named_pieces it rows ++ (Tag (codes "<summary class=\"h\"><span class=\"sql\">") ∷ Data (printed_text it.asked) ∷ Tag (codes "</span><span class=\"chips\">")
    ∷ (good_chips rows ++ (other_chips rows ++ (Tag (codes "</span>") ∷ (reply_pieces it ++ (Tag (codes "</summary><div class=\"in\">\n") ∷ [])))))))

-- all its decisions, at length
abbrev pub all_wanted : Wanted
all_wanted = record { row = None; long = true }

abbrev pub explained_of : Told → List Explained
explained_of it = explained_in it.before it.ctx it.asked (Some all_wanted)

abbrev pub rows_if : ℕ → Told → Option (List ℕ) → List RowOutcome → List Piece
rows_if most it None rows = []
rows_if most it (Some table) rows = rows_pieces most it.before it.ctx.role table (explained_of it) rows

abbrev pub folded_pieces : ℕ → Told → List RowOutcome → List Piece
folded_pieces most it rows = summary_pieces it rows ++ (rows_if most it (target_of it.asked) rows ++ (Tag (codes "</div></details>\n") ∷ []))

-- so many rows of a table at most
abbrev pub statement_pieces : ℕ → Told → List RowOutcome → List Piece
statement_pieces most it [] = plain_pieces it
statement_pieces most it (row ∷ rows) = folded_pieces most it (row ∷ rows)

-- ---- a section

-- a rw-antidependency of its reader
abbrev pub is_read_by : ℕ → Conflict → Bool
is_read_by place it = nat_eq it.reader place

abbrev pub conflict_with : ℕ → Object → List Piece
conflict_with writer object =
    Tag (codes "<p class=\"rwnote\">stands before <a href=\"#t") ∷ Number writer ∷ Tag (codes "\">") ∷ Number writer ∷ Tag (codes "</a>, which changed what it read: ") ∷ Data (object_text object) ∷ Tag (codes "</p>\n") ∷ []

abbrev pub conflict_pieces : List Transaction → Conflict → List Piece
conflict_pieces ts it = conflict_with (transaction_at ts it.writer).txn it.object

-- the number of the commit at the place, as far as 64 bits go
abbrev pub commit_of : ℕ → ℕ
commit_of place = plus place 1

-- its begin, for the transaction at the place
abbrev pub section_pieces : List Transaction → List Conflict → ℕ → Ctx → List Piece
section_pieces ts conflicts place ctx =
    Tag (codes "<section class=\"t\" id=\"t") ∷ Number ctx.txn ∷ Tag (codes "\"><h3><span class=\"n\">") ∷ Number ctx.txn ∷ Tag (codes "</span> ") ∷ Data ctx.login ∷ Tag (codes "<small>commit ") ∷ Number (commit_of place)
    ∷ Tag (codes "</small></h3><div class=\"ss\">\n") ∷ flat_map (conflict_pieces ts) (filter (is_read_by place) conflicts)

-- the end of the one that is open
abbrev pub end_pieces : List Piece
end_pieces = Tag (codes "</div></section>\n") ∷ []

abbrev pub closing_pieces : Option ℕ → List Piece
closing_pieces None = []
closing_pieces (Some place) = end_pieces

-- the section of this place is open
abbrev pub is_open : Option ℕ → ℕ → Bool
is_open None place = false
is_open (Some other) place = nat_eq other place

abbrev pub turning_pieces : List Transaction → List Conflict → Option ℕ → ℕ → Ctx → List Piece
turning_pieces ts conflicts section place ctx = closing_pieces section ++ section_pieces ts conflicts place ctx

abbrev pub opening_pieces : List Transaction → List Conflict → Option ℕ → ℕ → Ctx → List Piece
opening_pieces ts conflicts section place ctx = if is_open section place then [] else turning_pieces ts conflicts section place ctx

-- ---- one statement after another

-- what is written of a statement with these rows, where the section of this place is open; none where the report hasn't it
abbrev pub written_pieces : List Transaction → List Conflict → ℕ → Option ℕ → ℕ → Told → List RowOutcome → List Piece
written_pieces ts conflicts most section place it rows = opening_pieces ts conflicts section place it.ctx ++ statement_pieces most it rows

abbrev pub told_of : Standing → Told
told_of standing = record { before = standing.before; ctx = standing.ctx; asked = standing.shown.statement; effect = standing.effect }

abbrev pub told_turn : Turn → Told
told_turn turn = record { before = turn.before; ctx = turn.ctx; asked = turn.statement; effect = turn.outcome.effect }

abbrev pub turn_pieces : ShownFilter → List Transaction → List Conflict → ℕ → Option ℕ → ℕ → Told → List RowOutcome → List Piece
turn_pieces wanted ts conflicts most section place it rows = if is_in_report wanted it.ctx rows then written_pieces ts conflicts most section place it rows else []

-- which section is open behind it
abbrev pub open_behind : ShownFilter → Option ℕ → ℕ → Ctx → List RowOutcome → Option ℕ
open_behind wanted section place ctx rows = if is_in_report wanted ctx rows then Some place else section

-- of all that are left, and the end of the last section
abbrev pub sections_from : ShownFilter → List Transaction → List Conflict → ℕ → Option ℕ → List Standing → List Piece
sections_from wanted ts conflicts most section [] = closing_pieces section
sections_from wanted ts conflicts most section (standing ∷ more) =
    turn_pieces wanted ts conflicts most section standing.place (told_of standing) (rows_asked wanted standing)
    ++ sections_from wanted ts conflicts most (open_behind wanted section standing.place standing.ctx (rows_asked wanted standing)) more

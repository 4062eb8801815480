-- How many statements of each transaction a report has, and how many of their rows were shown, written and denied.
use Rattle.std.specs.Prelude.{ℕ, Bool, true, false, ◌+◌, ◌-◌, ◌^◌, ◌&&◌, ◌||◌, not, min, nat_lt, List, [], ◌∷◌, filter, get_or, length, set, if◌then◌else◌}
use Rattle.rls_explain.specs.declared.outcome.{RowWord.RowWord, RowOutcome.RowOutcome}
use Rattle.rls_explain.specs.declared.outcome.RowWord.TheVariants as w
use Rattle.rls_explain.specs.Outcomes.{outcomes_with}
use Rattle.rls_value.specs.declared.object.Object.{Object}
use Rattle.rls_catalog.specs.State.{State}
use Rattle.rls_statement.specs.declared.statement.Statement.{Statement}
use Rattle.rls_explain.specs.rls_meaning.specs.rls_guard.specs.{declared.context.Ctx.Ctx, declared.effect.Effect.Effect}
use Rattle.rls_check.specs.declared.filtering.ShownFilter.{ShownFilter}
use Rattle.rls_check.specs.declared.tallies.Tally.{Tally}
use Rattle.rls_check.specs.declared.walking.Turn.{Turn}
use Rattle.rls_check.specs.ShownFilters.{is_asked_in, is_denied_word, is_narrow, is_wanted}
use Rattle.rls_check.specs.Walking.{Standing}

-- ---- a statement

-- the role was shown the row; the statement wrote it; policies denied it
abbrev pub is_shown_word : RowWord → Bool
is_shown_word w.Listed = true
is_shown_word w.Counted = true
is_shown_word w.Returned = true
is_shown_word word = false

abbrev pub is_written_word : RowWord → Bool
is_written_word w.Inserted = true
is_written_word w.Changed = true
is_written_word w.Deleted = true
is_written_word word = false

abbrev pub is_shown_row : RowOutcome → Bool
is_shown_row one = is_shown_word one.word

abbrev pub is_written_row : RowOutcome → Bool
is_written_row one = is_written_word one.word

abbrev pub is_denied_row : RowOutcome → Bool
is_denied_row one = is_denied_word one.word

-- the rows of a statement that are asked for: in the state and the context that it is run in, by what it comes to and reads
abbrev pub rows_with : ShownFilter → State → Ctx → Statement → Effect → List Object → List RowOutcome
rows_with it s ctx asked effect reads = filter (is_wanted it) (outcomes_with s ctx asked effect reads)

abbrev pub rows_asked : ShownFilter → Standing → List RowOutcome
rows_asked it standing = rows_with it standing.before standing.ctx standing.shown.statement standing.effect standing.reads

-- the statement is asked for; where some rows are, it has one of them
abbrev pub is_in_report : ShownFilter → Ctx → List RowOutcome → Bool
is_in_report it ctx rows = is_asked_in it ctx && (not (is_narrow it) || nat_lt 0 (length rows))

-- ---- counts

-- so many more, as far as 64 bits go
abbrev pub plus : ℕ → ℕ → ℕ
plus n more = min (n + more) (2 ^ 64 - 1)

abbrev pub no_tally : Tally
no_tally = record { statements = 0; shown = 0; written = 0; denied = 0 }

-- a statement with these rows more
abbrev pub with_rows : Tally → List RowOutcome → Tally
with_rows it rows = record {
  statements = plus it.statements 1;
  shown = plus it.shown (length (filter is_shown_row rows));
  written = plus it.written (length (filter is_written_row rows));
  denied = plus it.denied (length (filter is_denied_row rows));
}

-- of the transaction at the place
abbrev pub tallied_at : List Tally → ℕ → List RowOutcome → List Tally
tallied_at tallies place rows = set tallies place (with_rows (get_or tallies place no_tally) rows)

-- where the report has the statement
abbrev pub tallied_rows : ShownFilter → List Tally → ℕ → Ctx → List RowOutcome → List Tally
tallied_rows it tallies place ctx rows = if is_in_report it ctx rows then tallied_at tallies place rows else tallies

abbrev pub tallied : ShownFilter → List Tally → Standing → List Tally
tallied it tallies standing = tallied_rows it tallies standing.place standing.ctx (rows_asked it standing)

-- the same of a turn
abbrev pub rows_of_turn : ShownFilter → Turn → List RowOutcome
rows_of_turn it turn = rows_with it turn.before turn.ctx turn.statement turn.outcome.effect turn.outcome.footprint

abbrev pub tallied_turn : ShownFilter → List Tally → Turn → List Tally
tallied_turn it tallies turn = tallied_rows it tallies turn.place turn.ctx (rows_of_turn it turn)

-- of one statement after another
abbrev pub tallied_all : ShownFilter → List Tally → List Standing → List Tally
tallied_all it tallies [] = tallies
tallied_all it tallies (standing ∷ more) = tallied_all it (tallied it tallies standing) more

-- two of them together
abbrev pub both_tallies : Tally → Tally → Tally
both_tallies one other = record { statements = plus one.statements other.statements; shown = plus one.shown other.shown; written = plus one.written other.written; denied = plus one.denied other.denied }

-- and all
abbrev pub sum_from : Tally → List Tally → Tally
sum_from sum [] = sum
sum_from sum (it ∷ more) = sum_from (both_tallies sum it) more

-- the report has a statement of it
abbrev pub has_statements : Tally → Bool
has_statements it = nat_lt 0 it.statements

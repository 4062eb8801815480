-- How it is written what a statement did with a row.
use Rattle.std.specs.Prelude.{ℕ, List, [], ◌∷◌, ◌++◌, Option, Some, None, codes}
use Rattle.rls_value.specs.{declared.value.Value.Value, Objects.row_id_text, Values.literal_text, Words.kind_word}
use Rattle.rls_expr.specs.declared.table.Column.{Column}
use Rattle.rls_expr.specs.declared.table.TableDef.{TableDef}
use Rattle.rls_catalog.specs.{declared.verdict.Verdict.Verdict, State.State, State.table_of}
use Rattle.rls_catalog.specs.declared.verdict.Verdict.TheVariants as v
use Rattle.rls_explain.specs.declared.outcome.{RowWord.RowWord, Reason.Reason, RowOutcome.RowOutcome}
use Rattle.rls_explain.specs.declared.outcome.RowWord.TheVariants as w
use Rattle.rls_explain.specs.declared.outcome.Reason.TheVariants.{Denied, Unmet}
use Rattle.rls_explain.specs.Texts.{truth_word}

-- what the statement did, in a word
abbrev pub row_word : RowWord → List ℕ
row_word w.Listed = codes "listed"
row_word w.Counted = codes "counted"
row_word w.Changed = codes "changed"
row_word w.Deleted = codes "deleted"
row_word w.Matched = codes "matched"
row_word w.Skipped = codes "skipped"
row_word w.Hidden = codes "hidden"
row_word w.Barred = codes "barred"
row_word w.Inserted = codes "inserted"
row_word w.Refused = codes "refused"
row_word w.Proposed = codes "proposed"
row_word w.Returned = codes "returned"
row_word w.Seen = codes "seen"

-- a value with its column, this before it
abbrev pub pair_text : List ℕ → Column → Value → List ℕ
pair_text before column value = before ++ (column.name ++ (codes " " ++ literal_text value))

-- the values with their columns, this before the first
abbrev pub pairs_text : List ℕ → List Value → List Column → List ℕ
pairs_text before (value ∷ values) (column ∷ columns) = pair_text before column value ++ pairs_text (codes ", ") values columns
pairs_text before _ _ = []

abbrev pub values_text : List Column → List Value → List ℕ
values_text columns row = codes "(" ++ (pairs_text [] row columns ++ codes ")")

-- what a row is changed to
abbrev pub changed_text : List Column → Option (List Value) → List ℕ
changed_text columns None = []
changed_text columns (Some row) = codes " -> " ++ values_text columns row

-- what a policy denies by
abbrev pub denial_text : Verdict → List ℕ
denial_text (v.Restrictive policy) = codes "restrictive policy " ++ policy
denial_text verdict = codes "no permissive policy passes"

-- why a row was left out or refused
abbrev pub reason_text : Reason → List ℕ
reason_text (Denied kind verdict) = kind_word kind ++ (codes ": " ++ denial_text verdict)
reason_text (Unmet truth) = codes "WHERE is " ++ truth_word truth

-- the same behind a row
abbrev pub reason_if : Option Reason → List ℕ
reason_if None = []
reason_if (Some reason) = codes ": " ++ reason_text reason

-- the line of a row, by the columns of its table
abbrev pub row_line : List Column → RowOutcome → List ℕ
row_line columns one = codes "  " ++ (row_word one.word ++ (codes " " ++ (one.table ++ (codes " " ++ (row_id_text one.id ++ (codes " " ++ (values_text columns one.row ++ (changed_text columns one.new ++ reason_if one.reason))))))))

-- the columns of a table that is there
abbrev pub columns_if : Option TableDef → List Column
columns_if (Some table) = table.columns
columns_if None = []

-- the line in a state
abbrev pub row_text : State → RowOutcome → List ℕ
row_text s one = row_line (columns_if (table_of s one.table)) one

-- New rows (PostgreSQL manual, INSERT, UPDATE, and 5.4): the values that columns are given, and what new rows are refused
-- for: row security, then NOT NULL, then the primary key.
use Rattle.std.specs.Prelude.{ℕ, suc, List, [], ◌∷◌, ◌++◌, Option, Some, None, Bool, true, false, not, ◌&&◌, ◌||◌, nat_eq, Result, Ok, Err, if◌then◌else◌, map, filter, take, drop, slice_get, slice_set}
use Rattle.std.specs.List.{list_any}
use Rattle.std.specs.Cmp.Lexicographic.{slice_cmp}
use Rattle.std.specs.Ordering.{is_eq, is_lt}
use Rattle.rls_value.specs.{declared.value.Value.Value, declared.value.Value.TheVariants.Null, declared.verb.Kind.Kind, declared.verb.Privilege.Privilege, declared.object.Object.Object, declared.object.Object.TheVariants.Key, declared.refusal.Refusal.Refusal, Giving.and_then, declared.refusal.Refusal.TheVariants.NotNull, declared.refusal.Refusal.TheVariants.Unique, declared.refusal.Refusal.TheVariants.Denied, Values.is_null, Values.value_at, Values.listed, declared.refusal.Why.Why}
use Rattle.rls_expr.specs.{declared.columns.SelectedTable.SelectedTable, declared.table.Column.Column}
use Rattle.rls_guard.specs.rls_catalog.specs.{declared.verdict.Verdict.Verdict, declared.stored.Stored.Stored}
use Rattle.rls_guard.specs.rls_catalog.specs.declared.verdict.Verdict.TheVariants as verdict
use Rattle.rls_guard.specs.{declared.reply.Decision.Decision, declared.permission_check.PermissionCheck.PermissionCheck, declared.role_privileges.RolePrivileges.RolePrivileges, RolePrivileges.permission_or_denied}
use Rattle.rls_evaluation.specs.{Environments.assigned_value, Showing.allows}
use Rattle.rls_guard.specs.rls_source.specs.{Askings.Asking, Askings.known, Askings.followed_by, Asked.asked_key, Sequences.each_or_refused}
use Rattle.rls_dml.specs.Checking.{has_some}
use Rattle.rls_dml.specs.Numbers.{has_number}

-- ---- privileges

-- SELECT for these columns of each of the tables
abbrev pub readable : List SelectedTable → List PermissionCheck
readable others = map (λ one. record { privilege = Privilege.Select; table = one.table; columns = one.columns }) others

-- what a command is asked for: its own privilege for these columns, SELECT for those that it reads beside, and SELECT for the
-- columns that subqueries mention of their tables, those of policies too
abbrev pub checks_of : Privilege → List ℕ → List (List ℕ) → List (List ℕ) → List SelectedTable → List PermissionCheck
checks_of privilege name own read others =
    record { privilege = privilege; table = name; columns = own }
    ∷ ((if has_some read then record { privilege = Privilege.Select; table = name; columns = read } ∷ [] else [])
    ++ readable others)

-- each of them, in order
abbrev pub permissions_or_denied : RolePrivileges → List PermissionCheck → Asking (Unit {0})
permissions_or_denied role_privileges [] = known (Ok tt)
permissions_or_denied role_privileges (check ∷ checks) = followed_by (permission_or_denied role_privileges check) (λ _. permissions_or_denied role_privileges checks)

-- ---- values

-- what the column is given, within its range; a place that isn't there is given nothing
abbrev pub given_to : Option Column → Value → Result Value Refusal
given_to None value = Ok Null
given_to (Some column) value = assigned_value column value

-- the row with each of these places given its value, in order
abbrev pub assigned : List Column → List ℕ → List Value → List Value → Result (List Value) Refusal
assigned columns places [] row = Ok row
assigned columns [] (value ∷ values) row = Ok row
assigned columns (place ∷ places) (value ∷ values) row = and_then (given_to (slice_get columns place) value) (λ given. assigned columns places values (slice_set row place given))

-- the first values, if there are some
abbrev pub first_of : List (List Value) → List Value
first_of [] = []
first_of (values ∷ further) = values

-- and those behind them
abbrev pub behind_first : List (List Value) → List (List Value)
behind_first [] = []
behind_first (values ∷ further) = further

-- what each of a list gives with its values; the first refusal stands
abbrev pub each_with : {A B : Type 0} → (A → List Value → Result B Refusal) → List A → List (List Value) → Result (List B) Refusal
each_with give [] values = Ok []
each_with give (x ∷ xs) values = and_then (give x (first_of values)) (λ y. and_then (each_with give xs (behind_first values)) (λ ys. Ok (y ∷ ys)))

-- the same where the values stand in one list, so many for each
abbrev pub each_taking : {A B : Type 0} → ℕ → (A → List Value → Result B Refusal) → List A → List Value → Result (List B) Refusal
each_taking many give [] values = Ok []
each_taking many give (x ∷ xs) values = and_then (give x (take many values)) (λ y. and_then (each_taking many give xs (drop many values)) (λ ys. Ok (y ∷ ys)))

-- the values at the places of the key
abbrev pub key_at : List ℕ → List Value → List Value
key_at places row = map (value_at row) places

-- ---- row security

-- what a verdict refuses
abbrev pub verdict_or_denied : List ℕ → Kind → Verdict → Result (Unit {0}) Refusal
verdict_or_denied table command verdict.Exempt = Ok tt
verdict_or_denied table command (verdict.By policy) = Ok tt
verdict_or_denied table command verdict.NoPermissive = Err (Denied (Why.NoPermissive table command))
verdict_or_denied table command (verdict.Restrictive policy) = Err (Denied (Why.Restrictive policy table))

-- what a decision refuses
abbrev pub allowed_or_denied : List ℕ → Decision → Result (Unit {0}) Refusal
allowed_or_denied table decision = verdict_or_denied table decision.kind decision.verdict

-- the first decision that denies its row
abbrev pub first_denial : List Decision → Option Decision
first_denial [] = None
first_denial (decision ∷ decisions) = if allows decision.verdict then first_denial decisions else Some decision

-- refused for it, if there is one
abbrev pub unless_denied : List ℕ → Option Decision → Result (Unit {0}) Refusal
unless_denied table None = Ok tt
unless_denied table (Some decision) = allowed_or_denied table decision

-- ---- NOT NULL

-- the place is one of these
abbrev pub is_written : List ℕ → ℕ → Bool
is_written places place = list_any (λ written. nat_eq written place) places

-- the places from this one on that aren't written
abbrev pub unwritten : List ℕ → ℕ → List Column → List ℕ
unwritten places place [] = []
unwritten places place (column ∷ columns) = if is_written places place then unwritten places (suc place) columns else place ∷ unwritten places (suc place) columns

-- the places in the order in which a row is looked through: those that are written, in text order, then the others
abbrev pub order_of : List ℕ → List Column → List ℕ
order_of places columns = places ++ unwritten places 0 columns

-- no null where none may be
abbrev pub value_or_not_null : Option Column → Value → Result (Unit {0}) Refusal
value_or_not_null None value = Ok tt
value_or_not_null (Some column) value = if column.not_null && is_null value then Err (NotNull column.name) else Ok tt

-- in the places of a row
abbrev pub has_values : List Column → List ℕ → Stored → Result (Unit {0}) Refusal
has_values columns order stored = each_or_refused (λ place. value_or_not_null (slice_get columns place) (value_at stored.row place)) order

-- ---- the primary key

-- the key of a keyed table, without a null
abbrev pub is_whole : List Value → Bool
is_whole [] = false
is_whole (value ∷ values) = not (list_any is_null (value ∷ values))

-- whether one of the keys is the same: the listing order sets them at one place
abbrev pub is_among : List Value → List (List Value) → Bool
is_among key keys = list_any (λ other. is_eq (slice_cmp listed other key)) keys

-- whether two are the same
abbrev pub has_doubles : List (List Value) → Bool
has_doubles [] = false
has_doubles (key ∷ keys) = is_among key keys || has_doubles keys

-- the key is below the next one, if there is one
abbrev pub is_below : List Value → List (List Value) → Bool
is_below key [] = true
is_below key (next ∷ keys) = is_lt (slice_cmp listed key next)

-- each key is below the next one
abbrev pub ascend : List (List Value) → Bool
ascend [] = true
ascend (key ∷ keys) = is_below key keys && ascend keys

-- one of the rows stays
abbrev pub stays_any : List Stored → List Stored → Bool
stays_any replaced rows = list_any (λ stored. not (has_number replaced stored.id)) rows

-- whether a row that stays has one of the keys; hidden rows count
abbrev pub keys_taken : List ℕ → List Stored → List (List Value) → Asking Bool
keys_taken table replaced [] = known (Ok false)
keys_taken table replaced (key ∷ keys) = followed_by (asked_key table key) (λ rows. followed_by (keys_taken table replaced keys) (λ rest. known (Ok (stays_any replaced rows || rest))))

-- what is read for it: each key
abbrev pub keys_read : List ℕ → List (List Value) → List Object
keys_read table keys = map (λ key. Key table key) keys

-- no key is that of a row that stays, or of two new ones
abbrev pub unique_or_refused : List ℕ → List Stored → List (List Value) → Asking (Unit {0})
unique_or_refused table replaced keys = followed_by (keys_taken table replaced keys) (λ taken. known (if taken || has_doubles keys then Err (Unique table) else Ok tt))

-- the keys that have to be unique
abbrev pub keys_of : List Stored → List (List Value)
keys_of rows = filter is_whole (map (λ stored. stored.key) rows)

-- ---- all of them

-- NOT NULL, then the primary key
unfoldable pub constraints_or_refused : List ℕ → List Column → List ℕ → List Stored → List Stored → Asking (Unit {0})
constraints_or_refused table columns order replaced rows = followed_by (known (each_or_refused (has_values columns order) rows)) (λ _. unique_or_refused table replaced (keys_of rows))

-- row security comes first
unfoldable pub rows_or_refused : List ℕ → List Column → List ℕ → List Decision → List Stored → List Stored → Asking (Unit {0})
rows_or_refused table columns order decisions replaced rows = followed_by (known (unless_denied table (first_denial decisions))) (λ _. constraints_or_refused table columns order replaced rows)

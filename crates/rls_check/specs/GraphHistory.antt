-- What transactions read and changed where all run alone along the order, and the history that this makes of them.
use Rattle.std.specs.Prelude.{ℕ, List, length, filter, nat_eq, nat_lt}
use Rattle.std.specs.List.{flat_map}
use Rattle.rls_value.specs.declared.object.Object.{Object}
use Rattle.rls_catalog.specs.declared.change.Change.{Change}
use Rattle.rls_catalog.specs.Bases.{covers_any}
use Rattle.rls_explain.specs.rls_meaning.specs.rls_guard.specs.rls_source.specs.Footprints.{footprint_of}
use Rattle.rls_explain.specs.rls_meaning.specs.rls_guard.specs.Effects.{changes_of}
use Rattle.rls_history.specs.History.{History}
use Rattle.rls_check.specs.declared.transaction.Transaction.{Transaction}
use Rattle.rls_check.specs.Audited.{transaction_at}
use Rattle.rls_check.specs.Walking.{Standing}

-- the statements of the transaction at the place
abbrev pub standings_at : List Standing → ℕ → List Standing
standings_at standings place = filter (λ it. nat_eq it.place place) standings

-- what its statements read, refused ones too: each object once, in the order of objects
abbrev pub read_at : List Standing → ℕ → List Object
read_at standings place = footprint_of (flat_map (λ it. it.reads) (standings_at standings place))

-- what they changed
abbrev pub changed_at : List Standing → ℕ → List Change
changed_at standings place = flat_map (λ it. changes_of it.effect) (standings_at standings place)

-- the objects that the one read and the other changed, in the order of objects: those that one of its changes covers
abbrev pub objects_between : List Standing → ℕ → ℕ → List Object
objects_between standings one other = filter (λ object. covers_any object (changed_at standings other)) (read_at standings one)

-- the history of the transactions: the audit shows how many had committed when each began, the runs show what each read and changed
abbrev pub history_in : List Transaction → List Standing → History
history_in transactions standings = record {
  count = length transactions;
  snap = λ place. (transaction_at transactions place).snap;
  has_read = λ one other. nat_lt 0 (length (objects_between standings one other));
  has_written = λ place. nat_lt 0 (length (changed_at standings place));
}

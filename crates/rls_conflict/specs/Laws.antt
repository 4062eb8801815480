-- What the laws of this crate say.
use Rattle.std.specs.Prelude.{◌≡◌, ◌↔◌, ℕ, List, map, true, ◌&&◌}
use Rattle.rls_value.specs.declared.object.Object.{Object}
use Rattle.rls_catalog.specs.declared.change.Change.{Change}
use Rattle.rls_catalog.specs.State.{State, AgreesAt}
use Rattle.rls_catalog.specs.Bases.{Base, base_of}
use Rattle.rls_catalog.specs.Contents.{look}
use Rattle.rls_catalog.specs.SoundRows.{RowsAreSound}
use Rattle.rls_history.specs.History as theory
use Rattle.rls_history.specs.States.{Agree, Apart, meet}
use Rattle.rls_history.specs.Transactions as histories
use Rattle.rls_history.specs.Lawful.{Joins}
use Rattle.rls_conflict.specs.Transactions.{Transaction, at, reads_from, history_of}
use Rattle.rls_conflict.specs.Written.{WriteCommonObject, write_common, write_one_object}
use Rattle.rls_conflict.specs.States.{states, known_of, InOrder, Lasts}

-- a rw-antidependency: they are concurrent, and the one noted an object that a change of the other covers
abbrev pub AntidependenciesAreReads : Type 0
AntidependenciesAreReads = (transactions : List Transaction) (one other : ℕ)
    → theory.rw (history_of transactions) one other ≡ (theory.concurrent (history_of transactions) one other && reads_from (at transactions one).noted (at transactions other).changes)

-- the history of transactions is that of rls_history at the catalogue's states
abbrev pub HistoriesAreTold : Type 0
HistoriesAreTold = (transactions : List Transaction) → histories.history_of states (map known_of transactions) ≡ history_of transactions

-- what is read of changes is told by coverage
abbrev pub ReadsAreCovered : Type 0
ReadsAreCovered = (noted : List Object) (changes : List Change) → meet states noted changes ≡ reads_from noted changes

-- states have the same content at an object exactly where the same is shown of it, place by place
abbrev pub AgreementIsShown : Type 0
AgreementIsShown = (s other : State) (object : Object) → InOrder s → InOrder other → AgreesAt s other object ↔ Agree states object s other

-- two lists of changes have two that write one object exactly where there is an object that both lists write
abbrev pub CommonObjectsAreWritten : Type 0
CommonObjectsAreWritten = (changes others : List Change) → (write_common changes others ≡ true) ↔ WriteCommonObject changes others

-- changes of one place write one object, and changes that do, do so either way round
pub record WritesAreMutual : Type 0 where
  pub turned : (change other : Change) → write_one_object change other ≡ true → write_one_object other change ≡ true
  pub same_place : (change other : Change) → base_of change ≡ base_of other → write_one_object change other ≡ true

-- Where two transactions write no common object, each leaves sound rows, and tables stay with their keys, both together leave
-- sound rows: no key is there twice, since each writes the keys of its rows.
abbrev pub SoundRowsJoin : Type 0
SoundRowsJoin = (snapshot mine theirs joined : State) (changes others : List Change) → RowsAreSound mine → RowsAreSound theirs → InOrder joined
    → Apart states changes others
    → ((place : Base) → Joins states snapshot mine theirs joined changes others place)
    → ((place : Base) → Lasts place (look snapshot place) (look mine place))
    → ((place : Base) → Lasts place (look snapshot place) (look theirs place))
    → RowsAreSound joined

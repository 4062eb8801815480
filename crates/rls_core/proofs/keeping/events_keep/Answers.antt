use Rattle.rls_core.specs.Theory.{setup_of, event_of}
use Rattle.std.specs.Prelude.{map}
use Rattle.rls_core.proofs.StatementLemmas.{StatementLaws, lawful}
use Rattle.rls_core.proofs.RuleLemmas.{set_up}
use Rattle.rls_core.proofs.AdmittedLemmas.{are_admitted}
use Rattle.rls_core.proofs.HeadlineLemmas.{can_be_ordered, write_apart, keys_unique, never_meet, recorded, run_recorded, differ}
use Rattle.rls_core.proofs.keeping.events_keep.Goals as goal

pub events_keep-requires : goal.events_keep-requires
events_keep-requires c =
    let laws : StatementLaws = record {
      sound = c.rows_stay_sound.ensures.step;
      tables = c.rows_stay_sound.ensures.tables;
      go_on = c.changes_go_on.ensures;
      next = c.numbers_go_on.ensures.next;
      others = c.numbers_go_on.ensures.others;
      puts = c.changes_are_put.ensures.puts;
      written = c.changes_are_put.ensures.written;
      agreement = c.words_are_told.ensures.agreement;
      joined = c.sound_rows_join.ensures;
      means = c.statement_means.ensures;
    } in
    lawful laws

pub returns-clause-keys : goal.returns-clause-keys
returns-clause-keys c rules safe events =
    keys_unique c.words_are_told.ensures.histories rules events
    (c.events_keep.ensures.holds (setup_of rules) 1 (map event_of events) (set_up c.rows_stay_sound.ensures.opening rules safe))

pub returns-clause-rows : goal.returns-clause-rows
returns-clause-rows c rules safe events =
    never_meet c.words_are_told.ensures.histories rules events
    (c.events_keep.ensures.holds (setup_of rules) 1 (map event_of events) (set_up c.rows_stay_sound.ensures.opening rules safe))

pub returns-clause-numbers : goal.returns-clause-numbers
returns-clause-numbers c rules safe events =
    differ c.words_are_told.ensures.histories rules events
    (c.events_keep.ensures.numbers (setup_of rules) 1 (map event_of events) (set_up c.rows_stay_sound.ensures.opening rules safe))

pub returns-clause-records : goal.returns-clause-records
returns-clause-records c rules safe events =
    recorded c.words_are_told.ensures.histories rules events
    (c.events_keep.ensures.holds (setup_of rules) 1 (map event_of events) (set_up c.rows_stay_sound.ensures.opening rules safe))

pub returns-clause-running : goal.returns-clause-running
returns-clause-running c rules safe events =
    run_recorded c.words_are_told.ensures.histories rules events
    (c.events_keep.ensures.holds (setup_of rules) 1 (map event_of events) (set_up c.rows_stay_sound.ensures.opening rules safe))
    c.statement_means.ensures

pub returns-clause-admitted : goal.returns-clause-admitted
returns-clause-admitted c rules safe events = are_admitted rules events

pub returns-clause-ordered : goal.returns-clause-ordered
returns-clause-ordered c rules safe events =
    can_be_ordered c.words_are_told.ensures.histories rules events
    (c.events_keep.ensures.ordered (setup_of rules) 1 (map event_of events) (set_up c.rows_stay_sound.ensures.opening rules safe))

pub returns-clause-apart : goal.returns-clause-apart
returns-clause-apart c rules safe events =
    write_apart c.words_are_told.ensures.histories rules events
    (c.events_keep.ensures.holds (setup_of rules) 1 (map event_of events) (set_up c.rows_stay_sound.ensures.opening rules safe))
    c.words_are_told.ensures.common

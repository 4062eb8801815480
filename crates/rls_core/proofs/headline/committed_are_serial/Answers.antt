use Rattle.rls_core.specs.Theory.{setup_of, event_of}
use Rattle.std.specs.Prelude.{map}
use Rattle.rls_core.proofs.StatementLemmas.{StatementLaws, lawful}
use Rattle.rls_core.proofs.RuleLemmas.{plain_safe, set_up}
use Rattle.rls_core.proofs.HeadlineLemmas.{have_order, are_explained, find_snapshots}
use Rattle.rls_core.proofs.headline.committed_are_serial.Goals as goal

pub committed_are_serial-requires : goal.committed_are_serial-requires
committed_are_serial-requires c =
    let laws : StatementLaws = record {
      sound = c.rows_stay_sound.ensures.step;
      tables = c.rows_stay_sound.ensures.tables;
      go_on = c.changes_go_on.ensures;
      next = c.numbers_go_on.ensures.next;
      others = c.numbers_go_on.ensures.others;
      puts = c.changes_are_put.ensures.puts;
      written = c.changes_are_put.ensures.written;
      agreement = c.words_are_told.ensures.agreement;
      joined = c.sound_rows_join.ensures;
      means = c.statement_means.ensures;
    } in
    lawful laws

pub returns-clause-order : goal.returns-clause-order
returns-clause-order c rules safe events =
    let laws : StatementLaws = record {
      sound = c.rows_stay_sound.ensures.step;
      tables = c.rows_stay_sound.ensures.tables;
      go_on = c.changes_go_on.ensures;
      next = c.numbers_go_on.ensures.next;
      others = c.numbers_go_on.ensures.others;
      puts = c.changes_are_put.ensures.puts;
      written = c.changes_are_put.ensures.written;
      agreement = c.words_are_told.ensures.agreement;
      joined = c.sound_rows_join.ensures;
      means = c.statement_means.ensures;
    } in
    have_order laws c.rows_stay_sound.ensures.opening c.words_are_told.ensures.histories rules events
    (c.committed_are_serial.ensures.order (setup_of rules) 1 (map event_of events) (set_up c.rows_stay_sound.ensures.opening rules safe))

pub returns-clause-explains : goal.returns-clause-explains
returns-clause-explains c rules safe events =
    let laws : StatementLaws = record {
      sound = c.rows_stay_sound.ensures.step;
      tables = c.rows_stay_sound.ensures.tables;
      go_on = c.changes_go_on.ensures;
      next = c.numbers_go_on.ensures.next;
      others = c.numbers_go_on.ensures.others;
      puts = c.changes_are_put.ensures.puts;
      written = c.changes_are_put.ensures.written;
      agreement = c.words_are_told.ensures.agreement;
      joined = c.sound_rows_join.ensures;
      means = c.statement_means.ensures;
    } in
    are_explained laws c.rows_stay_sound.ensures.opening c.words_are_told.ensures.histories rules events
    (c.committed_are_serial.ensures.explains (setup_of rules) 1 (map event_of events) (set_up c.rows_stay_sound.ensures.opening rules safe))

pub returns-clause-safe : goal.returns-clause-safe
returns-clause-safe c = plain_safe c.structures_are_found.ensures.finds

pub returns-clause-snapshots : goal.returns-clause-snapshots
returns-clause-snapshots c rules safe events =
    let laws : StatementLaws = record {
      sound = c.rows_stay_sound.ensures.step;
      tables = c.rows_stay_sound.ensures.tables;
      go_on = c.changes_go_on.ensures;
      next = c.numbers_go_on.ensures.next;
      others = c.numbers_go_on.ensures.others;
      puts = c.changes_are_put.ensures.puts;
      written = c.changes_are_put.ensures.written;
      agreement = c.words_are_told.ensures.agreement;
      joined = c.sound_rows_join.ensures;
      means = c.statement_means.ensures;
    } in
    let set = set_up c.rows_stay_sound.ensures.opening rules safe in
    find_snapshots laws c.rows_stay_sound.ensures.opening c.words_are_told.ensures.histories rules events
    (c.committed_are_serial.ensures.explains (setup_of rules) 1 (map event_of events) set)
    (c.committed_are_serial.ensures.snapshots (setup_of rules) 1 (map event_of events) set)

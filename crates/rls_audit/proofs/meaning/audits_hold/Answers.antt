use Rattle.std.proofs.Common.{refl}
use Rattle.rls_core.specs.Events.{after}
use Rattle.rls_audit.proofs.meaning.audits_hold.Goals as goal

pub returns : goal.returns
returns c rules safe events = λ order in_order.
    let recorded = c.events_keep.ensures.records rules safe events in
    record {
      records = (after rules events).committed;
      places = order;
      lines_show = refl;
      are_records = record { began = recorded.began; differ = (c.events_keep.ensures.numbers rules safe events).differ };
      changes = recorded.changes;
      in_order = in_order;
      explains = c.committed_are_serial.ensures.explains rules safe events order in_order;
    }

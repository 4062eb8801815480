use Rattle.std.specs.Prelude.{◌<◌, length}
use Rattle.std.proofs.Common.{arith}
use Rattle.rls_conflict.proofs.EntryLemmas.{within_there}
use Rattle.rls_conflict.proofs.PromotedLemmas.{entries_next, told_next, covered_next}
use Rattle.rls_conflict.proofs.promoting.entries_of.Goals as goal

pub loop-place-preserved : goal.loop-place-preserved
loop-place-preserved c =
    let size = c.requires.size in
    let within : c.loop-place.place < length c.args.committed.now = omega arith in
    let inside : c.loop-place.place < length c.args.transactions.now = omega arith in
    let found = within_there c.args.committed.now c.loop-place.place within in
    let room = c.loop-place.invariant.room in
    let more = c.push.ensures.capacity in
    record {
      transactions = told_next c.args.transactions.now c.loop-place.entries.items c.push.new.self.items c.loop-place.place c.in_ok-entry_at.field-0 c.in_ok-push.ensures.items c.loop-place.invariant.transactions inside
          c.in_ok-entry_at.ensures.entry.transaction;
      covered = covered_next c.args.committed.now c.loop-place.entries.items c.push.new.self.items c.loop-place.place c.in_ok-entry_at.field-0 found.0 c.in_ok-push.ensures.items c.loop-place.invariant.covered within found.1
          (c.in_ok-entry_at.ensures.covered found.0 found.1);
      entries = entries_next c.args.transactions.now c.loop-place.entries.items c.push.new.self.items c.loop-place.place c.in_ok-entry_at.field-0 c.in_ok-push.ensures.items c.loop-place.invariant.transactions (omega arith)
          c.loop-place.invariant.entries c.in_ok-entry_at.ensures.entry;
      room = omega (arith, room, more);
    }

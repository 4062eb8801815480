use Rattle.std.proofs.Common.{length, rules}
use Rattle.rlsdb.proofs.BookLemmas.{whole}
use Rattle.rlsdb.proofs.running.write_book.Goals as goal

-- texts spell what the records have, so that the lines show them
pub returns : goal.returns
returns g c = record {
  order = c.args.order.items;
  keeps = c.requires.order;
  lines = whole c.written_lines_mean.ensures (length c.args.book.now.seen.committed) c.args.order.items _ _ _ _ _ _ _ c.in_ok-write_audit_line.ensures (c.in_ok-write_records.ensures c.requires.texts) (search rules) c.in_ok-write_audit_line-2.ensures;
}

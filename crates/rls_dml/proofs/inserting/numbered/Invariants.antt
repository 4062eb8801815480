use Rattle.std.proofs.Common.{◌≡◌, ◌+◌, ◌++◌, length}
use Rattle.std.specs.Vec.Iter.{into_iter_items}
use Rattle.rls_dml.specs.Inserting.{numbered}
use Rattle.rls_dml.proofs.inserting.numbered.Given as goal

-- the rows so far, and those that are left to number, are all
abbrev pub invariant-loop-row : goal.invariant-loop-row
invariant-loop-row l =
    record {
      rows : l.new ++ numbered l.places l.ctx.txn l.n (into_iter_items l.row-iterator) ≡ numbered l.places l.ctx.txn l.ctx.next l.fn.rows.items;
      count : l.n + length (into_iter_items l.row-iterator) ≡ l.ctx.next + length l.fn.rows.items;
    }

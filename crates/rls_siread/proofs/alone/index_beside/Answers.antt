use Rattle.std.proofs.Common.{ap}
use Rattle.rls_siread.specs.Promotion.{noted_with}
use Rattle.rls_siread.specs.Locks.{Locks, objects_in, notes_at}
use Rattle.rls_siread.specs.Index.{held_alone, locks_of}
use Rattle.rls_siread.proofs.AloneLaws.{told_index, noted_over}
use Rattle.rls_siread.proofs.alone.index_beside.Goals as goal

pub renew-requires : goal.renew-requires
renew-requires c =
    told_index (held_alone c.args.other (objects_in (notes_at c.args.notes.now.entries c.args.other))) c.in_ok-told.told.holders.entries c.args.notes.now.entries c.in_ok-told.ensures c.requires

pub returns-in-Ok-clause-ok : goal.returns-in-Ok-clause-ok
returns-in-Ok-clause-ok c =
    noted_over (held_alone c.args.other (objects_in (notes_at c.args.notes.now.entries c.args.other))) c.in_ok-told.told.holders.entries c.args.notes.now.entries c.args.txn
    (noted_with c.args.limit (objects_in (notes_at c.args.notes.now.entries c.args.txn)) c.args.footprint.now) (locks_of c.renew.new.index.holders.entries c.renew.new.notes.entries) c.in_ok-told.ensures c.in-Ok.ensures.ok

pub returns-in-Err-clause-err : goal.returns-in-Err-clause-err
returns-in-Err-clause-err c = ap (λ (locks : Locks). locks.notes) c.in-Err.ensures.err

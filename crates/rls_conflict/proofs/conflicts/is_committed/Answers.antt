use Rattle.std.specs.Prelude.{refl, length}
use Rattle.std.proofs.Common.{sym, ◌∙◌}
use Rattle.std.proofs.lemmas.Option.{slice_get_read}
use Rattle.rls_conflict.proofs.EntryLemmas.{any_at}
use Rattle.rls_conflict.proofs.conflicts.is_committed.Goals as goal

pub returns-then-has_number : goal.returns-then-has_number
returns-then-has_number c =
    let there = slice_get_read c.args.committed.now (length c.args.committed.now) c.loop-it.it-index c.it-item.result refl c.loop-it-test.true c.it-item.is in
    sym (any_at c.args.committed.now c.args.txn c.loop-it.it-index c.it-item.result there (sym c.has_number.ensures ∙ c.if-has_number.true))

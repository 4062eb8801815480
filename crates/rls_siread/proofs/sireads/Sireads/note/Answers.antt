use Rattle.std.specs.Prelude.{◌≡◌, OnOk, OnErr}
use Rattle.std.proofs.Common.{subst}
use Rattle.rls_siread.specs.Promotion.{noted_with}
use Rattle.rls_siread.specs.Locks.{Locks, noted_by, HasNoted}
use Rattle.rls_siread.specs.Index.{locks_by}
use Rattle.rls_siread.proofs.AloneLaws.{kept_noted}
use Rattle.rls_siread.proofs.sireads.Sireads.note.Goals as goal

pub note_reads-requires : goal.note_reads-requires
note_reads-requires c = c.self.invariant.told

pub invariant_of-self : goal.invariant_of-self
invariant_of-self c =
    let old : Locks = locks_by c.self.inside.alone c.self.inside.index.holders.entries c.self.inside.notes.entries in
    let new : Locks = locks_by c.note_reads.new.alone c.note_reads.new.index.holders.entries c.note_reads.new.notes.entries in
    kept_noted c.note_reads.result c.args.txn c.self.inside.least (noted_with c.args.limit (noted_by old c.args.txn) c.args.footprint) old new c.note_reads.ensures.ok c.note_reads.ensures.err c.self.invariant

pub returns-clause-ok : goal.returns-clause-ok
returns-clause-ok c =
    let new : Locks = locks_by c.note_reads.new.alone c.note_reads.new.index.holders.entries c.note_reads.new.notes.entries in
    subst (λ (locks : Locks). OnOk c.note_reads.result (HasNoted c.args.txn (noted_with c.args.limit (noted_by locks c.args.txn) c.args.footprint) locks new)) c.self.view_is c.note_reads.ensures.ok

pub returns-clause-err : goal.returns-clause-err
returns-clause-err c =
    let new : Locks = locks_by c.note_reads.new.alone c.note_reads.new.index.holders.entries c.note_reads.new.notes.entries in
    subst (λ (locks : Locks). OnErr c.note_reads.result (new ≡ locks)) c.self.view_is c.note_reads.ensures.err

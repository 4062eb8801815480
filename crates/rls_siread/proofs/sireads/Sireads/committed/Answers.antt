use Rattle.std.proofs.Common.{sym, subst}
use Rattle.rls_siread.specs.Locks.{Locks, HasCommitted}
use Rattle.rls_siread.specs.Index.{CommitsFrom, locks_by}
use Rattle.rls_siread.proofs.LocksLaws.{objects_marked, commits_marked}
use Rattle.rls_siread.proofs.AloneLaws.{holders_marked, told_marked}
use Rattle.rls_siread.proofs.sireads.Sireads.committed.Goals as goal

pub invariant_of-self : goal.invariant_of-self
invariant_of-self c = record {
  told = told_marked c.self.inside.alone c.self.inside.index.holders.entries c.self.inside.notes.entries c.mark.new.notes.entries
      (objects_marked c.self.inside.notes.entries c.mark.new.notes.entries c.args.txn c.args.commit c.mark.ensures) c.self.invariant.told;
  commits = subst (λ least. CommitsFrom least c.mark.new.notes.entries) (sym c.lesser-self-inside.ensures)
      (commits_marked c.self.inside.least c.args.txn c.args.commit c.self.inside.notes.entries c.mark.new.notes.entries c.mark.ensures c.self.invariant.commits);
}

pub returns : goal.returns
returns c =
    subst (λ (locks : Locks). HasCommitted c.args.txn c.args.commit locks (locks_by c.self.inside.alone c.self.inside.index.holders.entries c.mark.new.notes.entries)) c.self.view_is
    (record {
      notes = c.mark.ensures;
      holders = holders_marked c.self.inside.alone c.self.inside.index.holders.entries c.self.inside.notes.entries c.mark.new.notes.entries
          (objects_marked c.self.inside.notes.entries c.mark.new.notes.entries c.args.txn c.args.commit c.mark.ensures);
    })

use Rattle.std.proofs.Common.{subst}
use Rattle.rls_siread.specs.Locks.{Locks, HasPromoted}
use Rattle.rls_siread.specs.Index.{holders_by, locks_of}
use Rattle.rls_siread.proofs.LocksLaws.{commits_promoted}
use Rattle.rls_siread.proofs.PromotedLaws.{copy_indexed, copy_promoted}
use Rattle.rls_siread.proofs.sireads.Sireads.promote.Goals as goal

pub promote_all-requires : goal.promote_all-requires
promote_all-requires c = record {
  indexed = copy_indexed (holders_by c.self.inside.alone c.self.inside.index.holders.entries c.self.inside.notes.entries) c.in_ok-index.index.holders.entries c.self.inside.notes.entries c.in_ok-notes.notes.entries
      c.in_ok-index.ensures c.in_ok-notes.ensures c.self.invariant.told;
  same = c.in_ok-notes.ensures;
}

pub invariant_of-self : goal.invariant_of-self
invariant_of-self c = record {
  told = c.in_ok-promote_all.ensures.indexed;
  commits = commits_promoted c.args.limit c.self.inside.least (locks_of c.in_ok-index.index.holders.entries c.self.inside.notes.entries) (locks_of c.promote_all.new.index.holders.entries c.promote_all.new.promoted.entries)
      c.in_ok-promote_all.ensures.ok c.self.invariant.commits;
}

pub returns-clause-ok : goal.returns-clause-ok
returns-clause-ok c =
    subst (λ (locks : Locks). HasPromoted c.args.limit locks (locks_of c.promote_all.new.index.holders.entries c.promote_all.new.promoted.entries)) c.self.view_is
    (copy_promoted c.args.limit (holders_by c.self.inside.alone c.self.inside.index.holders.entries c.self.inside.notes.entries) c.in_ok-index.index.holders.entries c.promote_all.new.index.holders.entries c.self.inside.notes.entries
    c.promote_all.new.promoted.entries c.in_ok-index.ensures c.in_ok-promote_all.ensures.ok)

use Rattle.std.specs.Prelude.{nat_eq}
use Rattle.std.proofs.Common.{subst}
use Rattle.rls_siread.specs.Locks.{Locks, HasForgotten}
use Rattle.rls_siread.specs.Index.{locks_by}
use Rattle.rls_siread.proofs.LocksLaws.{commits_forgotten}
use Rattle.rls_siread.proofs.AloneLaws.{told_forgotten}
use Rattle.rls_siread.proofs.sireads.Sireads.forget.Goals as goal

pub forget_one-requires : goal.forget_one-requires
forget_one-requires c = c.self.invariant.told

pub invariant_of-self : goal.invariant_of-self
invariant_of-self c =
    let old : Locks = locks_by c.self.inside.alone c.self.inside.index.holders.entries c.self.inside.notes.entries in
    let new : Locks = locks_by c.self.inside.alone c.forget_one.new.index.holders.entries c.forget_one.new.notes.entries in
    record {
      told = told_forgotten (nat_eq c.args.txn) old new c.forget_one.ensures c.self.invariant.told;
      commits = commits_forgotten (nat_eq c.args.txn) c.self.inside.least old new c.forget_one.ensures c.self.invariant.commits;
    }

pub returns : goal.returns
returns c =
    subst (λ (locks : Locks). HasForgotten (nat_eq c.args.txn) locks (locks_by c.self.inside.alone c.forget_one.new.index.holders.entries c.forget_one.new.notes.entries)) c.self.view_is c.forget_one.ensures

use Rattle.std.specs.Prelude.{ℕ, Option}
use Rattle.std.proofs.Common.{sym, subst}
use Rattle.rls_siread.specs.Locks.{commit_in, notes_at, is_committed_by, HasForgotten}
use Rattle.rls_siread.specs.Index.{AreTold, holders_by, locks_by}
use Rattle.rls_siread.proofs.AloneLaws.{forgotten_alone}
use Rattle.rls_siread.proofs.alone.forget_old.Goals as goal

pub returns-in-Some : goal.returns-in-Some
returns-in-Some c =
    subst (λ (alone : Option ℕ). HasForgotten (λ txn. is_committed_by c.args.last (commit_in (notes_at c.args.notes.now.entries txn))) (locks_by alone c.args.index.now.holders.entries c.args.notes.now.entries)
    (locks_by alone c.args.index.now.holders.entries c.drop_noted.new.notes.entries)) (sym c.in-Some.is)
    (forgotten_alone c.in-Some.field-0 c.args.index.now.holders.entries c.args.index.now.holders.entries c.args.notes.now.entries c.drop_noted.new.notes.entries
    (λ txn. is_committed_by c.args.last (commit_in (notes_at c.args.notes.now.entries txn))) c.drop_noted.ensures)

pub drop_committed-requires : goal.drop_committed-requires
drop_committed-requires c = subst (λ (alone : Option ℕ). AreTold (holders_by alone c.args.index.now.holders.entries c.args.notes.now.entries) c.args.notes.now.entries) c.in-None.is c.requires

pub returns-in-None : goal.returns-in-None
returns-in-None c =
    subst (λ (alone : Option ℕ). HasForgotten (λ txn. is_committed_by c.args.last (commit_in (notes_at c.args.notes.now.entries txn))) (locks_by alone c.args.index.now.holders.entries c.args.notes.now.entries)
    (locks_by alone c.drop_committed.new.index.holders.entries c.drop_committed.new.notes.entries)) (sym c.in-None.is) c.drop_committed.ensures.gone

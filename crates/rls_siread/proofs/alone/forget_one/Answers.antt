use Rattle.std.specs.Prelude.{ℕ, Option, nat_eq}
use Rattle.std.proofs.Common.{sym, subst}
use Rattle.rls_siread.specs.Locks.{HasForgotten}
use Rattle.rls_siread.specs.Index.{AreTold, holders_by, locks_by}
use Rattle.rls_siread.proofs.LocksLaws.{notes_gone}
use Rattle.rls_siread.proofs.AloneLaws.{forgotten_alone}
use Rattle.rls_siread.proofs.alone.forget_one.Goals as goal

pub returns-in-Some : goal.returns-in-Some
returns-in-Some c =
    subst (λ (alone : Option ℕ). HasForgotten (nat_eq c.args.txn) (locks_by alone c.args.index.now.holders.entries c.args.notes.now.entries) (locks_by alone c.args.index.now.holders.entries c.remove.new.self.entries)) (sym c.in-Some.is)
    (forgotten_alone c.in-Some.field-0 c.args.index.now.holders.entries c.args.index.now.holders.entries c.args.notes.now.entries c.remove.new.self.entries (nat_eq c.args.txn)
    (notes_gone c.args.notes.now.entries c.remove.new.self.entries c.args.txn c.remove.ensures.updates.0))

pub drop_notes-requires : goal.drop_notes-requires
drop_notes-requires c = subst (λ (alone : Option ℕ). AreTold (holders_by alone c.args.index.now.holders.entries c.args.notes.now.entries) c.args.notes.now.entries) c.in-None.is c.requires

pub returns-in-None : goal.returns-in-None
returns-in-None c =
    subst (λ (alone : Option ℕ). HasForgotten (nat_eq c.args.txn) (locks_by alone c.args.index.now.holders.entries c.args.notes.now.entries) (locks_by alone c.drop_notes.new.index.holders.entries c.drop_notes.new.notes.entries)) (sym c.in-None.is)
    c.drop_notes.ensures.gone

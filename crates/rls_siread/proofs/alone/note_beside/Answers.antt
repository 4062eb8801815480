use Rattle.std.specs.Prelude.{ℕ, Option, None, OnOk, OnErr}
use Rattle.std.proofs.Common.{◌≡◌, sym, subst}
use Rattle.rls_siread.specs.Promotion.{noted_with}
use Rattle.rls_siread.specs.Locks.{HasNoted, objects_in, notes_at}
use Rattle.rls_siread.specs.Index.{AreTold, holders_by, locks_by}
use Rattle.rls_siread.proofs.alone.note_beside.Goals as goal

pub index_beside-requires : goal.index_beside-requires
index_beside-requires c = subst (λ (alone : Option ℕ). AreTold (holders_by alone c.args.index.now.holders.entries c.args.notes.now.entries) c.args.notes.now.entries) c.in-Some.is c.requires

pub returns-in_ok-told-in-Some-clause-ok : goal.returns-in_ok-told-in-Some-clause-ok
returns-in_ok-told-in-Some-clause-ok c =
    subst (λ (alone : Option ℕ). HasNoted c.args.txn (noted_with c.args.limit (objects_in (notes_at c.args.notes.now.entries c.args.txn)) c.args.footprint.now)
    (locks_by alone c.args.index.now.holders.entries c.args.notes.now.entries) (locks_by None c.in_ok-told-in-Some.told.holders.entries c.index_beside.new.notes.entries)) (sym c.in-Some.is) c.in_ok-told-in-Some.ensures.ok

pub renew-requires : goal.renew-requires
renew-requires c = subst (λ (alone : Option ℕ). AreTold (holders_by alone c.args.index.now.holders.entries c.args.notes.now.entries) c.args.notes.now.entries) c.in-None.is c.requires

pub returns-in-None-clause-ok : goal.returns-in-None-clause-ok
returns-in-None-clause-ok c =
    subst (λ (alone : Option ℕ). OnOk c.renew.result (HasNoted c.args.txn (noted_with c.args.limit (objects_in (notes_at c.args.notes.now.entries c.args.txn)) c.args.footprint.now)
    (locks_by alone c.args.index.now.holders.entries c.args.notes.now.entries) (locks_by alone c.renew.new.index.holders.entries c.renew.new.notes.entries))) (sym c.in-None.is) c.renew.ensures.ok

pub returns-in-None-clause-err : goal.returns-in-None-clause-err
returns-in-None-clause-err c =
    subst (λ (alone : Option ℕ). OnErr c.renew.result (locks_by alone c.renew.new.index.holders.entries c.renew.new.notes.entries ≡ locks_by alone c.args.index.now.holders.entries c.args.notes.now.entries)) (sym c.in-None.is) c.renew.ensures.err

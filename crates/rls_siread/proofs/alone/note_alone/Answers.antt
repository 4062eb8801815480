use Rattle.std.specs.Prelude.{◌≡◌, Some}
use Rattle.std.specs.BTreeMap.{is_at}
use Rattle.std.specs.Map.{lookup, set_value}
use Rattle.std.specs.Option.{is_some, option_copied_mut}
use Rattle.std.specs.Ordering.{nat_cmp}
use Rattle.std.proofs.Common.{ap, sym, ◌∙◌}
use Rattle.std.proofs.lemmas.Map.Steps.{set_value_same}
use Rattle.rls_siread.specs.Promotion.{noted_with}
use Rattle.rls_siread.specs.Locks.{Notes, objects_in, commit_in, notes_at}
use Rattle.rls_siread.proofs.LocksLaws.{notes_put}
use Rattle.rls_siread.proofs.alone.note_alone.Goals as goal

pub returns-in-Ok-clause-ok : goal.returns-in-Ok-clause-ok
returns-in-Ok-clause-ok c =
    let found : notes_at c.args.notes.now.entries c.args.txn ≡ Some c.in-Some.noted.now = sym c.get_mut.ensures.value ∙ ap option_copied_mut c.in-Some.is in
    let wrote = c.get_mut.follows.holds c.renew.new.self in
    notes_put c.args.notes.now.entries (c.get_mut.follows.lender c.renew.new.self).entries c.args.txn c.renew.new.self (noted_with c.args.limit (objects_in (notes_at c.args.notes.now.entries c.args.txn)) c.args.footprint)
    (ap (λ (notes : Notes). notes.objects) c.in-Ok.ensures.ok ∙ ap (λ found. noted_with c.args.limit (objects_in found) c.args.footprint) (sym found))
    (ap (λ (notes : Notes). notes.commit) c.in-Ok.ensures.ok ∙ ap commit_in (sym found))
    (wrote.3 (ap is_some found)).0

pub returns-in-Err-clause-err : goal.returns-in-Err-clause-err
returns-in-Err-clause-err c =
    let found : lookup (is_at (nat_cmp c.args.txn)) c.args.notes.now.entries ≡ Some c.in-Some.noted.now = sym c.get_mut.ensures.value ∙ ap option_copied_mut c.in-Some.is in
    (c.get_mut.follows.holds c.renew.new.self).0
    ∙ ap (λ (notes : Notes). set_value (is_at (nat_cmp c.args.txn)) c.args.notes.now.entries notes) c.in-Err.ensures.err
    ∙ set_value_same (is_at (nat_cmp c.args.txn)) c.args.notes.now.entries c.in-Some.noted.now found

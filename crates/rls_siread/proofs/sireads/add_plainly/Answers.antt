use Rattle.std.specs.Prelude.{◌≡◌, true}
use Rattle.std.proofs.Common.{List, rules, ap, sym, subst, ◌∙◌}
use Rattle.rls_value.specs.declared.object.Object.{Object}
use Rattle.rls_source.specs.Footprints.{with_reads, IsInOrder}
use Rattle.rls_siread.specs.Promotion.{is_plain, noted_with}
use Rattle.rls_siread.specs.Locks.{objects_in, notes_at, HasNoted}
use Rattle.rls_siread.specs.Index.{locks_of}
use Rattle.rls_siread.proofs.PlainLaws.{fresh_noted}
use Rattle.rls_siread.proofs.sireads.add_plainly.Goals as goal

pub returns-clause-done : goal.returns-clause-done
returns-clause-done c = λ done.
    let noted : List Object = c.objects-objects.result.now in
    let found : objects_in (notes_at c.args.notes.now.entries c.args.txn) ≡ noted = search rules in
    let ordered : IsInOrder noted = search rules in
    let plain : is_plain c.args.limit (with_reads noted c.in_ok-fresh.fresh) ≡ true = search rules in
    let same : with_reads noted c.in_ok-fresh.fresh ≡ noted_with c.args.limit noted c.args.footprint.now =
    sym (fresh_noted c.args.limit noted c.args.footprint.now c.in_ok-fresh.fresh ordered c.in_ok-fresh.ensures plain) in
    subst (λ (list : List Object). HasNoted c.args.txn list (locks_of c.args.index.now.holders.entries c.args.notes.now.entries) (locks_of c.add_one.new.index.holders.entries c.add_one.new.notes.entries))
    (ap (λ (list : List Object). with_reads list c.in_ok-fresh.fresh) found ∙ same ∙ sym (ap (λ (list : List Object). noted_with c.args.limit list c.args.footprint.now) found))
    c.in_ok-add_one.ensures.ok

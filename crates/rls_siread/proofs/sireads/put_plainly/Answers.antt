use Rattle.std.specs.Prelude.{◌≡◌, refl, [], ◌∷◌, true, length}
use Rattle.std.proofs.Common.{List, rules, arith, sym, subst, ◌∙◌}
use Rattle.rls_value.specs.declared.object.Object.{Object}
use Rattle.rls_siread.specs.Promotion.{is_plain}
use Rattle.rls_siread.specs.Locks.{objects_in, notes_at, HasNoted}
use Rattle.rls_siread.specs.Index.{locks_of}
use Rattle.rls_siread.proofs.PlainLaws.{first_noted}
use Rattle.rls_siread.proofs.sireads.put_plainly.Goals as goal

none_of : (list : List Object) → length list ≡ 0 → list ≡ []
none_of [] none = refl
none_of (x ∷ list) none = absurd (omega (arith, none))

pub returns-clause-done : goal.returns-clause-done
returns-clause-done c = λ done.
    let found : objects_in (notes_at c.args.notes.now.entries c.args.txn) ≡ c.objects.result.now = search rules in
    let nothing : objects_in (notes_at c.args.notes.now.entries c.args.txn) ≡ [] = found ∙ none_of c.objects.result.now (omega (arith, c.if-len-gt0.false, c.len.ensures)) in
    let plain : is_plain c.args.limit c.args.footprint.now ≡ true = search rules in
    subst (λ (list : List Object). HasNoted c.args.txn list (locks_of c.args.index.now.holders.entries c.args.notes.now.entries) (locks_of c.put_first.new.index.holders.entries c.put_first.new.notes.entries))
    (sym (first_noted c.args.limit (objects_in (notes_at c.args.notes.now.entries c.args.txn)) c.args.footprint.now nothing plain c.in_ok-put_first.ensures.ordered)) c.in_ok-put_first.ensures.ok

use Rattle.std.specs.Prelude.{◌≡◌, [], ◌∷◌, List, Option, Some, None, if◌then◌else◌}
use Rattle.std.specs.Option.{option_copied}
use Rattle.std.proofs.Common.{ap, sym, ◌∙◌}
use Rattle.std.proofs.lemmas.Result.{IfOk-weaker}
use Rattle.rls_value.specs.declared.object.Object.{Object}
use Rattle.rls_source.specs.Footprints.{is_among}
use Rattle.rls_siread.specs.Locks.{Notes, held_in, objects_in, notes_at}
use Rattle.rls_siread.specs.Index.{HolderList, held_at, held_alone}
use Rattle.rls_siread.proofs.AloneLaws.{held_alone_at}
use Rattle.rls_siread.proofs.alone.index_of.Goals as goal

pub returns-in-Some : goal.returns-in-Some
returns-in-Some c =
    let found : notes_at c.args.notes.now.entries c.args.txn ≡ Some c.in-Some.noted.now = sym c.get.ensures.value ∙ ap option_copied c.in-Some.is in
    let own : c.objects.result.now ≡ objects_in (notes_at c.args.notes.now.entries c.args.txn) = c.objects.ensures ∙ sym (ap objects_in found) in
    IfOk-weaker c.alone.result (λ index. (object : Object) → held_at index.holders.entries object ≡ (if is_among c.objects.result.now object then c.args.txn ∷ [] else []))
    (λ index. (object : Object) → held_at index.holders.entries object ≡ held_in (held_alone c.args.txn (objects_in (notes_at c.args.notes.now.entries c.args.txn))) object)
    (λ index held. λ object.
    held object
    ∙ ap (λ (list : List Object). if is_among list object then c.args.txn ∷ [] else []) own
    ∙ sym (held_alone_at c.args.txn (objects_in (notes_at c.args.notes.now.entries c.args.txn)) object)) c.alone.ensures

pub returns-in-None : goal.returns-in-None
returns-in-None c = λ object.
    let none : notes_at c.args.notes.now.entries c.args.txn ≡ None = sym c.get.ensures.value ∙ ap option_copied c.in-None.is in
    ap (λ (places : List (Object × HolderList)). held_at places object) c.new.ensures
    ∙ sym (ap (λ (noted : Option Notes). held_in (held_alone c.args.txn (objects_in noted)) object) none)

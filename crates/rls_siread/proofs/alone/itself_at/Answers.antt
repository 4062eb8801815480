use Rattle.std.specs.Prelude.{◌≡◌, ℕ, List, [], ◌∷◌, Bool, true, false, if◌then◌else◌, Option, Some}
use Rattle.std.specs.Option.{option_copied}
use Rattle.std.proofs.Common.{ap, sym, ◌∙◌}
use Rattle.rls_value.specs.declared.object.Object.{Object}
use Rattle.rls_source.specs.Footprints.{is_among}
use Rattle.rls_siread.specs.Locks.{Notes, objects_in, notes_at, held_in}
use Rattle.rls_siread.specs.Index.{held_alone}
use Rattle.rls_siread.proofs.AloneLaws.{held_alone_at}
use Rattle.rls_siread.proofs.alone.itself_at.Goals as goal
use Rattle.rls_siread.proofs.alone.itself_at.Goals.{in_default-via-in-Some+else-contains, in_default-via-in_default}

held_if : (txn : ℕ) (objects : List Object) (object : Object) (there : Bool) → is_among objects object ≡ there → (if there then txn ∷ [] else []) ≡ held_in (held_alone txn objects) object
held_if txn objects object there is = sym (held_alone_at txn objects object ∙ ap (λ b. if b then txn ∷ [] else []) is)

pub returns-in-Some : goal.returns-in-Some
returns-in-Some c =
    let found : notes_at c.args.notes.now.entries c.args.txn.now ≡ Some c.in-Some.noted.now = sym c.get.ensures.value ∙ ap option_copied c.in-Some.is in
    c.from_ref.ensures.value
    ∙ held_if c.args.txn.now (objects_in (notes_at c.args.notes.now.entries c.args.txn.now)) c.args.object.now true
    (ap (λ (noted : Option Notes). is_among (objects_in noted) c.args.object.now) found
    ∙ ap (λ (list : List Object). is_among list c.args.object.now) (sym c.objects.ensures)
    ∙ sym c.contains.ensures
    ∙ c.if-contains.true)

pub returns-in_default : goal.returns-in_default
returns-in_default c =
    let absent : is_among (objects_in (notes_at c.args.notes.now.entries c.args.txn.now)) c.args.object.now ≡ false = elim c.in_default.branch [
      | in_default-via-in-Some+else-contains w ↦
          ap (λ (noted : Option Notes). is_among (objects_in noted) c.args.object.now) (sym c.get.ensures.value ∙ ap option_copied w.in-Some.is)
          ∙ ap (λ (list : List Object). is_among list c.args.object.now) (sym w.objects.ensures)
          ∙ sym w.contains.ensures
          ∙ w.if-contains.false
      | in_default-via-in_default w ↦ ap (λ (noted : Option Notes). is_among (objects_in noted) c.args.object.now) (sym c.get.ensures.value ∙ ap option_copied w.in_default.is)
    ] in
    held_if c.args.txn.now (objects_in (notes_at c.args.notes.now.entries c.args.txn.now)) c.args.object.now false absent

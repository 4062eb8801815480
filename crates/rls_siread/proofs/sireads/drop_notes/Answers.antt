use Rattle.std.specs.Prelude.{◌≡◌, [], Some, None, if◌then◌else◌}
use Rattle.std.specs.Option.{is_some}
use Rattle.std.proofs.Common.{ap, sym, ◌∙◌, arith}
use Rattle.std.proofs.lemmas.Bool.{true≢false}
use Rattle.rls_value.specs.declared.object.Object.{Object}
use Rattle.rls_source.specs.Footprints.{is_among}
use Rattle.rls_siread.specs.Locks.{without, objects_in, notes_at}
use Rattle.rls_siread.specs.Index.{held_at}
use Rattle.rls_siread.proofs.LocksLaws.{forgotten_held, last_held, still_indexed, notes_gone, objects_gone}
use Rattle.rls_siread.proofs.sireads.drop_notes.Goals as goal

pub give_back-requires-clause-noted : goal.give_back-requires-clause-noted
give_back-requires-clause-noted c = λ object.
    let noted_is : notes_at c.args.notes.now.entries c.args.txn ≡ Some c.in-Some.noted = sym c.remove.ensures.value ∙ c.in-Some.is in
    c.requires object c.args.txn ∙ ap (λ found. is_among (objects_in found) object) noted_is ∙ ap (λ list. is_among list object) (sym c.objects.ensures)

pub give_back-requires-clause-alone : goal.give_back-requires-clause-alone
give_back-requires-clause-alone c = λ none object.
    last_held c.args.index.now.holders.entries c.args.notes.now.entries c.remove.new.self.entries c.args.txn c.requires
    (notes_gone c.args.notes.now.entries c.remove.new.self.entries c.args.txn c.remove.ensures.updates.0) none object

pub returns-in-Some : goal.returns-in-Some
returns-in-Some c =
    let gone = notes_gone c.args.notes.now.entries c.remove.new.self.entries c.args.txn c.remove.ensures.updates.0 in
    let count = rw c.in-Some.is at c.remove.ensures.len in
    record {
      indexed = still_indexed c.args.index.now.holders.entries c.give_back.new.index.holders.entries c.args.notes.now.entries c.remove.new.self.entries c.args.txn [] c.requires c.give_back.ensures
          (objects_gone c.args.notes.now.entries c.remove.new.self.entries c.args.txn gone);
      gone = record { notes = gone; holders = c.give_back.ensures };
      fewer = λ has. omega arith;
    }

pub returns-in_default : goal.returns-in_default
returns-in_default c =
    let none : notes_at c.args.notes.now.entries c.args.txn ≡ None = sym c.remove.ensures.value ∙ c.in_default.is in
    let held : (object : Object) → held_at c.args.index.now.holders.entries object ≡ without (held_at c.args.index.now.holders.entries object) c.args.txn =
    forgotten_held c.args.index.now.holders.entries c.args.index.now.holders.entries c.args.notes.now.entries c.args.txn c.requires (λ object.
    ap (λ found. if is_among (objects_in found) object then without (held_at c.args.index.now.holders.entries object) c.args.txn else held_at c.args.index.now.holders.entries object) (sym none)) in
    let gone = notes_gone c.args.notes.now.entries c.remove.new.self.entries c.args.txn c.remove.ensures.updates.0 in
    record {
      indexed = still_indexed c.args.index.now.holders.entries c.args.index.now.holders.entries c.args.notes.now.entries c.remove.new.self.entries c.args.txn [] c.requires held
          (objects_gone c.args.notes.now.entries c.remove.new.self.entries c.args.txn gone);
      gone = record { notes = gone; holders = held };
      fewer = λ has. absurd (true≢false (sym has ∙ ap is_some none));
    }

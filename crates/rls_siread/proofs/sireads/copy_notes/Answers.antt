use Rattle.std.specs.Prelude.{◌≡◌, ◌∷◌, nat_eq, ℕ, List, true, Some}
use Rattle.std.specs.Map.{keys_of}
use Rattle.std.specs.Option.{is_some, option_copied}
use Rattle.std.specs.Map.Iter.{deref}
use Rattle.std.proofs.Common.{ap, sym, ◌∙◌}
use Rattle.std.proofs.lemmas.Bool.{true≢false, or_left, or_right}
use Rattle.std.proofs.lemmas.Map.Iter.{rest_more}
use Rattle.rls_siread.specs.Locks.{Notes, is_number_in, notes_at}
use Rattle.rls_siread.proofs.LocksLaws.{number_itself}
use Rattle.rls_siread.proofs.CopyLaws.{no_notes, has_number, copied_notes}
use Rattle.rls_siread.proofs.sireads.copy_notes.Goals as goal

pub loop-txn-init : goal.loop-txn-init
loop-txn-init c =
    let it : c.into_iter-txn-iterator.result ≡ keys_of c.args.notes.now.entries = c.into_iter-txn-iterator.ensures.into_iter_gives ∙ c.keys-txn-items.ensures.rest in
    record {
      has = λ number there. has_number c.args.notes.now.entries number ∙ ap (λ list. is_number_in list number) (sym it) ∙ there;
      copied = λ number none.
          ap (λ (entries : List (ℕ × Notes)). notes_at entries number) c.new-copied.ensures.empty
          ∙ sym (no_notes c.args.notes.now.entries number (ap (λ list. is_number_in list number) (sym it) ∙ none));
    }

pub loop-txn-preserved-in_ok-insert : goal.loop-txn-preserved-in_ok-insert
loop-txn-preserved-in_ok-insert c =
    let first : c.loop-txn.txn-iterator ≡ c.in-Some.txn.now ∷ c.next.new.self = rest_more deref c.loop-txn.txn-iterator c.next.new.self c.next.result c.in-Some.txn c.in-Some.is c.next.ensures.steps in
    let found : notes_at c.args.notes.now.entries c.in-Some.txn.now ≡ Some c.in-Some-get.noted.now = sym c.get.ensures.value ∙ ap option_copied c.in-Some-get.is in
    record {
      has = λ number there. c.loop-txn.invariant.has number (ap (λ list. is_number_in list number) first ∙ or_right (nat_eq number c.in-Some.txn.now) (is_number_in c.next.new.self number) there);
      copied = copied_notes c.loop-txn.copied.entries c.insert.new.self.entries c.args.notes.now.entries c.in-Some.txn.now c.next.new.self c.in_ok-copy.field-0 (ap Some c.in_ok-copy.ensures ∙ sym found)
          c.in_ok-insert.ensures.updates.0 (λ number none. c.loop-txn.invariant.copied number (ap (λ list. is_number_in list number) first ∙ none));
    }

pub loop-txn-preserved : goal.loop-txn-preserved
loop-txn-preserved c =
    let first : c.loop-txn.txn-iterator ≡ c.in-Some.txn.now ∷ c.next.new.self = rest_more deref c.loop-txn.txn-iterator c.next.new.self c.next.result c.in-Some.txn c.in-Some.is c.next.ensures.steps in
    let has : is_some (notes_at c.args.notes.now.entries c.in-Some.txn.now) ≡ true =
    c.loop-txn.invariant.has c.in-Some.txn.now (ap (λ list. is_number_in list c.in-Some.txn.now) first ∙ or_left (nat_eq c.in-Some.txn.now c.in-Some.txn.now) (is_number_in c.next.new.self c.in-Some.txn.now) (number_itself c.in-Some.txn.now)) in
    absurd (true≢false (sym has ∙ ap is_some (sym c.get.ensures.value ∙ ap option_copied c.in_default.is)))

-- What stands in the record stays where one that runs begins, changes or goes.
use Rattle.std.specs.Prelude.{◌≡◌, refl, ◌≤◌, ◌+◌, ◌⊎◌, ℕ, List, Bool, true, false, nat_eq, length, slice_get, cond, Option, Some, None}
use Rattle.std.specs.Option.{is_some}
use Rattle.std.proofs.Common.{ap, sym, subst, ◌∙◌, inl, inr, arith}
use Rattle.std.proofs.lemmas.Bool.{true≢false, false_from_ne_true}
use Rattle.rls_value.specs.declared.object.Object.{Object}
use Rattle.rls_catalog.specs.Bases.{covers_any}
use Rattle.rls_siread.specs.Locks.{Locks, notes_at, objects_in, commit_in, commit_of, has_notes, is_number_in}
use Rattle.rls_siread.specs.Index.{HolderList, held_at}
use Rattle.rls_siread.proofs.LocksLaws.{same_number}
use Rattle.rls_conflict.specs.declared.committed.Committed.{Committed}
use Rattle.rls_conflict.specs.Begun.{Begun, at_number}
use Rattle.rls_conflict.specs.Kept.{IsRecent, IsIndexed, IsWhole, NumbersDiffer}
use Rattle.rls_conflict.proofs.RunningLemmas.{IsPutAt}

-- none that committed has the number
abbrev pub IsApart : List Committed → ℕ → Type 0
IsApart committed txn = (place : ℕ) (it : Committed) → slice_get committed place ≡ Some it → nat_eq txn it.transaction.number ≡ false

-- what the indexes know of others is as it was
pub record OthersStay (txn : ℕ) (locks locks' : Locks) (writers writers' : List (Object × HolderList)) : Type 0 where
  pub notes : (other : ℕ) → nat_eq txn other ≡ false → notes_at locks'.notes other ≡ notes_at locks.notes other
  pub written : (other : ℕ) (object : Object) → nat_eq txn other ≡ false → is_number_in (held_at writers' object) other ≡ is_number_in (held_at writers object) other

-- what they know of one that runs
pub record IsRunIn (locks : Locks) (writers : List (Object × HolderList)) (floor commits txn : ℕ) (it : Begun) : Type 0 where
  pub noted : has_notes locks txn ≡ true
  pub unmarked : commit_of locks txn ≡ None
  pub written : (object : Object) → is_number_in (held_at writers object) txn ≡ covers_any object it.changes
  pub after_floor : floor ≤ it.snap
  pub begun : it.snap ≤ commits

-- what they know of nobody
pub record IsGoneFrom (locks : Locks) (writers : List (Object × HolderList)) (txn : ℕ) : Type 0 where
  pub unnoted : has_notes locks txn ≡ false
  pub unwritten : (object : Object) → is_number_in (held_at writers object) txn ≡ false

module _ (committed : List Committed) (running running' : List (ℕ × Begun)) (locks locks' : Locks) (writers writers' : List (Object × HolderList)) (floor txn : ℕ) (now : Option Begun)
    (puts : IsPutAt txn now running running') (stay : OthersStay txn locks locks' writers writers')
    (known : (it : Begun) → now ≡ Some it → IsRunIn locks' writers' floor (length committed) txn it) (gone : now ≡ None → IsGoneFrom locks' writers' txn) where
  -- another that runs did so before
  other_ran : (other : ℕ) → nat_eq txn other ≡ false → at_number other running' ≡ at_number other running
  other_ran other is = puts other ∙ ap (λ b. cond b now (at_number other running)) is

  this_runs : (other : ℕ) → nat_eq txn other ≡ true → at_number other running' ≡ now
  this_runs other is = puts other ∙ ap (λ b. cond b now (at_number other running)) is

  -- it is the one, or another that ran
  by_number : (P : ℕ → Begun → Type 0) → ((it : Begun) → now ≡ Some it → P txn it) → ((other : ℕ) (it : Begun) → nat_eq txn other ≡ false → at_number other running ≡ Some it → P other it)
      → (other : ℕ) (it : Begun) → at_number other running' ≡ Some it → P other it
  by_number P this others other it is = case (nat_eq txn other) refl
    where
      case : (b : Bool) → nat_eq txn other ≡ b → P other it
      case true same = subst (λ n. P n it) (same_number txn other same) (this it (sym (this_runs other same) ∙ is))
      case false apart = others other it apart (sym (other_ran other apart) ∙ is)

  -- whoever is known runs or is recent
  holder : (P Q : ℕ → Type 0) → (now ≡ None → P txn → ⊥) → ((other : ℕ) → nat_eq txn other ≡ false → P other → Q other)
      → ((other : ℕ) → Q other → (is_some (at_number other running) ≡ true) ⊎ IsRecent committed floor other)
      → (other : ℕ) → P other → (is_some (at_number other running') ≡ true) ⊎ IsRecent committed floor other
  holder P Q none passes were other is = case (nat_eq txn other) refl
    where
      here : (it : Option Begun) → now ≡ it → nat_eq txn other ≡ true → (is_some (at_number other running') ≡ true) ⊎ IsRecent committed floor other
      here None is_now same = absurd (none is_now (subst P (sym (same_number txn other same)) is))
      here (Some it) is_now same = inl (ap is_some (this_runs other same ∙ is_now))

      case : (b : Bool) → nat_eq txn other ≡ b → (is_some (at_number other running') ≡ true) ⊎ IsRecent committed floor other
      case true same = here now refl same
      case false apart = elim (were other (passes other apart is)) [
        | inl ran ↦ inl (ap is_some (other_ran other apart) ∙ ran)
        | inr recent ↦ inr recent
      ]

  one_indexed : IsApart committed txn → IsIndexed committed running locks writers floor → IsIndexed committed running' locks' writers' floor
  one_indexed apart old = record {
    run = by_number (λ n it. (has_notes locks' n ≡ true) × (commit_of locks' n ≡ None))
        (λ it is. ((known it is).noted, (known it is).unmarked))
        (λ other it differs is. (ap is_some (stay.notes other differs) ∙ (old.run other it is).0, ap commit_in (stay.notes other differs) ∙ (old.run other it is).1));
    written = by_number (λ n it. (object : Object) → is_number_in (held_at writers' object) n ≡ covers_any object it.changes)
        (λ it is. (known it is).written)
        (λ other it differs is. λ object. stay.written other object differs ∙ old.written other it is object);
    marked = λ place it there above. ap commit_in (stay.notes it.transaction.number (apart place it there)) ∙ old.marked place it there above;
    noted = λ place it there above. ap objects_in (stay.notes it.transaction.number (apart place it there)) ∙ old.noted place it there above;
    covered = λ place it there above object. stay.written it.transaction.number object (apart place it there) ∙ old.covered place it there above object;
    no_reader = holder (λ n. has_notes locks' n ≡ true) (λ n. has_notes locks n ≡ true)
        (λ none is. true≢false (sym is ∙ (gone none).unnoted)) (λ other differs is. ap is_some (sym (stay.notes other differs)) ∙ is) old.no_reader;
    no_writer = λ other object. holder (λ n. is_number_in (held_at writers' object) n ≡ true) (λ n. is_number_in (held_at writers object) n ≡ true)
        (λ none is. true≢false (sym is ∙ (gone none).unwritten object)) (λ other differs is. sym (stay.written other object differs) ∙ is) (λ n. old.no_writer n object) other;
  }

  pub one_kept : (len capacity len' capacity' : ℕ) → IsApart committed txn → IsWhole committed len capacity running locks writers floor → len' + length running' ≤ capacity'
      → IsWhole committed len' capacity' running' locks' writers' floor
  one_kept len capacity len' capacity' apart whole room = record {
    entries = whole.entries;
    differ = record {
      places = whole.differ.places;
      over = λ i one there. other_ran one.transaction.number (apart i one there) ∙ whole.differ.over i one there;
    };
    snaps = by_number (λ n it. (floor ≤ it.snap) × (it.snap ≤ length committed)) (λ it is. ((known it is).after_floor, (known it is).begun)) (λ other it differs is. whole.snaps other it is);
    floor_within = whole.floor_within;
    indexed = one_indexed apart whole.indexed;
    room = room;
  }

-- the number of one that runs is that of none that committed
pub running_apart : (committed : List Committed) (running : List (ℕ × Begun)) (txn : ℕ) → NumbersDiffer committed running → is_some (at_number txn running) ≡ true → IsApart committed txn
running_apart committed running txn differ ran place it there =
    false_from_ne_true (nat_eq txn it.transaction.number)
    (λ same. true≢false (sym ran ∙ ap (λ n. is_some (at_number n running)) (same_number txn it.transaction.number same) ∙ ap is_some (differ.over place it there)))

-- what the parts know is as it was, with room at least
pub same_kept : (committed committed' : List Committed) (len len' capacity capacity' : ℕ) (running running' : List (ℕ × Begun)) (locks locks' : Locks) (writers writers' : List (Object × HolderList)) (floor : ℕ)
    → IsWhole committed len capacity running locks writers floor → committed' ≡ committed → len' ≡ len → capacity ≤ capacity' → running' ≡ running
    → ((txn : ℕ) → notes_at locks'.notes txn ≡ notes_at locks.notes txn) → ((object : Object) → held_at writers' object ≡ held_at writers object)
    → IsWhole committed' len' capacity' running' locks' writers' floor
same_kept committed committed' len len' capacity capacity' running running' locks locks' writers writers' floor whole same_committed same_len more same_running notes held =
    let room = whole.room in
    subst (λ (them : List Committed). IsWhole them len' capacity' running' locks' writers' floor) (sym same_committed)
    (subst (λ (entries : List (ℕ × Begun)). IsWhole committed len' capacity' entries locks' writers' floor) (sym same_running) (record {
      entries = whole.entries;
      differ = whole.differ;
      snaps = whole.snaps;
      floor_within = whole.floor_within;
      indexed = record {
        run = λ txn it is. (ap is_some (notes txn) ∙ (whole.indexed.run txn it is).0, ap commit_in (notes txn) ∙ (whole.indexed.run txn it is).1);
        written = λ txn it is object. ap (λ txns. is_number_in txns txn) (held object) ∙ whole.indexed.written txn it is object;
        marked = λ place it there above. ap commit_in (notes it.transaction.number) ∙ whole.indexed.marked place it there above;
        noted = λ place it there above. ap objects_in (notes it.transaction.number) ∙ whole.indexed.noted place it there above;
        covered = λ place it there above object. ap (λ txns. is_number_in txns it.transaction.number) (held object) ∙ whole.indexed.covered place it there above object;
        no_reader = λ txn has. whole.indexed.no_reader txn (ap is_some (sym (notes txn)) ∙ has);
        no_writer = λ txn object is. whole.indexed.no_writer txn object (ap (λ txns. is_number_in txns txn) (sym (held object)) ∙ is);
      };
      room = omega arith;
    }))

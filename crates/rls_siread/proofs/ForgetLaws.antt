-- Forgetting those that committed by a number, one after another.
use Rattle.std.specs.Prelude.{◌≡◌, refl, ℕ, List, [], ◌∷◌, Bool, true, false, not, nat_eq, filter, cond, if◌then◌else◌, Option, Some, None}
use Rattle.std.specs.Option.{is_some}
use Rattle.std.proofs.Common.{ap, sym, ◌∙◌}
use Rattle.std.proofs.lemmas.Bool.{true≢false, or_left, or_right}
use Rattle.rls_value.specs.declared.object.Object.{Object}
use Rattle.rls_source.specs.Footprints.{is_among}
use Rattle.rls_siread.specs.Locks.{Notes, Locks, is_number_in, without, held_by, objects_in, commit_in, notes_at, noted_by, has_notes, commit_of, is_committed_by, is_left, HasForgotten}
use Rattle.rls_siread.specs.Index.{HolderList, held_at, IsIndexed, locks_of}
use Rattle.rls_siread.proofs.LocksLaws.{same_number, number_itself}

-- it committed by that number
abbrev pub is_gone : ℕ → Locks → ℕ → Bool
is_gone last locks txn = is_committed_by last (commit_of locks txn)

-- some of those that committed by the number are forgotten, nobody else
pub record IsLeft (last : ℕ) (old now : Locks) : Type 0 where
  pub left : (txn : ℕ) → has_notes now txn ≡ true → notes_at now.notes txn ≡ notes_at old.notes txn
  pub kept : (txn : ℕ) → is_gone last old txn ≡ false → notes_at now.notes txn ≡ notes_at old.notes txn
  pub holders : (object : Object) → filter (λ txn. not (is_gone last old txn)) (held_by now object) ≡ filter (λ txn. not (is_gone last old txn)) (held_by old object)

-- at first nobody is
pub left_start : (last : ℕ) (old : Locks) → IsLeft last old old
left_start last old = record { left = λ txn has. refl; kept = λ txn stays. refl; holders = λ object. refl }

-- ---- filters

filter_case : (p : ℕ → Bool) (same : Bool) (txn x : ℕ) (rest more : List ℕ) → nat_eq txn x ≡ same → p txn ≡ false → filter p rest ≡ filter p more
    → filter p (if not same then x ∷ rest else rest) ≡ filter p (x ∷ more)
filter_case p true txn x rest more is fails further = further ∙ ap (λ b. cond b (x ∷ filter p more) (filter p more)) (sym (ap p (sym (same_number txn x is)) ∙ fails))
filter_case p false txn x rest more is fails further = ap (λ found. cond (p x) (x ∷ found) found) further

filter_without : (p : ℕ → Bool) (txn : ℕ) → p txn ≡ false → (txns : List ℕ) → filter p (without txns txn) ≡ filter p txns
filter_without p txn fails [] = refl
filter_without p txn fails (x ∷ txns) = filter_case p (nat_eq txn x) txn x (without txns txn) txns refl fails (filter_without p txn fails txns)

filter_all : (p : ℕ → Bool) (txns : List ℕ) → ((txn : ℕ) → is_number_in txns txn ≡ true → p txn ≡ true) → filter p txns ≡ txns
filter_all p [] all = refl
filter_all p (x ∷ txns) all =
    ap (λ b. cond b (x ∷ filter p txns) (filter p txns)) (all x (or_left (nat_eq x x) (is_number_in txns x) (number_itself x)))
    ∙ ap (λ more. x ∷ more) (filter_all p txns (λ txn there. all txn (or_right (nat_eq txn x) (is_number_in txns txn) there)))

-- ---- one more is forgotten

committed_has : (last : ℕ) (found : Option Notes) → is_committed_by last (commit_in found) ≡ true → is_some found ≡ true
committed_has last None is = absurd (true≢false (sym is))
committed_has last (Some notes) is = refl

-- who committed has notes
pub committed_has_notes : (last : ℕ) (locks : Locks) (txn : ℕ) → is_gone last locks txn ≡ true → has_notes locks txn ≡ true
committed_has_notes last locks txn is = committed_has last (notes_at locks.notes txn) is

left_case : (same : Bool) (new now old : Option Notes) → new ≡ (if same then None else now) → is_some new ≡ true → (is_some now ≡ true → now ≡ old) → new ≡ old
left_case true new now old is has further = absurd (true≢false (sym has ∙ ap is_some is))
left_case false new now old is has further = is ∙ further (sym (ap is_some is) ∙ has)

kept_case : (same : Bool) (p : ℕ → Bool) (txn t : ℕ) (new now old : Option Notes) → nat_eq txn t ≡ same → new ≡ (if same then None else now) → p txn ≡ true → p t ≡ false → now ≡ old → new ≡ old
kept_case true p txn t new now old same is gone stays further = absurd (true≢false (sym gone ∙ ap p (same_number txn t same) ∙ stays))
kept_case false p txn t new now old same is gone stays further = is ∙ further

was_gone : (last : ℕ) (old now : Locks) (txn : ℕ) → IsLeft last old now → is_gone last now txn ≡ true → is_gone last old txn ≡ true
was_gone last old now txn so_far gone =
    ap (λ found. is_committed_by last (commit_in found)) (sym (so_far.left txn (committed_has_notes last now txn gone))) ∙ gone

-- one that committed by the number is forgotten too
pub left_next : (last : ℕ) (old now new : Locks) (txn : ℕ) → IsLeft last old now → is_gone last now txn ≡ true → HasForgotten (nat_eq txn) now new → IsLeft last old new
left_next last old now new txn so_far gone forgets = record {
  left = λ t has. left_case (nat_eq txn t) (notes_at new.notes t) (notes_at now.notes t) (notes_at old.notes t) (forgets.notes t) has (so_far.left t);
  kept = λ t stays. kept_case (nat_eq txn t) (is_gone last old) txn t (notes_at new.notes t) (notes_at now.notes t) (notes_at old.notes t) refl (forgets.notes t) (was_gone last old now txn so_far gone) stays (so_far.kept t stays);
  holders = λ object.
      ap (filter (λ t. not (is_gone last old t))) (forgets.holders object)
      ∙ filter_without (λ t. not (is_gone last old t)) txn (ap not (was_gone last old now txn so_far gone)) (held_by now object)
      ∙ so_far.holders object;
}

-- ---- all are forgotten

notes_case : (last : ℕ) (gone : Bool) (now old : Option Notes) → is_committed_by last (commit_in old) ≡ gone → (is_some now ≡ true → now ≡ old) → (gone ≡ false → now ≡ old)
    → is_committed_by last (commit_in now) ≡ false → now ≡ (if gone then None else old)
notes_case last true None old is left kept none = refl
notes_case last true (Some notes) old is left kept none = absurd (true≢false (sym is ∙ ap (λ found. is_committed_by last (commit_in found)) (sym (left refl)) ∙ none))
notes_case last false now old is left kept none = kept refl

-- where none is left that committed by the number, the notes of just those are gone
pub left_notes : (last : ℕ) (old now : Locks) → IsLeft last old now → ((txn : ℕ) → is_gone last now txn ≡ false) → (txn : ℕ) → notes_at now.notes txn ≡ (if is_gone last old txn then None else notes_at old.notes txn)
left_notes last old now so_far none txn = notes_case last (is_gone last old txn) (notes_at now.notes txn) (notes_at old.notes txn) refl (so_far.left txn) (so_far.kept txn) (none txn)

has_case : (found : Option Notes) (object : Object) → is_among (objects_in found) object ≡ true → is_some found ≡ true
has_case None object is = absurd (true≢false (sym is))
has_case (Some notes) object is = refl

-- where none is left that committed by the number, just those are forgotten
pub left_all : (last : ℕ) (old now : Locks) → IsLeft last old now → ((object : Object) (txn : ℕ) → is_number_in (held_by now object) txn ≡ is_among (noted_by now txn) object)
    → ((txn : ℕ) → is_gone last now txn ≡ false) → HasForgotten (is_gone last old) old now
left_all last old now so_far indexed none = record {
  notes = left_notes last old now so_far none;
  holders = λ object.
      sym (filter_all (λ txn. not (is_gone last old txn)) (held_by now object) (λ txn there.
      ap (λ found. not (is_committed_by last (commit_in found))) (sym (so_far.left txn (has_case (notes_at now.notes txn) object (sym (indexed object txn) ∙ there))))
      ∙ ap not (none txn)))
      ∙ so_far.holders object;
}

-- ---- all at once

all_gone_if : (gone : Bool) (notes : Notes) → not gone ≡ false → None ≡ (if gone then None else Some notes)
all_gone_if true notes is = refl
all_gone_if false notes is = absurd (true≢false is)

-- one that isn't left is gone
pub all_gone_case : (last : ℕ) (found : Option Notes) → is_left last found ≡ false → None ≡ (if is_committed_by last (commit_in found) then None else found)
all_gone_case last None is = refl
all_gone_case last (Some notes) is = all_gone_if (is_committed_by last notes.commit) notes is

holder_gone : (last : ℕ) (found : Option Notes) (object : Object) → is_among (objects_in found) object ≡ true → is_left last found ≡ false → not (is_committed_by last (commit_in found)) ≡ false
holder_gone last None object among is = absurd (true≢false (sym among))
holder_gone last (Some notes) object among is = is

filter_none : (p : ℕ → Bool) (txns : List ℕ) → ((txn : ℕ) → is_number_in txns txn ≡ true → p txn ≡ false) → filter p txns ≡ []
filter_none p [] all = refl
filter_none p (x ∷ txns) all =
    ap (λ b. cond b (x ∷ filter p txns) (filter p txns)) (all x (or_left (nat_eq x x) (is_number_in txns x) (number_itself x)))
    ∙ filter_none p txns (λ txn there. all txn (or_right (nat_eq txn x) (is_number_in txns txn) there))

-- where none is left, all are forgotten
pub all_gone : (last : ℕ) (entries none_held : List (Object × HolderList)) (old none_noted : List (ℕ × Notes)) → IsIndexed entries old → ((txn : ℕ) → is_left last (notes_at old txn) ≡ false) → none_held ≡ [] → none_noted ≡ []
    → HasForgotten (λ txn. is_committed_by last (commit_in (notes_at old txn))) (locks_of entries old) (locks_of none_held none_noted)
all_gone last entries none_held old none_noted indexed left no_holder no_notes = record {
  notes = λ txn. ap (λ list. notes_at list txn) no_notes ∙ all_gone_case last (notes_at old txn) (left txn);
  holders = λ object.
      ap (λ list. held_at list object) no_holder
      ∙ sym (filter_none (λ txn. not (is_committed_by last (commit_in (notes_at old txn)))) (held_at entries object) (λ txn there.
      holder_gone last (notes_at old txn) object (sym (indexed object txn) ∙ there) (left txn)));
}

-- and nobody holds anything
pub none_indexed : (none_held : List (Object × HolderList)) (none_noted : List (ℕ × Notes)) → none_held ≡ [] → none_noted ≡ [] → IsIndexed none_held none_noted
none_indexed none_held none_noted no_holder no_notes object txn =
    ap (λ list. is_number_in (held_at list object) txn) no_holder ∙ ap (λ list. is_among (objects_in (notes_at list txn)) object) (sym no_notes)

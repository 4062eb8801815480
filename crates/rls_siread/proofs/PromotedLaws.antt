-- Promoting the notes of all, one transaction after another.
use Rattle.std.specs.Prelude.{◌≡◌, refl, ℕ, List, [], ◌∷◌, Bool, true, false, ◌||◌, nat_eq, if◌then◌else◌, Option, Some, None}
use Rattle.std.specs.List.{AllByRecursion}
use Rattle.std.specs.List.Sorted.{IsStrictlySortedBy}
use Rattle.std.specs.Map.{keys_of}
use Rattle.std.specs.Option.{is_some}
use Rattle.std.specs.Ordering.{is_eq, nat_cmp}
use Rattle.std.specs.declared.cmp.Ordering.TheVariants.{Less}
use Rattle.std.proofs.Common.{ap, sym, subst, ◌∙◌}
use Rattle.std.proofs.lemmas.Bool.{true≢false, or_left, or_right}
use Rattle.std.proofs.lemmas.Map.Keys.{sorted_head, sorted_tail}
use Rattle.rls_value.specs.declared.object.Object.{Object}
use Rattle.rls_source.specs.Footprints.{is_among}
use Rattle.rls_siread.specs.Promotion.{noted_with}
use Rattle.rls_siread.specs.Locks.{Notes, is_number_in, held_with, held_in, objects_in, commit_in, notes_at, promoted_notes, held_promoted, HasNoted, HasPromoted}
use Rattle.rls_siread.specs.Index.{HolderList, held_at, AreTold, IsIndexed, locks_of}
use Rattle.rls_siread.proofs.LocksLaws.{same_number, number_itself, number_at, number_turned}
use Rattle.rls_siread.proofs.CopyLaws.{has_number, no_notes}

-- the transactions that wait have their notes as they were, the others have them promoted
pub record IsUnderWay (limit : ℕ) (notes left : List (ℕ × Notes)) (first now : List (Object × HolderList)) (waiting : List ℕ) : Type 0 where
  pub indexed : IsIndexed now left
  pub in_order : IsStrictlySortedBy nat_cmp waiting
  pub has : (txn : ℕ) → is_number_in waiting txn ≡ true → is_some (notes_at notes txn) ≡ true
  pub waits : (txn : ℕ) → is_number_in waiting txn ≡ true → notes_at left txn ≡ notes_at notes txn
  pub done : (txn : ℕ) → is_number_in waiting txn ≡ false → notes_at left txn ≡ promoted_notes limit (notes_at notes txn)
  pub holders : (object : Object) → held_promoted limit notes object waiting (held_at now object) ≡ held_promoted limit notes object (keys_of notes) (held_at first object)

-- at first all wait
pub all_wait : (limit : ℕ) (notes left : List (ℕ × Notes)) (first : List (Object × HolderList)) (waiting : List ℕ) → waiting ≡ keys_of notes → IsStrictlySortedBy nat_cmp (keys_of notes) → IsIndexed first left
    → ((txn : ℕ) → notes_at left txn ≡ notes_at notes txn) → IsUnderWay limit notes left first first waiting
all_wait limit notes left first waiting are in_order indexed same = record {
  indexed = indexed;
  in_order = subst (IsStrictlySortedBy nat_cmp) (sym are) in_order;
  has = λ txn there. has_number notes txn ∙ ap (λ list. is_number_in list txn) (sym are) ∙ there;
  waits = λ txn there. same txn;
  done = λ txn none. same txn ∙ nothing txn (no_notes notes txn (ap (λ list. is_number_in list txn) (sym are) ∙ none));
  holders = λ object. ap (λ list. held_promoted limit notes object list (held_at first object)) are;
}
  where
    nothing : (txn : ℕ) → notes_at notes txn ≡ None → notes_at notes txn ≡ promoted_notes limit (notes_at notes txn)
    nothing txn none = none ∙ ap (promoted_notes limit) (sym none)

above_none : (x : ℕ) (more : List ℕ) → AllByRecursion (λ y. nat_cmp x y ≡ Less) more → is_number_in more x ≡ false
above_none x [] all = refl
above_none x (y ∷ more) all = ap (λ b. b || is_number_in more x) (sym (number_at x y) ∙ ap is_eq all.0) ∙ above_none x more all.1

apart_case : (same : Bool) (x t : ℕ) (more : List ℕ) → nat_eq x t ≡ same → is_number_in more x ≡ false → is_number_in more t ≡ true → same ≡ false
apart_case true x t more e none there = absurd (true≢false (sym there ∙ ap (is_number_in more) (sym (same_number x t e)) ∙ none))
apart_case false x t more e none there = refl

promoted_is : (limit : ℕ) (found : Option Notes) → is_some found ≡ true → Some (record { commit = commit_in found; objects = noted_with limit (objects_in found) [] }) ≡ promoted_notes limit found
promoted_is limit None has = absurd (true≢false (sym has))
promoted_is limit (Some notes) has = refl

waits_case : (same : Bool) (new put now orig : Option Notes) → same ≡ false → new ≡ (if same then put else now) → now ≡ orig → new ≡ orig
waits_case true new put now orig other is further = absurd (true≢false other)
waits_case false new put now orig other is further = is ∙ further

done_case : (same : Bool) (x t : ℕ) (new put now left : Option Notes) (wanted : ℕ → Option Notes) → nat_eq x t ≡ same → new ≡ (if same then put else now) → put ≡ wanted x → (same ≡ false → now ≡ wanted t) → new ≡ wanted t
done_case true x t new put now left wanted e is here further = is ∙ here ∙ ap wanted (same_number x t e)
done_case false x t new put now left wanted e is here further = is ∙ further refl

-- the first that waits is promoted
pub one_promoted : (limit : ℕ) (notes left more : List (ℕ × Notes)) (first now new : List (Object × HolderList)) (x : ℕ) (rest : List ℕ) → IsUnderWay limit notes left first now (x ∷ rest) → IsIndexed new more
    → HasNoted x (noted_with limit (objects_in (notes_at left x)) []) (locks_of now left) (locks_of new more) → IsUnderWay limit notes more first new rest
one_promoted limit notes left more first now new x rest so_far indexed noted =
    let own : notes_at left x ≡ notes_at notes x = so_far.waits x (or_left (nat_eq x x) (is_number_in rest x) (number_itself x)) in
    let has : is_some (notes_at notes x) ≡ true = so_far.has x (or_left (nat_eq x x) (is_number_in rest x) (number_itself x)) in
    let none : is_number_in rest x ≡ false = above_none x rest (sorted_head nat_cmp x rest so_far.in_order) in
    record {
      indexed = indexed;
      in_order = sorted_tail nat_cmp x rest so_far.in_order;
      has = λ t there. so_far.has t (or_right (nat_eq t x) (is_number_in rest t) there);
      waits = λ t there.
          waits_case (nat_eq x t) (notes_at more t) (Some (record { commit = commit_in (notes_at left x); objects = noted_with limit (objects_in (notes_at left x)) [] })) (notes_at left t) (notes_at notes t)
          (apart_case (nat_eq x t) x t rest refl none there) (noted.notes t) (so_far.waits t (or_right (nat_eq t x) (is_number_in rest t) there));
      done = λ t gone.
          done_case (nat_eq x t) x t (notes_at more t) (Some (record { commit = commit_in (notes_at left x); objects = noted_with limit (objects_in (notes_at left x)) [] })) (notes_at left t) (notes_at left t)
          (λ n. promoted_notes limit (notes_at notes n)) refl (noted.notes t)
          (ap (λ found. Some (record { commit = commit_in found; objects = noted_with limit (objects_in found) [] })) own ∙ promoted_is limit (notes_at notes x) has)
          (λ other. so_far.done t ((λ i. (number_turned t x ∙ other) i || is_number_in rest t) ∙ gone));
      holders = λ object.
          ap (held_promoted limit notes object rest) (noted.holders object ∙ ap (λ found. held_with (is_among (noted_with limit (objects_in found) []) object) (held_at now object) x) own)
          ∙ so_far.holders object;
    }

-- where none waits all are promoted
pub all_promoted : (limit : ℕ) (notes left : List (ℕ × Notes)) (first now : List (Object × HolderList)) (waiting : List ℕ) → waiting ≡ [] → IsUnderWay limit notes left first now waiting
    → HasPromoted limit (locks_of first notes) (locks_of now left)
all_promoted limit notes left first now waiting none so_far = record {
  notes = λ txn. so_far.done txn (ap (λ list. is_number_in list txn) none);
  holders = λ object. ap (λ list. held_promoted limit notes object list (held_at now object)) (sym none) ∙ so_far.holders object;
}

-- who holds the same in a copy is told by the same notes
pub copy_indexed : (first : List (Object × List ℕ)) (copied : List (Object × HolderList)) (notes left : List (ℕ × Notes)) → ((object : Object) → held_at copied object ≡ held_in first object)
    → ((t : ℕ) → notes_at left t ≡ notes_at notes t) → AreTold first notes → IsIndexed copied left
copy_indexed first copied notes left held noted told object t =
    ap (λ list. is_number_in list t) (held object) ∙ told object t ∙ ap (λ found. is_among (objects_in found) object) (sym (noted t))

-- what is promoted in a copy is promoted
pub copy_promoted : (limit : ℕ) (first : List (Object × List ℕ)) (copied new : List (Object × HolderList)) (notes left : List (ℕ × Notes)) → ((object : Object) → held_at copied object ≡ held_in first object)
    → HasPromoted limit (locks_of copied notes) (locks_of new left) → HasPromoted limit (record { holders = first; notes = notes }) (locks_of new left)
copy_promoted limit first copied new notes left held is = record {
  notes = is.notes;
  holders = λ object. is.holders object ∙ ap (held_promoted limit notes object (keys_of notes)) (held object);
}

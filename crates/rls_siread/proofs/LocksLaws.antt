-- What calls leave of read locks.
use Rattle.std.specs.Prelude.{◌≡◌, ◌<◌, ◌≤◌, ◌+◌, refl, ℕ, List, [], ◌∷◌, ◌++◌, Bool, true, false, not, ◌||◌, ◌&&◌, nat_eq, min, cond, if◌then◌else◌, Option, Some, None, unwrap_or}
use Rattle.std.specs.Option.{is_some, option_map}
use Rattle.std.specs.List.{list_any}
use Rattle.std.specs.BTreeMap.{is_at}
use Rattle.std.specs.Ordering.{is_eq, nat_cmp}
use Rattle.std.specs.declared.cmp.Ordering.{Ordering}
use Rattle.std.specs.declared.cmp.Ordering.TheVariants.{Less, Equal, Greater}
use Rattle.std.specs.Cmp.{unsigned_Decides}
use Rattle.std.specs.FinMap.{nat_cmp-IsAntisymmetric}
use Rattle.std.specs.Set.{remove_key}
use Rattle.std.specs.List.{IsDistinct, AllByRecursion}
use Rattle.std.proofs.Common.{ap, sym, subst, ◌∙◌, arith}
use Rattle.std.proofs.lemmas.Bool.{true≢false, leb-false, lt-leb}
use Rattle.std.proofs.lemmas.Cmp.{nat_cmp_total, nat_eq_equiv, tied_itself}
use Rattle.std.proofs.lemmas.List.Folds.{list_any-append}
use Rattle.std.proofs.lemmas.Map.Views.{any-filter_same}
use Rattle.rls_value.specs.declared.object.Object.{Object}
use Rattle.rls_catalog.specs.declared.change.Change.{Change}
use Rattle.rls_source.specs.Footprints.{with_reads, footprint_of, is_among}
use Rattle.rls_siread.specs.Covering.{covered_by}
use Rattle.rls_siread.specs.Locks.{Notes, Locks, is_number_in, is_reader, arrived, all_arrived, with_holders, holders_of, without, held_with, held_by, objects_in, commit_in, held_in, notes_at, noted_by, noting, marked, commit_of, is_committed_by, promoted_notes, HasNoted, HasForgotten, HasPromoted}
use Rattle.rls_siread.specs.Index.{HolderList, shown, held_at, AreTold, IsIndexed, CommitsFrom, locks_of}
use Rattle.rls_siread.proofs.CoveringLaws.{any_same, reads_covered}
use Rattle.rls_siread.proofs.PlainLaws.{fresh_is_new, nothing_is_gone}

-- ---- numbers

-- equal by the test are equal
pub same_number : (a b : ℕ) → nat_eq a b ≡ true → a ≡ b
same_number a b is = (unsigned_Decides a b).0 is

-- a number is itself
pub number_itself : (a : ℕ) → nat_eq a a ≡ true
number_itself a = nat_eq_equiv.refl a

both_ways : (one other : Bool) → (one ≡ true → other ≡ true) → (other ≡ true → one ≡ true) → one ≡ other
both_ways true true there back = refl
both_ways true false there back = absurd (true≢false (sym (there refl)))
both_ways false true there back = absurd (true≢false (sym (back refl)))
both_ways false false there back = refl

turned : (a b : ℕ) → nat_eq a b ≡ true → nat_eq b a ≡ true
turned a b is = subst (λ n. nat_eq n a ≡ true) (same_number a b is) (number_itself a)

-- the test looks the same from both sides
pub number_turned : (a b : ℕ) → nat_eq a b ≡ nat_eq b a
number_turned a b = both_ways (nat_eq a b) (nat_eq b a) (turned a b) (turned b a)

is_tie : (order : Ordering) → is_eq order ≡ true → order ≡ Equal
is_tie Less is = absurd (true≢false (sym is))
is_tie Equal is = refl
is_tie Greater is = absurd (true≢false (sym is))

-- the order of numbers finds the same number
pub number_at : (a b : ℕ) → is_eq (nat_cmp a b) ≡ nat_eq a b
number_at a b =
    both_ways (is_eq (nat_cmp a b)) (nat_eq a b)
    (λ is. subst (λ n. nat_eq a n ≡ true) (nat_cmp-IsAntisymmetric a b (is_tie (nat_cmp a b) is)) (number_itself a))
    (λ is. subst (λ n. is_eq (nat_cmp a n) ≡ true) (same_number a b is) (ap is_eq (tied_itself nat_cmp_total a)))

-- ---- one more, one less

arrived_case : (there : Bool) (txns : List ℕ) (txn t : ℕ) → is_number_in txns txn ≡ there
    → is_number_in (if there then txns else txns ++ txn ∷ []) t ≡ (nat_eq t txn || is_number_in txns t)
arrived_case true txns txn t is = there_case (nat_eq t txn) refl
  where
    there_case : (same : Bool) → nat_eq t txn ≡ same → is_number_in txns t ≡ (same || is_number_in txns t)
    there_case true e = ap (is_number_in txns) (same_number t txn e) ∙ is
    there_case false e = refl
arrived_case false txns txn t is = list_any-append (nat_eq t) txns (txn ∷ []) ∙ last_case (is_number_in txns t) (nat_eq t txn)
  where
    last_case : (a b : Bool) → (a || (b || false)) ≡ (b || a)
    last_case true true = refl
    last_case true false = refl
    last_case false true = refl
    last_case false false = refl

-- who is there once one arrived
pub number_arrived : (txns : List ℕ) (txn t : ℕ) → is_number_in (arrived txns txn) t ≡ (nat_eq t txn || is_number_in txns t)
number_arrived txns txn t = arrived_case (is_number_in txns txn) txns txn t refl

-- who arrives twice arrives once
pub arrived_twice : (txn : ℕ) (txns : List ℕ) → arrived (arrived txns txn) txn ≡ arrived txns txn
arrived_twice txn txns =
    ap (λ b. if b then arrived txns txn else arrived txns txn ++ txn ∷ [])
    (number_arrived txns txn txn ∙ ap (λ b. b || is_number_in txns txn) (number_itself txn))

-- who is there without one
pub number_without : (txns : List ℕ) (txn t : ℕ) → is_number_in (without txns txn) t ≡ (not (nat_eq t txn) && is_number_in txns t)
number_without txns txn t =
    any-filter_same (nat_eq t) (λ other. not (nat_eq txn other)) (not (nat_eq t txn))
    (λ k is. ap not (ap (nat_eq txn) (sym (same_number t k is)) ∙ number_turned txn t)) txns

absent_case : (same : Bool) (txn x : ℕ) (txns rest : List ℕ) → nat_eq txn x ≡ same → (same || is_number_in txns txn) ≡ false → (is_number_in txns txn ≡ false → rest ≡ txns)
    → (if not same then x ∷ rest else rest) ≡ x ∷ txns
absent_case true txn x txns rest is none further = absurd (true≢false none)
absent_case false txn x txns rest is none further = ap (λ more. x ∷ more) (further none)

-- nobody is missed who wasn't there
pub without_absent : (txns : List ℕ) (txn : ℕ) → is_number_in txns txn ≡ false → without txns txn ≡ txns
without_absent [] txn none = refl
without_absent (x ∷ txns) txn none = absent_case (nat_eq txn x) txn x txns (without txns txn) refl none (without_absent txns txn)

-- who is gone twice is gone once
pub without_twice : (txn : ℕ) (txns : List ℕ) → without (without txns txn) txn ≡ without txns txn
without_twice txn txns = without_absent (without txns txn) txn (number_without txns txn txn ∙ ap (λ b. not b && is_number_in txns txn) (number_itself txn))

-- a number that differs from each isn't there
pub apart_none : (txn : ℕ) (txns : List ℕ) → AllByRecursion (λ y. nat_eq txn y ≡ false) txns → is_number_in txns txn ≡ false
apart_none txn [] apart = refl
apart_none txn (x ∷ txns) apart = ap (λ b. b || is_number_in txns txn) apart.0 ∙ apart_none txn txns apart.1

removed_case : (same : Bool) (txn x : ℕ) (txns : List ℕ) → nat_eq txn x ≡ same → is_number_in txns x ≡ false → remove_key (nat_eq txn) txns ≡ without txns txn
    → cond same txns (x ∷ remove_key (nat_eq txn) txns) ≡ (if not same then x ∷ without txns txn else without txns txn)
removed_case true txn x txns is none further = sym (without_absent txns txn (ap (is_number_in txns) (same_number txn x is) ∙ none))
removed_case false txn x txns is none further = ap (λ more. x ∷ more) further

-- of numbers that differ, removing one leaves the others
pub removed_is_without : (txns : List ℕ) (txn : ℕ) → IsDistinct nat_eq txns → remove_key (nat_eq txn) txns ≡ without txns txn
unfolding IsDistinct
removed_is_without [] txn distinct = refl
removed_is_without (x ∷ txns) txn distinct = removed_case (nat_eq txn x) txn x txns refl (apart_none x txns distinct.0) (removed_is_without txns txn distinct.1)

-- ---- who holds

held_with_case : (holds same : Bool) (txns : List ℕ) (txn t : ℕ) → nat_eq t txn ≡ same → is_number_in (held_with holds txns txn) t ≡ (if same then holds else is_number_in txns t)
held_with_case true true txns txn t is = number_arrived txns txn t ∙ ap (λ b. b || is_number_in txns t) is
held_with_case true false txns txn t is = number_arrived txns txn t ∙ ap (λ b. b || is_number_in txns t) is
held_with_case false true txns txn t is = number_without txns txn t ∙ ap (λ b. not b && is_number_in txns t) is
held_with_case false false txns txn t is = number_without txns txn t ∙ ap (λ b. not b && is_number_in txns t) is

indexed_case : (same : Bool) (objects noted : List Object) (object : Object) (there : Bool) → there ≡ is_among noted object
    → (if same then is_among objects object else there) ≡ is_among (if same then objects else noted) object
indexed_case true objects noted object there is = refl
indexed_case false objects noted object there is = is

-- who holds is told by the notes, once those of one transaction are others
pub still_told : (old new : List (Object × List ℕ)) (notes left : List (ℕ × Notes)) (txn : ℕ) (objects : List Object) → AreTold old notes
    → ((object : Object) → held_in new object ≡ held_with (is_among objects object) (held_in old object) txn)
    → ((t : ℕ) → objects_in (notes_at left t) ≡ (if nat_eq txn t then objects else objects_in (notes_at notes t))) → AreTold new left
still_told old new notes left txn objects told held noted object t =
    ap (λ txns. is_number_in txns t) (held object)
    ∙ held_with_case (is_among objects object) (nat_eq t txn) (held_in old object) txn t refl
    ∙ ap (λ b. if b then is_among objects object else is_number_in (held_in old object) t) (number_turned t txn)
    ∙ indexed_case (nat_eq txn t) objects (objects_in (notes_at notes t)) object (is_number_in (held_in old object) t) (told object t)
    ∙ ap (λ list. is_among list object) (sym (noted t))

-- and the same by the index
pub still_indexed : (old new : List (Object × HolderList)) (notes left : List (ℕ × Notes)) (txn : ℕ) (objects : List Object) → IsIndexed old notes
    → ((object : Object) → held_at new object ≡ held_with (is_among objects object) (held_at old object) txn)
    → ((t : ℕ) → objects_in (notes_at left t) ≡ (if nat_eq txn t then objects else objects_in (notes_at notes t))) → IsIndexed new left
still_indexed old new notes left txn objects = still_told (shown old) (shown new) notes left txn objects

renoted_case : (now was : Bool) (txn : ℕ) (held : List ℕ) → is_number_in held txn ≡ was
    → (if was && not now then without (if now && not was then arrived held txn else held) txn else (if now && not was then arrived held txn else held)) ≡ held_with now held txn
renoted_case true true txn held is = sym (ap (λ b. if b then held else held ++ txn ∷ []) is)
renoted_case true false txn held is = refl
renoted_case false true txn held is = refl
renoted_case false false txn held is = sym (without_absent held txn is)

-- what is held once the new ones are held, and those dropped are not
pub renoted_held : (old noted new : List (Object × HolderList)) (notes : List (ℕ × Notes)) (txn : ℕ) (objects fresh dropped : List Object) → IsIndexed old notes
    → ((object : Object) → is_among fresh object ≡ (is_among objects object && not (is_among (objects_in (notes_at notes txn)) object)))
    → ((object : Object) → is_among dropped object ≡ (is_among (objects_in (notes_at notes txn)) object && not (is_among objects object)))
    → ((object : Object) → held_at noted object ≡ (if is_among fresh object then arrived (held_at old object) txn else held_at old object))
    → ((object : Object) → held_at new object ≡ (if is_among dropped object then without (held_at noted object) txn else held_at noted object))
    → (object : Object) → held_at new object ≡ held_with (is_among objects object) (held_at old object) txn
renoted_held old noted new notes txn objects fresh dropped indexed news drops holds releases object =
    let held : held_at noted object ≡ (if is_among objects object && not (is_among (objects_in (notes_at notes txn)) object) then arrived (held_at old object) txn else held_at old object) =
    holds object ∙ (λ i. if news object i then arrived (held_at old object) txn else held_at old object) in
    releases object
    ∙ (λ i. if drops object i then without (held i) txn else held i)
    ∙ renoted_case (is_among objects object) (is_among (objects_in (notes_at notes txn)) object) txn (held_at old object) (indexed object txn)

-- whether or not the transaction held it, it holds it no longer
pub forgotten_case : (was : Bool) (txn : ℕ) (held : List ℕ) → is_number_in held txn ≡ was → (if was then without held txn else held) ≡ without held txn
forgotten_case true txn held is = refl
forgotten_case false txn held is = sym (without_absent held txn is)

-- what is held once nothing is noted
pub forgotten_held : (old new : List (Object × HolderList)) (notes : List (ℕ × Notes)) (txn : ℕ) → IsIndexed old notes
    → ((object : Object) → held_at new object ≡ (if is_among (objects_in (notes_at notes txn)) object then without (held_at old object) txn else held_at old object))
    → (object : Object) → held_at new object ≡ without (held_at old object) txn
forgotten_held old new notes txn indexed releases object =
    releases object ∙ forgotten_case (is_among (objects_in (notes_at notes txn)) object) txn (held_at old object) (indexed object txn)

-- ---- the last who has notes is forgotten

last_case : (same : Bool) (new old : Option Notes) (object : Object) → new ≡ (if same then None else old) → new ≡ None → is_among (objects_in old) object ≡ true → same ≡ true
last_case true new old object is none among = refl
last_case false new old object is none among = absurd (true≢false (sym among ∙ ap (λ found. is_among (objects_in found) object) (sym is ∙ none)))

without_all : (txn : ℕ) (txns : List ℕ) → ((t : ℕ) → is_number_in txns t ≡ true → nat_eq txn t ≡ true) → without txns txn ≡ []
without_all txn [] all = refl
without_all txn (x ∷ txns) all =
    ap (λ b. if not b then x ∷ without txns txn else without txns txn) (all x (ap (λ b. b || is_number_in txns x) (number_itself x)))
    ∙ without_all txn txns (λ t there. all t (or_second (nat_eq t x) (is_number_in txns t) there))
  where
    or_second : (a b : Bool) → b ≡ true → (a || b) ≡ true
    or_second true b is = refl
    or_second false b is = is

-- where no other has notes, nobody holds anything without the transaction
pub last_held : (entries : List (Object × HolderList)) (old new : List (ℕ × Notes)) (txn : ℕ) → IsIndexed entries old → ((t : ℕ) → notes_at new t ≡ (if nat_eq txn t then None else notes_at old t)) → new ≡ []
    → (object : Object) → without (held_at entries object) txn ≡ []
last_held entries old new txn indexed gone none object =
    without_all txn (held_at entries object) (λ t there.
    last_case (nat_eq txn t) (notes_at new t) (notes_at old t) object (gone t) (ap (λ list. notes_at list t) none) (sym (indexed object t) ∙ there))

-- ---- what is noted

-- what the notes of a transaction are once they are put anew
pub notes_put : (old new : List (ℕ × Notes)) (txn : ℕ) (notes : Notes) (objects : List Object) → notes.objects ≡ objects → notes.commit ≡ commit_in (notes_at old txn)
    → ((t : ℕ) → notes_at new t ≡ cond (is_at (nat_cmp txn) t) (Some notes) (notes_at old t))
    → (t : ℕ) → notes_at new t ≡ (if nat_eq txn t then Some (record { commit = commit_in (notes_at old txn); objects = objects }) else notes_at old t)
notes_put old new txn notes objects same commit puts t =
    puts t
    ∙ (λ i. cond (number_at txn t i) (Some (record { commit = commit i; objects = same i })) (notes_at old t))

objects_case : (same : Bool) (notes : Notes) (other : Option Notes) → objects_in (if same then Some notes else other) ≡ (if same then notes.objects else objects_in other)
objects_case true notes other = refl
objects_case false notes other = refl

-- and the objects
pub objects_put : (old new : List (ℕ × Notes)) (txn : ℕ) (notes : Notes) → ((t : ℕ) → notes_at new t ≡ (if nat_eq txn t then Some notes else notes_at old t))
    → (t : ℕ) → objects_in (notes_at new t) ≡ (if nat_eq txn t then notes.objects else objects_in (notes_at old t))
objects_put old new txn notes puts t = ap objects_in (puts t) ∙ objects_case (nat_eq txn t) notes (notes_at old t)

marked_case : (same : Bool) (commit : ℕ) (found : Option Notes) → objects_in (if same then marked commit found else found) ≡ objects_in found
marked_case true commit None = refl
marked_case true commit (Some notes) = refl
marked_case false commit found = refl

-- a commit leaves the objects
pub objects_marked : (old new : List (ℕ × Notes)) (txn commit : ℕ) → ((t : ℕ) → notes_at new t ≡ (if nat_eq txn t then marked commit (notes_at old t) else notes_at old t))
    → (t : ℕ) → objects_in (notes_at new t) ≡ objects_in (notes_at old t)
objects_marked old new txn commit marks t = ap objects_in (marks t) ∙ marked_case (nat_eq txn t) commit (notes_at old t)

gone_case : (same : Bool) (other : Option Notes) → objects_in (if same then None else other) ≡ (if same then [] else objects_in other)
gone_case true other = refl
gone_case false other = refl

-- what the notes are once those of a transaction are gone
pub notes_gone : (old new : List (ℕ × Notes)) (txn : ℕ) → ((t : ℕ) → notes_at new t ≡ cond (is_at (nat_cmp txn) t) None (notes_at old t))
    → (t : ℕ) → notes_at new t ≡ (if nat_eq txn t then None else notes_at old t)
notes_gone old new txn puts t = puts t ∙ ap (λ b. cond b None (notes_at old t)) (number_at txn t)

-- and the objects
pub objects_gone : (old new : List (ℕ × Notes)) (txn : ℕ) → ((t : ℕ) → notes_at new t ≡ (if nat_eq txn t then None else notes_at old t))
    → (t : ℕ) → objects_in (notes_at new t) ≡ (if nat_eq txn t then [] else objects_in (notes_at old t))
objects_gone old new txn puts t = ap objects_in (puts t) ∙ gone_case (nat_eq txn t) (notes_at old t)

-- the same holders, in places with more room, are told by the notes as they were
pub indexed_same : (old new : List (Object × HolderList)) (notes left : List (ℕ × Notes)) → shown new ≡ shown old → ((t : ℕ) → objects_in (notes_at left t) ≡ objects_in (notes_at notes t))
    → IsIndexed old notes → IsIndexed new left
indexed_same old new notes left same noted indexed object t =
    ap (λ holders. is_number_in (held_in holders object) t) same ∙ indexed object t ∙ ap (λ list. is_among list object) (sym (noted t))

-- ---- notes put anew

-- who holds is told by the notes, and the transaction has noted the objects
pub record IsRenewed (old new : List (Object × HolderList)) (notes left : List (ℕ × Notes)) (txn : ℕ) (objects : List Object) : Type 0 where
  pub indexed : IsIndexed new left
  pub noted : HasNoted txn objects (locks_of old notes) (locks_of new left)

-- room is made, the notes are put, what is new is held, and what was dropped isn't
pub renewed : (old room noted new : List (Object × HolderList)) (notes left : List (ℕ × Notes)) (txn : ℕ) (put : Notes) (objects fresh dropped : List Object) → IsIndexed old notes
    → put.objects ≡ objects → put.commit ≡ commit_in (notes_at notes txn)
    → ((object : Object) → is_among fresh object ≡ (is_among put.objects object && not (is_among (objects_in (notes_at notes txn)) object)))
    → ((object : Object) → is_among dropped object ≡ (is_among (objects_in (notes_at notes txn)) object && not (is_among put.objects object)))
    → shown room ≡ shown old → ((t : ℕ) → notes_at left t ≡ cond (is_at (nat_cmp txn) t) (Some put) (notes_at notes t))
    → ((object : Object) → held_at noted object ≡ (if is_among fresh object then arrived (held_at room object) txn else held_at room object))
    → ((object : Object) → held_at new object ≡ (if is_among dropped object then without (held_at noted object) txn else held_at noted object))
    → IsRenewed old new notes left txn objects
renewed old room noted new notes left txn put objects fresh dropped indexed same commit news drops same_shown puts holds releases =
    let notes_are : (t : ℕ) → notes_at left t ≡ (if nat_eq txn t then Some (record { commit = commit_in (notes_at notes txn); objects = objects }) else notes_at notes t) =
    notes_put notes left txn put objects same commit puts in
    let objects_are : (t : ℕ) → objects_in (notes_at left t) ≡ (if nat_eq txn t then objects else objects_in (notes_at notes t)) =
    objects_put notes left txn (record { commit = commit_in (notes_at notes txn); objects = objects }) notes_are in
    let held : (object : Object) → held_at new object ≡ held_with (is_among objects object) (held_at old object) txn =
    renoted_held old noted new notes txn objects fresh dropped indexed
    (λ object. news object ∙ ap (λ list. is_among list object && not (is_among (objects_in (notes_at notes txn)) object)) same)
    (λ object. drops object ∙ ap (λ list. is_among (objects_in (notes_at notes txn)) object && not (is_among list object)) same)
    (λ object. holds object ∙ (λ i. if is_among fresh object then arrived (held_in (same_shown i) object) txn else held_in (same_shown i) object))
    releases in
    record { indexed = still_indexed old new notes left txn objects indexed held objects_are; noted = record { notes = notes_are; holders = held } }

-- ---- what one object more leaves

there_case : (found : Option Notes) (fresh : List Object) → is_some found ≡ true → option_map (noting fresh) found ≡ Some (record { commit = commit_in found; objects = with_reads (objects_in found) fresh })
there_case (Some notes) fresh there = refl
there_case None fresh there = absurd (true≢false (sym there))

puts_case : (same : Bool) (txn t : ℕ) (notes : List (ℕ × Notes)) (fresh : List Object) → nat_eq txn t ≡ same → is_some (notes_at notes txn) ≡ true
    → (if same then option_map (noting fresh) (notes_at notes t) else notes_at notes t)
    ≡ (if same then Some (record { commit = commit_in (notes_at notes txn); objects = with_reads (objects_in (notes_at notes txn)) fresh }) else notes_at notes t)
puts_case true txn t notes fresh is there =
    ap (λ (n : ℕ). option_map (noting fresh) (notes_at notes n)) (sym (same_number txn t is)) ∙ there_case (notes_at notes txn) fresh there
puts_case false txn t notes fresh is there = refl

apart_case : (fresh noted : Bool) → (fresh ≡ true → noted ≡ false) → fresh ≡ (fresh && not noted)
apart_case true noted apart = sym (ap not (apart refl))
apart_case false noted apart = refl

-- room is made, the fresh objects are put beside the notes, and held
pub added : (old room new : List (Object × HolderList)) (notes left : List (ℕ × Notes)) (txn : ℕ) (fresh : List Object) → IsIndexed old notes → is_some (notes_at notes txn) ≡ true
    → ((object : Object) → is_among fresh object ≡ true → is_among (objects_in (notes_at notes txn)) object ≡ false)
    → shown room ≡ shown old → ((t : ℕ) → notes_at left t ≡ (if nat_eq txn t then option_map (noting fresh) (notes_at notes t) else notes_at notes t))
    → ((object : Object) → held_at new object ≡ (if is_among fresh object then arrived (held_at room object) txn else held_at room object))
    → IsRenewed old new notes left txn (with_reads (objects_in (notes_at notes txn)) fresh)
added old room new notes left txn fresh indexed there apart same_shown puts holds =
    let noted : List Object = objects_in (notes_at notes txn) in
    let put : Notes = record { commit = commit_in (notes_at notes txn); objects = with_reads noted fresh } in
    renewed old room new new notes left txn put (with_reads noted fresh) fresh [] indexed refl refl
    (fresh_is_new noted fresh fresh (with_reads noted fresh) refl (λ object. apart_case (is_among fresh object) (is_among noted object) (apart object)))
    (nothing_is_gone noted fresh (with_reads noted fresh) refl)
    same_shown
    (λ t. puts t ∙ puts_case (nat_eq txn t) txn t notes fresh refl there ∙ sym (λ i. cond (number_at txn t i) (Some put) (notes_at notes t)))
    holds (λ object. refl)

option_commit : (same : Bool) (fresh : List Object) (found : Option Notes) → commit_in (if same then option_map (noting fresh) found else found) ≡ commit_in found
option_commit true fresh (Some notes) = refl
option_commit true fresh None = refl
option_commit false fresh found = refl

-- they leave the commits
pub commits_added : (old new : List (ℕ × Notes)) (txn : ℕ) (fresh : List Object) → ((t : ℕ) → notes_at new t ≡ (if nat_eq txn t then option_map (noting fresh) (notes_at old t) else notes_at old t))
    → (t : ℕ) → commit_in (notes_at new t) ≡ commit_in (notes_at old t)
commits_added old new txn fresh puts t = ap commit_in (puts t) ∙ option_commit (nat_eq txn t) fresh (notes_at old t)

-- ---- who is found

all_arrived_case : (a b c : Bool) → (a || (b || c)) ≡ ((b || a) || c)
all_arrived_case true true c = refl
all_arrived_case true false c = refl
all_arrived_case false true c = refl
all_arrived_case false false c = refl

-- who is there once all arrived
pub number_all_arrived : (txns more : List ℕ) (t : ℕ) → is_number_in (all_arrived txns more) t ≡ (is_number_in txns t || is_number_in more t)
number_all_arrived txns [] t = sym (or_none (is_number_in txns t))
  where
    or_none : (b : Bool) → (b || false) ≡ b
    or_none true = refl
    or_none false = refl
number_all_arrived txns (x ∷ more) t =
    number_all_arrived (arrived txns x) more t
    ∙ ap (λ b. b || is_number_in more t) (number_arrived txns x t)
    ∙ sym (all_arrived_case (is_number_in txns t) (nat_eq t x) (is_number_in more t))

-- who is there with the holders of objects
pub number_with_holders : (holders : List (Object × List ℕ)) (txns : List ℕ) (objects : List Object) (t : ℕ)
    → is_number_in (with_holders holders txns objects) t ≡ (is_number_in txns t || list_any (λ object. is_number_in (held_in holders object) t) objects)
number_with_holders holders txns [] t = sym (or_none (is_number_in txns t))
  where
    or_none : (b : Bool) → (b || false) ≡ b
    or_none true = refl
    or_none false = refl
number_with_holders holders txns (object ∷ objects) t =
    number_with_holders holders (all_arrived txns (held_in holders object)) objects t
    ∙ ap (λ b. b || list_any (λ x. is_number_in (held_in holders x) t) objects) (number_all_arrived txns (held_in holders object) t)
    ∙ assoc (is_number_in txns t) (is_number_in (held_in holders object) t) (list_any (λ x. is_number_in (held_in holders x) t) objects)
  where
    assoc : (a b c : Bool) → ((a || b) || c) ≡ (a || (b || c))
    assoc true b c = refl
    assoc false b c = refl

-- the holders of what a change covers are the transactions that noted it
pub holders_read : (locks : Locks) (change : Change) → ((object : Object) (txn : ℕ) → is_number_in (held_by locks object) txn ≡ is_among (noted_by locks txn) object)
    → (txn : ℕ) → is_number_in (holders_of locks change) txn ≡ is_reader locks change txn
holders_read locks change indexed txn =
    number_with_holders locks.holders [] (footprint_of (covered_by change)) txn
    ∙ any_same (λ object. is_number_in (held_by locks object) txn) (is_among (noted_by locks txn)) (λ object. indexed object txn) (footprint_of (covered_by change))
    ∙ reads_covered (noted_by locks txn) change

-- ---- commits that aren't forgotten

noted_commit : (same : Bool) (txn other : ℕ) (objects : List Object) (old : List (ℕ × Notes)) → nat_eq txn other ≡ same
    → commit_in (if same then Some (record { commit = commit_in (notes_at old txn); objects = objects }) else notes_at old other) ≡ commit_in (notes_at old other)
noted_commit true txn other objects old is = ap (λ t. commit_in (notes_at old t)) (same_number txn other is)
noted_commit false txn other objects old is = refl

-- notes put anew leave the commits
pub commits_noted : (txn : ℕ) (objects : List Object) (old new : Locks) → HasNoted txn objects old new → (other : ℕ) → commit_in (notes_at new.notes other) ≡ commit_in (notes_at old.notes other)
commits_noted txn objects old new noted other = ap commit_in (noted.notes other) ∙ noted_commit (nat_eq txn other) txn other objects old.notes refl

promoted_commit : (limit : ℕ) (found : Option Notes) → commit_in (promoted_notes limit found) ≡ commit_in found
promoted_commit limit None = refl
promoted_commit limit (Some notes) = refl

-- commits by the same numbers have the same least
pub commits_same : (least : ℕ) (old new : List (ℕ × Notes)) → ((other : ℕ) → commit_in (notes_at new other) ≡ commit_in (notes_at old other)) → CommitsFrom least old → CommitsFrom least new
commits_same least old new same commits txn commit is = commits txn commit (sym (same txn) ∙ is)

pub commits_promoted : (limit least : ℕ) (old new : Locks) → HasPromoted limit old new → CommitsFrom least old.notes → CommitsFrom least new.notes
commits_promoted limit least old new promotes = commits_same least old.notes new.notes (λ other. ap commit_in (promotes.notes other) ∙ promoted_commit limit (notes_at old.notes other))

marked_at : (commit c : ℕ) (found : Option Notes) → commit_in (marked commit found) ≡ Some c → commit ≡ c
marked_at commit c None is = absurd (true≢false (sym (ap is_some is)))
marked_at commit c (Some notes) is = ap (λ found. unwrap_or found 0) is

marked_from : (same : Bool) (least commit c : ℕ) (found : Option Notes) → (commit_in found ≡ Some c → least ≤ c) → commit_in (if same then marked commit found else found) ≡ Some c → min least commit ≤ c
marked_from true least commit c found from is = let at = marked_at commit c found is in omega (arith, at)
marked_from false least commit c found from is = let at = from is in omega (arith, at)

-- once a commit is marked the least is no greater than its number
pub commits_marked : (least txn commit : ℕ) (old new : List (ℕ × Notes)) → ((t : ℕ) → notes_at new t ≡ (if nat_eq txn t then marked commit (notes_at old t) else notes_at old t))
    → CommitsFrom least old → CommitsFrom (min least commit) new
commits_marked least txn commit old new marks commits t c is =
    marked_from (nat_eq txn t) least commit c (notes_at old t) (commits t c) (sym (ap commit_in (marks t)) ∙ is)

gone_from : (gone : Bool) (c : ℕ) (found : Option Notes) → commit_in (if gone then None else found) ≡ Some c → (gone ≡ false) × (commit_in found ≡ Some c)
gone_from true c found is = absurd (true≢false (sym (ap is_some is)))
gone_from false c found is = (refl, is)

-- who is forgotten leaves the others' commits
pub commits_forgotten : (gone : ℕ → Bool) (least : ℕ) (old new : Locks) → HasForgotten gone old new → CommitsFrom least old.notes → CommitsFrom least new.notes
commits_forgotten gone least old new forgets commits t c is = commits t c (gone_from (gone t) c (notes_at old.notes t) (sym (ap commit_in (forgets.notes t)) ∙ is)).1

later_from : (last c : ℕ) (found : Option ℕ) → found ≡ Some c → is_committed_by last found ≡ false → last < c
later_from last c None is none = absurd (true≢false (sym (ap is_some is)))
later_from last c (Some commit) is none = let more = leb-false commit last none in let at = ap (λ found. unwrap_or found 0) is in omega (arith, more, at)

-- once all that committed by a number are forgotten the others' numbers are greater
pub commits_dropped : (last least : ℕ) (old new : Locks) → HasForgotten (λ txn. is_committed_by last (commit_of old txn)) old new → least ≤ last + 1 → CommitsFrom least new.notes
commits_dropped last least old new forgets less t c is =
    let both = gone_from (is_committed_by last (commit_of old t)) c (notes_at old.notes t) (sym (ap commit_in (forgets.notes t)) ∙ is) in
    let later : last < c = later_from last c (commit_of old t) both.1 both.0 in
    omega (arith, less, later)

never_by : (last least : ℕ) (found : Option ℕ) → last < least → ((c : ℕ) → found ≡ Some c → least ≤ c) → is_committed_by last found ≡ false
never_by last least None less from = refl
never_by last least (Some c) less from = let at = from c refl in lt-leb c last (omega (arith, at, less))

-- nobody committed by a number below the least
pub none_committed : (last least : ℕ) (locks : Locks) → last < least → CommitsFrom least locks.notes → (txn : ℕ) → is_committed_by last (commit_of locks txn) ≡ false
none_committed last least locks less commits txn = never_by last least (commit_of locks txn) less (commits txn)

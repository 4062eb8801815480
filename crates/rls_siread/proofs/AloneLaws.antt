-- Where one transaction alone holds objects, and what calls leave then.
use Rattle.std.specs.Prelude.{◌≡◌, refl, ℕ, List, [], ◌∷◌, ◌++◌, Bool, true, false, not, ◌||◌, ◌&&◌, nat_eq, filter, cond, if◌then◌else◌, Option, Some, None, OnOk, OnErr}
use Rattle.std.specs.BTreeMap.{is_at}
use Rattle.std.specs.Map.{lookup}
use Rattle.std.specs.declared.result.Result.{Result}
use Rattle.std.specs.declared.result.Result.TheVariants.{Ok, Err}
use Rattle.std.proofs.Common.{ap, sym, subst, ◌∙◌}
use Rattle.std.proofs.lemmas.Map.Views.{any-filter_same}
use Rattle.rls_value.specs.declared.object.Object.{Object}
use Rattle.rls_value.specs.Objects.{object_order}
use Rattle.rls_source.specs.Footprints.{is_object, is_among}
use Rattle.rls_siread.specs.Locks.{Notes, Locks, numbers_in, is_number_in, held_with, held_in, held_by, objects_in, commit_in, notes_at, commit_of, HasNoted, HasForgotten}
use Rattle.rls_siread.specs.Index.{HolderList, shown, held_at, AreTold, IsIndexed, IsKept, locks_of, held_alone, holders_by, locks_by}
use Rattle.rls_siread.proofs.LocksLaws.{same_number, number_itself, without_absent, objects_put, still_told, commits_noted, commits_same}

-- ---- who holds

held_case : (same more : Bool) (txn : ℕ) (found : Option (List ℕ)) → numbers_in found ≡ (if more then txn ∷ [] else []) → numbers_in (cond same (Some (txn ∷ [])) found) ≡ (if same || more then txn ∷ [] else [])
held_case true more txn found is = refl
held_case false more txn found is = is

-- one who is alone holds just its objects
pub held_alone_at : (txn : ℕ) (objects : List Object) (object : Object) → held_in (held_alone txn objects) object ≡ (if is_among objects object then txn ∷ [] else [])
held_alone_at txn [] object = refl
held_alone_at txn (x ∷ objects) object = held_case (is_object object x) (is_among objects object) txn (lookup (is_at (object_order object)) (held_alone txn objects)) (held_alone_at txn objects object)

-- the transaction that is alone holds its own
pub itself_free : (other txn : ℕ) (notes : List (ℕ × Notes)) → other ≡ txn → (object : Object) → held_in (held_alone other (objects_in (notes_at notes other))) object ≡ (if is_among (objects_in (notes_at notes txn)) object then txn ∷ [] else [])
itself_free other txn notes same object =
    held_alone_at other (objects_in (notes_at notes other)) object ∙ ap (λ (t : ℕ). if is_among (objects_in (notes_at notes t)) object then t ∷ [] else []) same

-- where nobody holds anything the transaction has noted nothing
pub nobody_free : (holders : List (Object × List ℕ)) (notes : List (ℕ × Notes)) (txn : ℕ) → AreTold holders notes → ((object : Object) → held_in holders object ≡ [])
    → (object : Object) → held_in holders object ≡ (if is_among (objects_in (notes_at notes txn)) object then txn ∷ [] else [])
nobody_free holders notes txn told none object =
    none object ∙ ap (λ b. if b then txn ∷ [] else []) (sym (ap (λ (list : List ℕ). is_number_in list txn) (none object)) ∙ told object txn)

-- it is so whichever way the holders are told, where that one is alone
pub free_itself : (alone : Option ℕ) (entries : List (Object × HolderList)) (notes : List (ℕ × Notes)) (other txn : ℕ) → alone ≡ Some other → other ≡ txn
    → (object : Object) → held_in (holders_by alone entries notes) object ≡ (if is_among (objects_in (notes_at notes txn)) object then txn ∷ [] else [])
free_itself alone entries notes other txn one same object =
    ap (λ (a : Option ℕ). held_in (holders_by a entries notes) object) one ∙ itself_free other txn notes same object

-- where one that noted nothing is alone
pub free_nothing : (alone : Option ℕ) (entries : List (Object × HolderList)) (notes : List (ℕ × Notes)) (other txn : ℕ) → alone ≡ Some other → objects_in (notes_at notes other) ≡ []
    → AreTold (holders_by alone entries notes) notes → (object : Object) → held_in (holders_by alone entries notes) object ≡ (if is_among (objects_in (notes_at notes txn)) object then txn ∷ [] else [])
free_nothing alone entries notes other txn one nothing told =
    nobody_free (holders_by alone entries notes) notes txn told (λ object.
    ap (λ (a : Option ℕ). held_in (holders_by a entries notes) object) one ∙ ap (λ (list : List Object). held_in (held_alone other list) object) nothing)

-- where none is alone and the index is empty
pub free_index : (alone : Option ℕ) (entries : List (Object × HolderList)) (notes : List (ℕ × Notes)) (txn : ℕ) → alone ≡ None → entries ≡ []
    → AreTold (holders_by alone entries notes) notes → (object : Object) → held_in (holders_by alone entries notes) object ≡ (if is_among (objects_in (notes_at notes txn)) object then txn ∷ [] else [])
free_index alone entries notes txn none empty told =
    nobody_free (holders_by alone entries notes) notes txn told (λ object.
    ap (λ (a : Option ℕ). held_in (holders_by a entries notes) object) none ∙ ap (λ (list : List (Object × HolderList)). held_in (shown list) object) empty)

-- ---- who is told by the notes

-- notes put anew tell their holders
pub told_noted : (txn : ℕ) (objects : List Object) (old new : Locks) → HasNoted txn objects old new → AreTold old.holders old.notes → AreTold new.holders new.notes
told_noted txn objects old new noted told =
    still_told old.holders new.holders old.notes new.notes txn objects told noted.holders (objects_put old.notes new.notes txn (record { commit = commit_of old txn; objects = objects }) noted.notes)

-- and leave the commits
pub kept_noted : {X E : Type 0} (result : Result X E) (txn least : ℕ) (objects : List Object) (old new : Locks) → OnOk result (HasNoted txn objects old new) → OnErr result (new ≡ old)
    → IsKept old.holders old.notes least → IsKept new.holders new.notes least
kept_noted (Ok x) txn least objects old new noted same kept =
    record { told = told_noted txn objects old new noted kept.told; commits = commits_same least old.notes new.notes (commits_noted txn objects old new noted) kept.commits }
kept_noted (Err e) txn least objects old new noted same kept = subst (λ (locks : Locks). IsKept locks.holders locks.notes least) (sym same) kept

gone_among : (gone : Bool) (found : Option Notes) (object : Object) → (not gone && is_among (objects_in found) object) ≡ is_among (objects_in (if gone then None else found)) object
gone_among true found object = refl
gone_among false found object = refl

-- so do those that are left once some are forgotten
pub told_forgotten : (gone : ℕ → Bool) (old new : Locks) → HasForgotten gone old new → AreTold old.holders old.notes → AreTold new.holders new.notes
told_forgotten gone old new forgets told object t =
    ap (λ (list : List ℕ). is_number_in list t) (forgets.holders object)
    ∙ any-filter_same (nat_eq t) (λ other. not (gone other)) (not (gone t)) (λ k is. ap (λ n. not (gone n)) (sym (same_number t k is))) (held_by old object)
    ∙ ap (λ b. not (gone t) && b) (told object t)
    ∙ gone_among (gone t) (notes_at old.notes t) object
    ∙ ap (λ found. is_among (objects_in found) object) (sym (forgets.notes t))

-- the same objects noted are held alike
pub holders_marked : (alone : Option ℕ) (entries : List (Object × HolderList)) (notes left : List (ℕ × Notes)) → ((t : ℕ) → objects_in (notes_at left t) ≡ objects_in (notes_at notes t))
    → holders_by alone entries left ≡ holders_by alone entries notes
holders_marked None entries notes left same = refl
holders_marked (Some txn) entries notes left same = ap (held_alone txn) (same txn)

-- and tell their holders
pub told_marked : (alone : Option ℕ) (entries : List (Object × HolderList)) (notes left : List (ℕ × Notes)) → ((t : ℕ) → objects_in (notes_at left t) ≡ objects_in (notes_at notes t))
    → AreTold (holders_by alone entries notes) notes → AreTold (holders_by alone entries left) left
told_marked alone entries notes left same told object t =
    ap (λ (holders : List (Object × List ℕ)). is_number_in (held_in holders object) t) (holders_marked alone entries notes left same)
    ∙ told object t
    ∙ ap (λ (list : List Object). is_among list object) (sym (same t))

-- ---- one begins

entered_objects : (same : Bool) (commit : Option ℕ) (found : Option Notes) → (same ≡ true → found ≡ None) → objects_in (if same then Some (record { commit = commit; objects = [] }) else found) ≡ objects_in found
entered_objects true commit found none = sym (ap objects_in (none refl))
entered_objects false commit found none = refl

-- one that had no notes has noted nothing
pub entered : (alone : Option ℕ) (entries : List (Object × HolderList)) (notes left : List (ℕ × Notes)) (txn : ℕ) (objects : List Object) → AreTold (holders_by alone entries notes) notes
    → notes_at notes txn ≡ None → objects ≡ []
    → ((t : ℕ) → notes_at left t ≡ (if nat_eq txn t then Some (record { commit = commit_in (notes_at notes txn); objects = objects }) else notes_at notes t))
    → HasNoted txn objects (locks_by alone entries notes) (locks_by alone entries left)
entered alone entries notes left txn objects told none nothing puts =
    let same : holders_by alone entries left ≡ holders_by alone entries notes =
    holders_marked alone entries notes left (λ t.
    ap objects_in (puts t)
    ∙ ap (λ (list : List Object). objects_in (if nat_eq txn t then Some (record { commit = commit_in (notes_at notes txn); objects = list }) else notes_at notes t)) nothing
    ∙ entered_objects (nat_eq txn t) (commit_in (notes_at notes txn)) (notes_at notes t) (λ is. ap (notes_at notes) (sym (same_number txn t is)) ∙ none)) in
    record {
      notes = puts;
      holders = λ object.
          ap (λ (holders : List (Object × List ℕ)). held_in holders object) same
          ∙ sym (without_absent (held_in (holders_by alone entries notes) object) txn (told object txn ∙ ap (λ found. is_among (objects_in found) object) none))
          ∙ ap (λ (list : List Object). held_with (is_among list object) (held_in (holders_by alone entries notes) object) txn) (sym nothing);
    }

-- ---- one notes alone

own_case : (now was : Bool) (txn : ℕ) → (if now then txn ∷ [] else []) ≡ held_with now (if was then txn ∷ [] else []) txn
own_case true true txn = sym (ap (λ b. if b || false then txn ∷ [] else (txn ∷ []) ++ txn ∷ []) (number_itself txn))
own_case true false txn = refl
own_case false true txn = sym (ap (λ b. if not b then txn ∷ [] else []) (number_itself txn))
own_case false false txn = refl

-- where no other holds an object the transaction is alone once it notes
pub noted_alone : (holders : List (Object × List ℕ)) (notes left : List (ℕ × Notes)) (txn : ℕ) (objects : List Object)
    → ((object : Object) → held_in holders object ≡ (if is_among (objects_in (notes_at notes txn)) object then txn ∷ [] else []))
    → ((t : ℕ) → notes_at left t ≡ (if nat_eq txn t then Some (record { commit = commit_in (notes_at notes txn); objects = objects }) else notes_at notes t))
    → HasNoted txn objects (record { holders = holders; notes = notes }) (record { holders = held_alone txn (objects_in (notes_at left txn)); notes = left })
noted_alone holders notes left txn objects free puts =
    let own : objects_in (notes_at left txn) ≡ objects =
    ap objects_in (puts txn) ∙ ap (λ b. objects_in (if b then Some (record { commit = commit_in (notes_at notes txn); objects = objects }) else notes_at notes txn)) (number_itself txn) in
    record {
      notes = puts;
      holders = λ object.
          held_alone_at txn (objects_in (notes_at left txn)) object
          ∙ ap (λ (list : List Object). if is_among list object then txn ∷ [] else []) own
          ∙ own_case (is_among objects object) (is_among (objects_in (notes_at notes txn)) object) txn
          ∙ ap (λ (held : List ℕ). held_with (is_among objects object) held txn) (sym (free object));
    }

-- ---- one notes beside another

-- an index in which each holds what it held is told by the same notes
pub told_index : (holders : List (Object × List ℕ)) (entries : List (Object × HolderList)) (notes : List (ℕ × Notes)) → ((object : Object) → held_at entries object ≡ held_in holders object) → AreTold holders notes → IsIndexed entries notes
told_index holders entries notes same told object t = ap (λ (list : List ℕ). is_number_in list t) (same object) ∙ told object t

-- what is noted over it is noted
pub noted_over : (holders : List (Object × List ℕ)) (entries : List (Object × HolderList)) (notes : List (ℕ × Notes)) (txn : ℕ) (objects : List Object) (new : Locks) → ((object : Object) → held_at entries object ≡ held_in holders object)
    → HasNoted txn objects (locks_of entries notes) new → HasNoted txn objects (record { holders = holders; notes = notes }) new
noted_over holders entries notes txn objects new same noted = record {
  notes = noted.notes;
  holders = λ object. noted.holders object ∙ ap (λ (held : List ℕ). held_with (is_among objects object) held txn) (same object);
}

-- ---- some are forgotten

gone_case : (test among : Bool) (gone : ℕ → Bool) (txn : ℕ) → gone txn ≡ test → (if not test && among then txn ∷ [] else []) ≡ filter (λ t. not (gone t)) (if among then txn ∷ [] else [])
gone_case true true gone txn is = sym (ap (λ b. if not b then txn ∷ [] else []) is)
gone_case true false gone txn is = refl
gone_case false true gone txn is = sym (ap (λ b. if not b then txn ∷ [] else []) is)
gone_case false false gone txn is = refl

-- where one is alone nobody else is missed
pub forgotten_alone : (txn : ℕ) (entries others : List (Object × HolderList)) (notes left : List (ℕ × Notes)) (gone : ℕ → Bool) → ((t : ℕ) → notes_at left t ≡ (if gone t then None else notes_at notes t))
    → HasForgotten gone (locks_by (Some txn) entries notes) (locks_by (Some txn) others left)
forgotten_alone txn entries others notes left gone forgets = record {
  notes = forgets;
  holders = λ object.
      held_alone_at txn (objects_in (notes_at left txn)) object
      ∙ ap (λ (found : Option Notes). if is_among (objects_in found) object then txn ∷ [] else []) (forgets txn)
      ∙ ap (λ b. if b then txn ∷ [] else []) (sym (gone_among (gone txn) (notes_at notes txn) object))
      ∙ gone_case (gone txn) (is_among (objects_in (notes_at notes txn)) object) gone txn refl
      ∙ ap (filter (λ t. not (gone t))) (sym (held_alone_at txn (objects_in (notes_at notes txn)) object));
}

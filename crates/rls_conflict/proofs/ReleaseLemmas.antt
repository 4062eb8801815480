-- Those that hold objects no longer, one at a time.
use Rattle.std.specs.Prelude.{◌≡◌, refl, ◌≤◌, ◌+◌, ℕ, min, List, [], ◌∷◌, Bool, true, false, not, ◌&&◌, ◌||◌, nat_eq, slice_get, cond, if◌then◌else◌, Some}
use Rattle.std.specs.List.{list_any}
use Rattle.std.specs.Map.{values_of}
use Rattle.std.specs.Ordering.{nat_cmp, is_eq}
use Rattle.std.proofs.Common.{ap, sym, ◌∙◌, inl, inr, arith}
use Rattle.std.proofs.lemmas.Bool.{and_parts, cases_order, false_from_ne_true}
use Rattle.std.proofs.lemmas.Option.{same_Some}
use Rattle.rls_value.specs.declared.object.Object.{Object}
use Rattle.rls_source.specs.Footprints.{is_among}
use Rattle.rls_siread.specs.Locks.{is_number_in, without}
use Rattle.rls_siread.specs.Index.{HolderList, held_at}
use Rattle.rls_siread.proofs.LocksLaws.{same_number, number_itself, number_without, without_twice}
use Rattle.rls_conflict.specs.declared.committed.Committed.{Committed}
use Rattle.rls_conflict.specs.Begun.{Begun, at_number, least_snap}
use Rattle.rls_conflict.specs.Kept.{IsReleased}

-- ---- the oldest snapshot

pub least_within : (n : ℕ) (its : List Begun) → least_snap n its ≤ n
least_within n [] = omega arith
least_within n (it ∷ more) = let h = least_within (min n it.snap) more in omega arith

pub least_begun : (n : ℕ) (entries : List (ℕ × Begun)) (txn : ℕ) (it : Begun) → at_number txn entries ≡ Some it → least_snap n (values_of entries) ≤ it.snap
least_begun n [] txn it is = let no : ⊥ = cc in absurd no
least_begun n (e ∷ es) txn it is = case (is_eq (nat_cmp txn e.0)) refl (least_begun (min n e.1.snap) es txn it)
  where
    case : (b : Bool) → is_eq (nat_cmp txn e.0) ≡ b → (at_number txn es ≡ Some it → least_snap (min n e.1.snap) (values_of es) ≤ it.snap) → least_snap (min n e.1.snap) (values_of es) ≤ it.snap
    case true here later =
        let same : e.1 ≡ it = same_Some e.1 it (sym (ap (λ b. cond b (Some e.1) (at_number txn es)) here) ∙ is) in
        let snap = ap (λ (begun : Begun). begun.snap) same in
        let h = least_within (min n e.1.snap) (values_of es) in omega arith
    case false further later = later (sym (ap (λ b. cond b (Some e.1) (at_number txn es)) further) ∙ is)

-- ---- one that committed

released_case : (covered same : Bool) (txns : List ℕ) (number txn : ℕ) → nat_eq txn number ≡ same
    → is_number_in (if covered then without txns number else txns) txn ≡ (not (same && covered) && is_number_in txns txn)
released_case true true txns number txn is = number_without txns number txn ∙ ap (λ b. not b && is_number_in txns txn) is
released_case true false txns number txn is = number_without txns number txn ∙ ap (λ b. not b && is_number_in txns txn) is
released_case false true txns number txn is = refl
released_case false false txns number txn is = refl

pub released_one : (old new : List (Object × HolderList)) (covered : List Object) (number : ℕ)
    → ((object : Object) → held_at new object ≡ (if is_among covered object then without (held_at old object) number else held_at old object))
    → (object : Object) (txn : ℕ) → is_number_in (held_at new object) txn ≡ (not (nat_eq txn number && is_among covered object) && is_number_in (held_at old object) txn)
released_one old new covered number leaves object txn =
    ap (λ txns. is_number_in txns txn) (leaves object) ∙ released_case (is_among covered object) (nat_eq txn number) (held_at old object) number txn refl

pub released_none : (committed : List Committed) (from : ℕ) (writers : List (Object × HolderList)) → IsReleased committed from from writers writers
released_none committed from writers = record {
  gone = λ place it there above below. absurd (omega arith);
  kept = λ txn apart object. refl;
  fewer = λ txn object is. is;
}

pub released_next : (committed : List Committed) (from to : ℕ) (old now new : List (Object × HolderList)) (it : Committed) → slice_get committed to ≡ Some it → from ≤ to → IsReleased committed from to old now
    → ((object : Object) (txn : ℕ) → is_number_in (held_at new object) txn ≡ (not (nat_eq txn it.transaction.number && is_among it.covered object) && is_number_in (held_at now object) txn))
    → IsReleased committed from (to + 1) old new
released_next committed from to old now new it there within before leaves = record {
  gone = λ place one stands above below object among. elim (cases_order place to) [
    | inl here ↦ (let same : one ≡ it = same_Some one it (sym stands ∙ ap (slice_get committed) here ∙ there) in
        leaves object one.transaction.number
        ∙ ap (λ b. not (b && is_among it.covered object) && is_number_in (held_at now object) one.transaction.number) (ap (λ (e : Committed). nat_eq one.transaction.number e.transaction.number) (sym same) ∙ number_itself one.transaction.number)
        ∙ ap (λ b. not b && is_number_in (held_at now object) one.transaction.number) (ap (λ (e : Committed). is_among e.covered object) (sym same) ∙ among))
    | inr apart ↦ elim apart [
      | inl earlier ↦ leaves object one.transaction.number ∙ gone_still (not (nat_eq one.transaction.number it.transaction.number && is_among it.covered object)) (before.gone place one stands above earlier object among)
      | inr later ↦ absurd (omega arith)
    ]
  ];
  kept = λ txn apart object.
      leaves object txn
      ∙ ap (λ b. not (b && is_among it.covered object) && is_number_in (held_at now object) txn)
      (false_from_ne_true (nat_eq txn it.transaction.number) (λ same. apart to it there within (omega arith) (sym (same_number txn it.transaction.number same))))
      ∙ before.kept txn (λ place one stands above below. apart place one stands above (omega arith)) object;
  fewer = λ txn object is.
      before.fewer txn object (and_parts (not (nat_eq txn it.transaction.number && is_among it.covered object)) (is_number_in (held_at now object) txn) (sym (leaves object txn) ∙ is)).1;
}
  where
    gone_still : (a : Bool) {b : Bool} → b ≡ false → (a && b) ≡ false
    gone_still true is = is
    gone_still false is = refl

-- ---- the parts of one that runs

either_case : (first rest : Bool) (held : List ℕ) (txn : ℕ)
    → (if rest then without (if first then without held txn else held) txn else (if first then without held txn else held)) ≡ (if first || rest then without held txn else held)
either_case true true held txn = without_twice txn held
either_case true false held txn = refl
either_case false true held txn = refl
either_case false false held txn = refl

pub parts_next : (now new : List (Object × HolderList)) (txn : ℕ) (part : List Object) (rest : List (List Object))
    → ((object : Object) → held_at new object ≡ (if is_among part object then without (held_at now object) txn else held_at now object))
    → (object : Object) → (if list_any (λ part. is_among part object) rest then without (held_at new object) txn else held_at new object)
    ≡ (if list_any (λ part. is_among part object) (part ∷ rest) then without (held_at now object) txn else held_at now object)
parts_next now new txn part rest leaves object =
    ap (λ held. if list_any (λ part. is_among part object) rest then without held txn else held) (leaves object)
    ∙ either_case (is_among part object) (list_any (λ part. is_among part object) rest) (held_at now object) txn

-- The places of those that committed since and pass a test, one after another.
use Rattle.std.specs.Prelude.{◌≡◌, refl, ℕ, zero, suc, List, [], ◌∷◌, ◌+◌, ◌≤◌, Bool, true, false, ◌&&◌, ◌||◌, nat_eq, nat_le, nat_lt, length, slice_get, Some, None}
use Rattle.std.proofs.Common.{ap, sym, ◌∙◌, inl, inr, arith}
use Rattle.std.proofs.lemmas.Bool.{and_left, and_right, and_from, or_right, cases_lt, lt-ltb, le-ltb, lt-leb, eq-eqb, ne_eqb}
use Rattle.rls_value.specs.declared.object.Object.{Object}
use Rattle.rls_siread.specs.Locks.{Locks}
use Rattle.rls_siread.specs.Index.{HolderList}
use Rattle.rls_conflict.specs.declared.committed.Access.TheVariants.{Read, Write}
use Rattle.rls_conflict.specs.declared.committed.Committed.{Committed}
use Rattle.rls_conflict.specs.Search.{passes, holds_at}
use Rattle.rls_conflict.specs.Concurrent.{has_accessed, holds_since, is_place_of_reader, is_place_of_writer, AreReadersTold, AreWritersTold}

nothing_more : (was b : Bool) → b ≡ false → was ≡ (was || b)
nothing_more true b none = refl
nothing_more false b none = sym none

none_behind : (committed : List Committed) (place : ℕ) → length committed ≤ place → slice_get committed place ≡ None
none_behind [] place behind = refl
none_behind (x ∷ xs) zero behind = absurd (omega arith)
none_behind (x ∷ xs) (suc place) behind = none_behind xs place (omega arith)

module _ (test : Committed → Bool) (committed : List Committed) (snap : ℕ) where
  -- none before the first
  pub since_begins : (was : Bool) (place : ℕ) → was ≡ (was || (nat_lt place snap && holds_since test committed snap place))
  since_begins was place = nothing_more was (nat_lt place snap && holds_since test committed snap place) (elim (cases_lt place snap) [
    | inl before ↦ and_right (nat_lt place snap) (holds_since test committed snap place) (and_left (nat_le snap place) (holds_at test committed place) (lt-leb snap place before))
    | inr after ↦ and_left (nat_lt place snap) (holds_since test committed snap place) (le-ltb place snap after)
  ])

  -- one more that passes
  pub since_put : (was before now : Bool) (other place : ℕ) → holds_since test committed snap other ≡ true → before ≡ (was || (nat_lt place other && holds_since test committed snap place))
      → now ≡ (nat_eq place other || before) → now ≡ (was || (nat_lt place (other + 1) && holds_since test committed snap place))
  since_put was before now other place passing so_far put = put ∙ elim (cases_lt place other) [
    | inl less ↦
        ap (λ b. b || before) (ne_eqb place other (λ same. omega arith))
        ∙ so_far
        ∙ ap (λ b. was || (b && holds_since test committed snap place)) (lt-ltb place other less ∙ sym (lt-ltb place (other + 1) (omega arith)))
    | inr more ↦ elim (cases_lt other place) [
      | inl above ↦
          ap (λ b. b || before) (ne_eqb place other (λ same. omega arith))
          ∙ so_far
          ∙ ap (λ b. was || (b && holds_since test committed snap place)) (le-ltb place other more ∙ sym (le-ltb place (other + 1) (omega arith)))
      | inr below ↦
          (let same : place ≡ other = omega arith in
          ap (λ b. b || before) (eq-eqb place other same)
          ∙ sym (or_right was (nat_lt place (other + 1) && holds_since test committed snap place)
          (and_from (nat_lt place (other + 1)) (holds_since test committed snap place) (lt-ltb place (other + 1) (omega arith)) (ap (holds_since test committed snap) same ∙ passing))))
    ]
  ]

  -- one more that doesn't
  pub since_passed : (was before : Bool) (other place : ℕ) → holds_since test committed snap other ≡ false → before ≡ (was || (nat_lt place other && holds_since test committed snap place))
      → before ≡ (was || (nat_lt place (other + 1) && holds_since test committed snap place))
  since_passed was before other place failing so_far = so_far ∙ ap (λ b. was || b) (elim (cases_lt place other) [
    | inl less ↦ ap (λ b. b && holds_since test committed snap place) (lt-ltb place other less ∙ sym (lt-ltb place (other + 1) (omega arith)))
    | inr more ↦ elim (cases_lt other place) [
      | inl above ↦ ap (λ b. b && holds_since test committed snap place) (le-ltb place other more ∙ sym (le-ltb place (other + 1) (omega arith)))
      | inr below ↦
          (let same : place ≡ other = omega arith in
          and_left (nat_lt place other) (holds_since test committed snap place) (le-ltb place other more)
          ∙ sym (and_right (nat_lt place (other + 1)) (holds_since test committed snap place) (ap (holds_since test committed snap) same ∙ failing)))
    ]
  ])

  -- none behind the last
  pub since_ends : (was now : Bool) (end place : ℕ) → length committed ≤ end → now ≡ (was || (nat_lt place end && holds_since test committed snap place)) → now ≡ (was || holds_since test committed snap place)
  since_ends was now end place all so_far = so_far ∙ ap (λ b. was || b) (elim (cases_lt place end) [
    | inl before ↦ ap (λ b. b && holds_since test committed snap place) (lt-ltb place end before)
    | inr behind ↦
        and_left (nat_lt place end) (holds_since test committed snap place) (le-ltb place end behind)
        ∙ sym (and_right (nat_le snap place) (holds_at test committed place) (ap (passes test) (none_behind committed place (omega arith))))
  ])

  -- whether the one at the place passes
  pub since_tells : (other : ℕ) (it : Committed) (result : Bool) → slice_get committed other ≡ Some it → nat_le snap other ≡ true → result ≡ test it → holds_since test committed snap other ≡ result
  since_tells other it result there within is = (λ i. within i && passes test (there i)) ∙ sym is

  -- nobody committed since
  pub nobody_since : (place : ℕ) → length committed ≤ snap → holds_since test committed snap place ≡ false
  nobody_since place all = elim (cases_lt place snap) [
    | inl before ↦ and_left (nat_le snap place) (holds_at test committed place) (lt-leb snap place before)
    | inr after ↦ and_right (nat_le snap place) (holds_at test committed place) (ap (passes test) (none_behind committed place (omega arith)))
  ]

-- where nobody committed since, nobody read an object and committed since
pub no_reader_since : (committed : List Committed) (locks : Locks) (snap : ℕ) → AreReadersTold committed locks snap → length committed ≤ snap → (objects : List Object) (place : ℕ) → is_place_of_reader locks snap objects place ≡ false
no_reader_since committed locks snap told all [] place = refl
no_reader_since committed locks snap told all (object ∷ objects) place =
    (λ i. (told object place ∙ nobody_since (has_accessed Read object) committed snap place all) i || no_reader_since committed locks snap told all objects place i)

-- nor wrote one
pub no_writer_since : (committed : List Committed) (writers : List (Object × HolderList)) (locks : Locks) (snap : ℕ) → AreWritersTold committed writers locks snap → length committed ≤ snap → (objects : List Object) (place : ℕ)
    → is_place_of_writer writers locks snap objects place ≡ false
no_writer_since committed writers locks snap told all [] place = refl
no_writer_since committed writers locks snap told all (object ∷ objects) place =
    (λ i. (told object place ∙ nobody_since (has_accessed Write object) committed snap place all) i || no_writer_since committed writers locks snap told all objects place i)

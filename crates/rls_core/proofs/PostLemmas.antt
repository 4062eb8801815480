-- The test at a post is true exactly where a concurrent transaction wrote an object that the changes write.
use Rattle.std.specs.Prelude.{◌≡◌, ℕ, zero, suc, ◌<◌, ◌==◌, leb, Bool, true, ◌&&◌, not, List, length}
use Rattle.std.proofs.Common.{sym, subst, inl, inr, arith, ne_eqb}
use Rattle.std.proofs.lemmas.Bool.{true≢false, or_cases, or_left, or_right, and_parts, and_from, not-true, not_from_false, eqb-false, le-leb, leb-true, cases_eq}
use Rattle.rls_catalog.specs.declared.change.Change.{Change}
use Rattle.rls_history.specs.History.{any_below}
use Rattle.rls_conflict.specs.Laws.{CommonObjectsAreWritten}
use Rattle.rls_conflict.specs.Written.{write_common}
use Rattle.rls_core.specs.Records.{record_at}
use Rattle.rls_core.specs.Events.{World, changes_by, is_taken}
use Rattle.rls_core.specs.Headline.{IsTaken, PostsAreTested}

-- a search of the numbers below
below_some : (test : ℕ → Bool) (n : ℕ) → any_below test n ≡ true → (i : ℕ) × (i < n) × (test i ≡ true)
below_some test zero is = absurd (true≢false (sym is))
below_some test (suc n) is = elim (or_cases (test n) (any_below test n) is) [
  | inl here ↦ (n, omega arith, here)
  | inr later ↦ (let r = below_some test n later in (r.0, (let less = r.1 in omega arith), r.2))
]

below_from : (test : ℕ → Bool) (n i : ℕ) → i < n → test i ≡ true → any_below test n ≡ true
below_from test zero i less is = (let none : ⊥ = omega arith in absurd none)
below_from test (suc n) i less is = elim (cases_eq i n) [
  | inl same ↦ or_left (test n) (any_below test n) (subst (λ k. test k ≡ true) same is)
  | inr other ↦ or_right (test n) (any_below test n) (below_from test n i (omega arith) is)
]

module _ (common : CommonObjectsAreWritten) (world : World) (txn snap : ℕ) (changes : List Change) where
  abbrev since : ℕ → Bool
  since place = leb snap place && write_common changes (record_at world.committed place).changes

  abbrev beside : ℕ → Bool
  beside other = not (other == txn) && write_common changes (changes_by (world.running other))

  taken_from : is_taken world txn snap changes ≡ true → IsTaken world txn snap changes
  taken_from is = elim (or_cases (any_below since (length world.committed)) (any_below beside world.next) is) [
    | inl committed ↦
        (let found = below_some since (length world.committed) committed in
        let parts = and_parts (leb snap found.0) (write_common changes (record_at world.committed found.0).changes) found.2 in
        inl (found.0, leb-true _ _ parts.0, found.1, (common changes (record_at world.committed found.0).changes).0 parts.1))
    | inr running ↦
        (let found = below_some beside world.next running in
        let parts = and_parts (not (found.0 == txn)) (write_common changes (changes_by (world.running found.0))) found.2 in
        inr (found.0, found.1, eqb-false _ _ (not-true _ parts.0), (common changes (changes_by (world.running found.0))).0 parts.1))
  ]

  taken_to : IsTaken world txn snap changes → is_taken world txn snap changes ≡ true
  taken_to taken = elim taken [
    | inl it ↦ or_left (any_below since (length world.committed)) (any_below beside world.next)
        (below_from since (length world.committed) it.0 it.2 (and_from _ _ (le-leb _ _ it.1) ((common changes (record_at world.committed it.0).changes).1 it.3)))
    | inr it ↦ or_right (any_below since (length world.committed)) (any_below beside world.next)
        (below_from beside world.next it.0 it.1 (and_from _ _ (not_from_false _ (ne_eqb _ _ it.2)) ((common changes (changes_by (world.running it.0))).1 it.3)))
  ]

pub posts_tested : CommonObjectsAreWritten → PostsAreTested
posts_tested common world txn snap changes = (taken_from common world txn snap changes, taken_to common world txn snap changes)

-- Those that committed, by the list that keeps them, and one more of them.
use Rattle.std.specs.Prelude.{◌≡◌, refl, ℕ, zero, suc, List, [], ◌∷◌, ◌++◌, ◌<◌, ◌≤◌, ◌⊎◌, Bool, true, false, not, ◌&&◌, ◌||◌, nat_eq, nat_lt, length, map, slice_get, get_or, Option, Some, None}
use Rattle.std.specs.List.{All, list_any}
use Rattle.std.specs.Option.{option_map}
use Rattle.std.proofs.Common.{ap, sym, ◌∙◌, subst, arith, inl, inr}
use Rattle.std.proofs.lemmas.Bool.{ltb-true, cases_lt, or_left, or_right}
use Rattle.std.proofs.lemmas.List.{length-map, map_push, get_or_past}
use Rattle.std.proofs.lemmas.List.Elements.{All-map}
use Rattle.std.proofs.lemmas.Option.{slice_get_within}
use Rattle.rls_siread.specs.Locks.{Locks}
use Rattle.rls_siread.specs.Covering.{covered_of}
use Rattle.rls_history.specs.History.{rw}
use Rattle.rls_conflict.specs.declared.committed.Committed.{Committed}
use Rattle.rls_conflict.specs.Transactions.{Transaction, nobody, at, reads_from, history_of}
use Rattle.rls_conflict.specs.Begun.{Begun, at_number}
use Rattle.rls_conflict.specs.Commits.{is_place_in, AreReadBy, AreReadersOf}
use Rattle.rls_conflict.specs.Known.{has_number, running_of, AreFound, HaveBegun}
use Rattle.rls_conflict.specs.Kept.{committed_seen, all_committed, running_seen, known_by, IsEntry, AreEntries, IsWhole}
use Rattle.rls_conflict.proofs.RunningLemmas.{found_running}

-- ---- numbers

-- one that stands there has the number
pub any_at : (committed : List Committed) (txn place : ℕ) (it : Committed) → slice_get committed place ≡ Some it → has_number txn (committed_seen it) ≡ true → list_any (has_number txn) (all_committed committed) ≡ true
any_at [] txn place it is has = cc
any_at (x ∷ xs) txn zero it is has = let same : x ≡ it = cc in or_left (has_number txn (committed_seen x)) (list_any (has_number txn) (all_committed xs)) (ap (λ y. has_number txn (committed_seen y)) same ∙ has)
any_at (x ∷ xs) txn (suc place) it is has = or_right (has_number txn (committed_seen x)) (list_any (has_number txn) (all_committed xs)) (any_at xs txn place it is has)

-- ---- places

pub there_within : (committed : List Committed) (place : ℕ) (it : Committed) → slice_get committed place ≡ Some it → place < length committed
there_within committed place it is = slice_get_within committed place it is

pub within_there : (committed : List Committed) (place : ℕ) → place < length committed → (it : Committed) × (slice_get committed place ≡ Some it)
within_there [] place within = absurd (omega arith)
within_there (x ∷ xs) zero within = (x, refl)
within_there (x ∷ xs) (suc place) within = within_there xs place (omega arith)

-- the one at a place, whoever commits later
pub at_kept : (committed : List Committed) (more : List Transaction) (place : ℕ) (it : Committed) → slice_get committed place ≡ Some it → at (all_committed committed ++ more) place ≡ it.transaction
at_kept [] more place it is = cc
at_kept (x ∷ xs) more zero it is = let same : x ≡ it = cc in ap committed_seen same
at_kept (x ∷ xs) more (suc place) it is = at_kept xs more place it is

pub at_seen : (committed : List Committed) (place : ℕ) (it : Committed) → slice_get committed place ≡ Some it → at (all_committed committed) place ≡ it.transaction
at_seen [] place it is = cc
at_seen (x ∷ xs) zero it is = let same : x ≡ it = cc in ap committed_seen same
at_seen (x ∷ xs) (suc place) it is = at_seen xs place it is

-- one that stands in the list, or the new one behind it
pub old_or_new : (committed : List Committed) (new : Committed) (place : ℕ) (it : Committed) → slice_get (committed ++ new ∷ []) place ≡ Some it
    → (slice_get committed place ≡ Some it) ⊎ ((place ≡ length committed) × (it ≡ new))
old_or_new [] new zero it is = let same : it ≡ new = cc in inr (refl, same)
old_or_new [] new (suc place) it is = let none : ⊥ = cc in absurd none
old_or_new (x ∷ xs) new zero it is = inl is
old_or_new (x ∷ xs) new (suc place) it is = elim (old_or_new xs new place it is) [
  | inl old ↦ inl old
  | inr last ↦ let here = last.0 in let there : suc place ≡ length (x ∷ xs) = omega arith in inr (there, last.1)
]

-- who stood there still does
pub still_there : (committed : List Committed) (new : Committed) (place : ℕ) (it : Committed) → slice_get committed place ≡ Some it → slice_get (committed ++ new ∷ []) place ≡ Some it
still_there [] new place it is = let none : ⊥ = cc in absurd none
still_there (x ∷ xs) new zero it is = is
still_there (x ∷ xs) new (suc place) it is = still_there xs new place it is

-- the new one is the last
pub new_there : (committed : List Committed) (new : Committed) → slice_get (committed ++ new ∷ []) (length committed) ≡ Some new
new_there [] new = refl
new_there (x ∷ xs) new = new_there xs new

-- ---- rw-antidependencies among those that were there stay

-- between two, by themselves and their places
abbrev edge : Transaction → Transaction → ℕ → ℕ → Bool
edge one other i j = (not (nat_eq i j) && not (nat_lt i other.snap) && not (nat_lt j one.snap)) && reads_from one.noted other.changes

rw_at : (transactions : List Transaction) (i j : ℕ) (one other : Transaction) → at transactions i ≡ one → at transactions j ≡ other → rw (history_of transactions) i j ≡ edge one other i j
rw_at transactions i j one other first second = λ k. edge (first k) (second k) i j

rw_between : (committed : List Committed) (more : List Transaction) (i j : ℕ) (one other : Committed) → slice_get committed i ≡ Some one → slice_get committed j ≡ Some other
    → rw (history_of (all_committed committed ++ more)) i j ≡ rw (history_of (all_committed committed)) i j
rw_between committed more i j one other first second =
    rw_at (all_committed committed ++ more) i j one.transaction other.transaction (at_kept committed more i one first) (at_kept committed more j other second)
    ∙ sym (rw_at (all_committed committed) i j one.transaction other.transaction (at_seen committed i one first) (at_seen committed j other second))

pushed : (committed : List Committed) (new : Committed) → all_committed (committed ++ new ∷ []) ≡ all_committed committed ++ new.transaction ∷ []
pushed committed new = map_push committed_seen committed new

-- an entry stays one where another commits
entry_stays : (committed : List Committed) (new : Committed) (place : ℕ) (it : Committed) → slice_get committed place ≡ Some it → IsEntry committed place it → IsEntry (committed ++ new ∷ []) place it
entry_stays committed new place it there entry = record {
  began = entry.began;
  covered = entry.covered;
  read = λ other. entry.read other ∙ to_test other (nat_lt other place) refl;
  readers = λ other. entry.readers other ∙ from_test other (nat_lt other place) refl;
}
  where
    to_test : (other : ℕ) (b : Bool) → nat_lt other place ≡ b → (b && rw (history_of (all_committed committed)) place other) ≡ (b && rw (history_of (all_committed (committed ++ new ∷ []))) place other)
    to_test other true is =
        let less = ltb-true other place is in
        let within = there_within committed place it there in
        let found = within_there committed other (omega arith) in
        sym (ap (λ them. rw (history_of them) place other) (pushed committed new) ∙ rw_between committed (new.transaction ∷ []) place other it found.0 there found.1)
    to_test other false is = refl

    from_test : (other : ℕ) (b : Bool) → nat_lt other place ≡ b → (b && rw (history_of (all_committed committed)) other place) ≡ (b && rw (history_of (all_committed (committed ++ new ∷ []))) other place)
    from_test other true is =
        let less = ltb-true other place is in
        let within = there_within committed place it there in
        let found = within_there committed other (omega arith) in
        sym (ap (λ them. rw (history_of them) other place) (pushed committed new) ∙ rw_between committed (new.transaction ∷ []) other place found.0 it found.1 there)
    from_test other false is = refl

-- a new one, with its rw-antidependencies with those before it, is one too
pub entries_pushed : (committed : List Committed) (new : Committed) → AreEntries committed → new.transaction.snap ≤ length committed → new.covered ≡ covered_of new.transaction.changes
    → AreReadBy (all_committed committed ++ new.transaction ∷ []) (length committed) new.read.items → AreReadersOf (all_committed committed ++ new.transaction ∷ []) (length committed) new.readers.items
    → AreEntries (committed ++ new ∷ [])
entries_pushed committed new entries began covered read readers place it there = elim (old_or_new committed new place it there) [
  | inl old ↦ entry_stays committed new place it old (entries place it old)
  | inr last ↦ subst (λ (n : ℕ). IsEntry (committed ++ new ∷ []) n it) (sym last.0) (subst (λ (e : Committed). IsEntry (committed ++ new ∷ []) (length committed) e) (sym last.1) (record {
    began = began;
    covered = covered;
    read = λ other. read other ∙ ap (λ them. nat_lt other (length committed) && rw (history_of them) (length committed) other) (sym (pushed committed new));
    readers = λ other. readers other ∙ ap (λ them. nat_lt other (length committed) && rw (history_of them) other (length committed)) (sym (pushed committed new));
  }))
]

-- ---- what holds of all that is known

pub all_found : (committed : List Committed) (running : List (ℕ × Begun)) (locks : Locks) → All (λ e. at_number e.0 running ≡ Some e.1) running → AreFound (known_by committed running locks)
all_found committed running locks found =
    All-map (λ (txn : Transaction). running_of (known_by committed running locks) txn.number ≡ Some txn) (running_seen locks) running
    (λ k d within. found_running locks (get_or running k d).0 running ∙ ap (option_map (λ it. running_seen locks ((get_or running k d).0, it))) (found k d within))

pub all_begun : (committed : List Committed) (running : List (ℕ × Begun)) (locks : Locks)
    → All (λ e. at_number e.0 running ≡ Some e.1) running → ((txn : ℕ) (it : Begun) → at_number txn running ≡ Some it → it.snap ≤ length committed) → AreEntries committed → HaveBegun (known_by committed running locks)
all_begun committed running locks found snaps entries = record {
  running = All-map (λ (txn : Transaction). txn.snap ≤ length (all_committed committed)) (running_seen locks) running
      (λ k d within. subst (λ (n : ℕ). (get_or running k d).1.snap ≤ n) (sym (length-map committed committed_seen)) (snaps (get_or running k d).0 (get_or running k d).1 (found k d within)));
  committed = λ place. elim (cases_lt place (length committed)) [
    | inl within ↦ (let there = within_there committed place within in subst (λ (txn : Transaction). txn.snap ≤ place) (sym (at_seen committed place there.0 there.1)) (entries place there.0 there.1).began)
    | inr past ↦ (let size = length-map committed committed_seen in subst (λ (txn : Transaction). txn.snap ≤ place) (sym (get_or_past (all_committed committed) place nobody (omega arith))) (omega arith))
  ];
}

-- The rw-antidependencies between committed transactions and one that commits now, as their history has them.
use Rattle.std.specs.Prelude.{◌≡◌, refl, ℕ, zero, suc, ◌==◌, ltb, List, [], ◌∷◌, ◌++◌, ◌<◌, ◌≤◌, Bool, true, false, not, ◌&&◌, nat_eq, nat_le, nat_lt, length, slice_get, Some}
use Rattle.std.proofs.Common.{ap, sym, ◌∙◌, arith, inl, inr}
use Rattle.std.proofs.lemmas.Bool.{false≢true, cases_lt, ne_eqb, lt-ltb, le-ltb, le-leb, lt-leb}
use Rattle.rls_history.specs.History.{rw}
use Rattle.rls_conflict.specs.declared.committed.Committed.{Committed}
use Rattle.rls_conflict.specs.Transactions.{Transaction, at, reads_from, history_of}
use Rattle.rls_conflict.specs.Kept.{committed_seen, all_committed}
use Rattle.rls_conflict.specs.Dangers.{with_last}

-- ---- places

-- who stands at a place, whoever commits after
pub at_kept : (committed : List Committed) (more : List Transaction) (place : ℕ) (it : Committed) → slice_get committed place ≡ Some it
    → at (all_committed committed ++ more) place ≡ committed_seen it
at_kept [] more place it is = cc
at_kept (x ∷ xs) more zero it is = let same : x ≡ it = cc in ap committed_seen same
at_kept (x ∷ xs) more (suc place) it is = at_kept xs more place it is

pub at_seen : (committed : List Committed) (place : ℕ) (it : Committed) → slice_get committed place ≡ Some it → at (all_committed committed) place ≡ committed_seen it
at_seen [] place it is = cc
at_seen (x ∷ xs) zero it is = let same : x ≡ it = cc in ap committed_seen same
at_seen (x ∷ xs) (suc place) it is = at_seen xs place it is

pub at_last : (committed : List Committed) (last : Transaction) → at (with_last committed last) (length committed) ≡ last
at_last [] last = refl
at_last (x ∷ xs) last = at_last xs last

pub there_within : (committed : List Committed) (place : ℕ) (it : Committed) → slice_get committed place ≡ Some it → place < length committed
there_within [] place it is = cc
there_within (x ∷ xs) zero it is = omega arith
there_within (x ∷ xs) (suc place) it is = let h = there_within xs place it is in omega arith

pub within_there : (committed : List Committed) (place : ℕ) → place < length committed → (it : Committed) × (slice_get committed place ≡ Some it)
within_there [] place within = absurd (omega arith)
within_there (x ∷ xs) zero within = (x, refl)
within_there (x ∷ xs) (suc place) within = within_there xs place (omega arith)

-- ---- rw-antidependencies

-- by the two transactions and their places
abbrev pub edge : Transaction → Transaction → ℕ → ℕ → Bool
edge one other i j = (not (i == j) && not (ltb i other.snap) && not (ltb j one.snap)) && reads_from one.noted other.changes

pub rw_at : (transactions : List Transaction) (i j : ℕ) (one other : Transaction) → at transactions i ≡ one → at transactions j ≡ other → rw (history_of transactions) i j ≡ edge one other i j
rw_at transactions i j one other first second = λ k. edge (first k) (second k) i j

not_lt : (a b : ℕ) → not (nat_lt a b) ≡ nat_le b a
not_lt a b = elim (cases_lt a b) [
  | inl below ↦ ap not (lt-ltb a b below) ∙ sym (lt-leb b a below)
  | inr above ↦ ap not (le-ltb a b above) ∙ sym (le-leb b a above)
]

in_parts : (a b c d e : Bool) → a ≡ true → b ≡ d → c ≡ true → ((a && b && c) && e) ≡ (d && e)
in_parts true true true d e ise isd isc = ap (λ x. x && e) isd
in_parts true false true d e ise isd isc = ap (λ x. x && e) isd
in_parts true b false d e ise isd isc = absurd (false≢true isc)
in_parts false b c d e ise isd isc = absurd (false≢true ise)

out_parts : (a b c d e : Bool) → a ≡ true → b ≡ true → c ≡ d → ((a && b && c) && e) ≡ (d && e)
out_parts true true c d e ise isb isd = ap (λ x. x && e) isd
out_parts true false c d e ise isb isd = absurd (false≢true isb)
out_parts false b c d e ise isb isd = absurd (false≢true ise)

module _ (committed : List Committed) (last : Transaction) (place : ℕ) (it : Committed) (is : slice_get committed place ≡ Some it) (began : it.transaction.snap ≤ place) where
  -- one that began before it committed noted what the last one changed
  pub edge_in : rw (history_of (with_last committed last)) place (length committed) ≡ (nat_le last.snap place && reads_from it.transaction.noted last.changes)
  edge_in =
      let within = there_within committed place it is in
      rw_at (with_last committed last) place (length committed) (committed_seen it) last (at_kept committed (last ∷ []) place it is) (at_last committed last)
      ∙ in_parts (not (nat_eq place (length committed))) (not (nat_lt place last.snap)) (not (nat_lt (length committed) it.transaction.snap)) (nat_le last.snap place) (reads_from it.transaction.noted last.changes)
      (ap not (ne_eqb place (length committed) (λ same. omega arith))) (not_lt place last.snap) (ap not (le-ltb (length committed) it.transaction.snap (omega arith)))

  -- the last one noted what it changed
  pub edge_out : rw (history_of (with_last committed last)) (length committed) place ≡ (nat_le last.snap place && reads_from last.noted it.transaction.changes)
  edge_out =
      let within = there_within committed place it is in
      rw_at (with_last committed last) (length committed) place last (committed_seen it) (at_last committed last) (at_kept committed (last ∷ []) place it is)
      ∙ out_parts (not (nat_eq (length committed) place)) (not (nat_lt (length committed) it.transaction.snap)) (not (nat_lt place last.snap)) (nat_le last.snap place) (reads_from last.noted it.transaction.changes)
      (ap not (ne_eqb (length committed) place (λ same. omega arith))) (ap not (le-ltb (length committed) it.transaction.snap (omega arith))) (not_lt place last.snap)

-- those between the others are as they were
pub edge_between : (committed : List Committed) (more : List Transaction) (i j : ℕ) (one other : Committed) → slice_get committed i ≡ Some one → slice_get committed j ≡ Some other
    → rw (history_of (all_committed committed ++ more)) i j ≡ rw (history_of (all_committed committed)) i j
edge_between committed more i j one other first second =
    rw_at (all_committed committed ++ more) i j (committed_seen one) (committed_seen other) (at_kept committed more i one first) (at_kept committed more j other second)
    ∙ sym (rw_at (all_committed committed) i j (committed_seen one) (committed_seen other) (at_seen committed i one first) (at_seen committed j other second))

-- Dangerous structures: two rw-antidependencies in a row whose last transaction commits first. Where the first of the three
-- changed nothing it counts only if the last had committed before the first began (Ports and Grittner, VLDB 2012, 3.2, 3.3
-- and 4.1; PostgreSQL, src/backend/storage/lmgr/README-SSI).
use Rattle.std.specs.Prelude.{◌≡◌, ℕ, ◌<◌, ◌≤◌, ltb, leb, Bool, true, ◌&&◌, ◌||◌, ◌⊎◌}
use Rattle.rls_history.specs.History.{History, rw, any_below}

-- the three of a dangerous structure, by their commits; the first and the last may be one
pub record IsStructure (h : History) (first pivot last : ℕ) : Type 0 where
  pub read_by_first : rw h first pivot ≡ true
  pub read_by_pivot : rw h pivot last ≡ true
  pub last_before_pivot : last < pivot
  pub last_before_first : last ≤ first
  pub counts : (h.has_written first ≡ true) ⊎ (last < h.snap first)

-- no dangerous structure stands among the transactions below the number
abbrev pub NoStructureBelow : History → ℕ → Type 0
NoStructureBelow h n = (first pivot last : ℕ) → first < n → pivot < n → last < n → IsStructure h first pivot last → ⊥

-- the transaction takes part in a dangerous structure among those that committed up to it
pub record IsInStructure (h : History) (n : ℕ) : Type 0 where
  pub first : ℕ
  pub pivot : ℕ
  pub last : ℕ
  pub first_within : first ≤ n
  pub pivot_within : pivot ≤ n
  pub last_within : last ≤ n
  pub takes_part : (first ≡ n) ⊎ ((pivot ≡ n) ⊎ (last ≡ n))
  pub is : IsStructure h first pivot last

-- whether the three are a dangerous structure
abbrev pub is_structure : History → ℕ → ℕ → ℕ → Bool
is_structure h first pivot last = rw h first pivot && (rw h pivot last && (ltb last pivot && (leb last first && (h.has_written first || ltb last (h.snap first)))))

-- the test at a commit: the transaction that commits last is the pivot of a structure, or its first
abbrev pub is_dangerous : History → ℕ → Bool
is_dangerous h n =
    any_below (λ (first : ℕ). any_below (λ (last : ℕ). is_structure h first n last) n) n
    || any_below (λ (pivot : ℕ). any_below (λ (last : ℕ). is_structure h n pivot last) n) n

-- the test is true wherever the transaction takes part in a dangerous structure
abbrev pub Finds : (History → ℕ → Bool) → Type 0
Finds test = (h : History) (n : ℕ) → IsInStructure h n → test h n ≡ true

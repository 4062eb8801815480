-- Histories of committed transactions under snapshot isolation, numbered from 0 in the order of their commits
-- (Ports and Grittner, "Serializable Snapshot Isolation in PostgreSQL", VLDB 2012, part 3).
use Rattle.std.specs.Prelude.{ℕ, zero, suc, ◌==◌, ltb, Bool, false, ◌&&◌, ◌||◌, not}

-- all that conflicts between transactions rest on
pub record History : Type 0 where
  -- how many have committed
  pub count : ℕ
  -- how many had committed when it began: its snapshot has the changes of just these
  pub snap : ℕ → ℕ
  -- it read something that the other changed
  pub has_read : ℕ → ℕ → Bool
  -- it changed something
  pub has_written : ℕ → Bool

-- the one committed before the other began: its changes are in the other's snapshot
abbrev pub before : History → ℕ → ℕ → Bool
before h one other = ltb one (h.snap other)

-- they are two, and neither committed before the other began
abbrev pub concurrent : History → ℕ → ℕ → Bool
concurrent h one other = not (one == other) && not (before h one other) && not (before h other one)

-- a rw-antidependency: the one read a version of an object of which the other, concurrent with it, wrote a later one
abbrev pub rw : History → ℕ → ℕ → Bool
rw h one other = concurrent h one other && h.has_read one other

-- one of the numbers below passes the test
abbrev pub any_below : (ℕ → Bool) → ℕ → Bool
any_below test zero = false
any_below test (suc n) = test n || any_below test n

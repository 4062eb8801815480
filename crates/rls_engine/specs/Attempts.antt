-- Transactions that ended without a commit, as their callers get them.
use Rattle.std.specs.Prelude.{◌≡◌, map, Option}
use Rattle.rls_core.specs.declared.attempt.Attempt.{Attempt}
use Rattle.rls_core.specs.declared.attempt.Remains.{Remains}
use Rattle.rls_core.specs.rls_access.specs.Transactions.{first_ctx}
use Rattle.rls_core.specs.Alone.{effects_alone}
use Rattle.rls_core.specs.Attempts.{IsLeftOf, IsShownOn}
use Rattle.rls_core.specs.Posts.{statement_of, effect_of}
use Rattle.rls_engine.specs.Places.{IsBase, base_state}
use Rattle.rls_engine.specs.Stands.{Stand}
use Rattle.rls_engine.specs.Views.{Hold, Standing}

-- what is recorded on it is what its statements come to, run alone on the state of its snapshot
abbrev pub IsRecordedOn : Stand → Type 0
IsRecordedOn stand =
    let it = stand.running.so_far in
    effects_alone (first_ctx it.txn it.begin) it.statements stand.base ≡ it.effects

-- this is left of what was held
pub record IsLeftOn (held : Hold) (left : Remains) : Type 0 where
  pub left_of : IsLeftOf held.txn held.stand.running left
  pub recorded : IsRecordedOn held.stand

-- the transaction stood on this when it ended
pub record IsAttemptOf (stand : Stand) (it : Attempt) : Type 0 where
  pub txn : it.txn ≡ stand.running.so_far.txn
  pub begin : it.begin ≡ stand.running.so_far.begin
  pub snap : it.snap ≡ stand.running.so_far.snap
  pub statements : map statement_of it.posts ≡ stand.running.so_far.statements
  pub effects : map effect_of it.posts ≡ stand.running.so_far.effects

-- its snapshot's last commit stands at the place, and run alone on the state there its statements come to just what is told of them
pub record IsEnded (base : Option Standing) (it : Attempt) : Type 0 where
  pub snap : IsBase it.snap base
  pub shown : IsShownOn (base_state base) it

-- Transactions that ended without a commit: what is left of one that ran, and what that was shown.
use Rattle.std.specs.Prelude.{◌≡◌, ℕ, map, Option, Some, None}
use Rattle.rls_value.specs.declared.refusal.Refusal.{Refusal}
use Rattle.rls_value.specs.declared.refusal.Refusal.TheVariants.{Serial}
use Rattle.rls_catalog.specs.State.{State}
use Rattle.rls_meaning.specs.rls_access.specs.Transactions.{first_ctx}
use Rattle.rls_core.specs.declared.attempt.Remains.{Remains}
use Rattle.rls_core.specs.declared.attempt.Attempt.{Attempt}
use Rattle.rls_core.specs.Alone.{effects_alone}
use Rattle.rls_core.specs.Events.{Running}
use Rattle.rls_core.specs.Opened.{Opened}
use Rattle.rls_core.specs.Posts.{statement_of, effect_of}

-- what is left of what is kept of one that runs
abbrev pub remains_of : Opened → Remains
remains_of it = record { begin = it.begin; posts = it.posts }

-- what is left of the one that ran under the number: what it began as, and its statements with what each came to
pub record IsLeftOf (txn : ℕ) (it : Running) (left : Remains) : Type 0 where
  pub number : it.so_far.txn ≡ txn
  pub begin : left.begin ≡ it.so_far.begin
  pub statements : map statement_of left.posts ≡ it.so_far.statements
  pub effects : map effect_of left.posts ≡ it.so_far.effects

-- that is left where one ran under the number, and nothing where none did
abbrev pub Leaves : ℕ → Option Running → Option Remains → Type 0
Leaves txn (Some it) (Some left) = IsLeftOf txn it left
Leaves txn None None = Unit {0}
Leaves txn _ _ = ⊥

-- what a refused post leaves: 40001 has ended the transaction, and nothing else ends it
abbrev pub LeftBy : ℕ → Option Running → Refusal → Option Remains → Type 0
LeftBy txn ran (Serial why) left = Leaves txn ran left
LeftBy txn ran _ left = left ≡ None

-- run alone on this state, its statements come to just what is told of them: replies, refusals, decisions and changes
abbrev pub IsShownOn : State → Attempt → Type 0
IsShownOn s it = effects_alone (first_ctx it.txn it.begin) (map statement_of it.posts) s ≡ map effect_of it.posts

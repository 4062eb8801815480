-- What `run --numbers` writes: the answers behind the transactions that their lines were answered in.
use Rattle.std.specs.Prelude.{◌≡◌, ◌-◌, ℕ, nat_eq, Bool, true, false, List, Option, Some, None, slice_get}
use Rattle.std.specs.List.{list_all}
use Rattle.std.specs.Str.Lines.{lines}
use Rattle.rls_check.specs.rls_audit.specs.rls_core.specs.Records.{Record}
use Rattle.rls_transcript.specs.declared.numbering.Where.{Where}
use Rattle.rls_transcript.specs.declared.numbering.Where.TheVariants as w
use Rattle.rls_transcript.specs.Numbers.{AreNumbered, numbered_from, opening_run}
use Rattle.rls_transcript.specs.Told.{Told}
use Rattle.rlsdb.specs.Tests.{AreAnswered}

-- the transaction has this number
abbrev pub is_numbered : ℕ → Option Record → Bool
is_numbered txn (Some it) = nat_eq it.txn txn
is_numbered txn None = false

-- so has the one with this commit
abbrev pub has_commit : List Record → ℕ → ℕ → Bool
has_commit history txn commit = is_numbered txn (slice_get history (commit - 1))

-- where a commit is told, it is the transaction's
abbrev pub is_booked : List Record → Where → Bool
is_booked history (w.Alone txn rows commit) = has_commit history txn commit
is_booked history (w.Committed txn commit) = has_commit history txn commit
is_booked history at = true

-- The lines were answered so, in the order of the lines and on an empty database, in these transactions; those that are told as
-- committed are in the history under that commit.
pub record AreNumberedAnswers (terse : Bool) (asked : List (List ℕ)) (tolds : List Told) (wheres : List Where) (history : List Record) : Type 0 where
  pub answered : AreAnswered terse asked tolds history
  pub numbered : AreNumbered asked opening_run tolds wheres
  pub booked : list_all (is_booked history) wheres ≡ true

-- what is written for a script: each line of its answers behind the number of the line that it answers, and the transaction
pub record IsNumberedText (terse : Bool) (written : List ℕ) (history : List Record) : Type 0 where
  pub script : List ℕ
  pub tolds : List Told
  pub wheres : List Where
  pub answers : AreNumberedAnswers terse (lines script) tolds wheres history
  pub whole : written ≡ numbered_from 1 tolds wheres

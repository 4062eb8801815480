-- What was written.
use Rattle.std.specs.Prelude.{◌≡◌, ℕ, ◌+◌, List, ◌++◌, Result, Ok, Err}
use Rattle.rls_script.specs.declared.fault.RunFault.{RunFault}
use Rattle.rls_script.specs.declared.fault.RunFault.TheVariants as f

-- a list grew by one of which the fact holds
pub record GrewBy (before now : List ℕ) (Fact : List ℕ → Type 0) : Type 0 where
  pub more : List ℕ
  pub grew : now ≡ before ++ more
  pub fact : Fact more

-- How often a writer has failed tells how what it was asked for ended: `Write` where one more call failed, else none did. Nothing is
-- read, and nothing is of another engine.
abbrev pub TellsFailures : Result (Unit {0}) RunFault → ℕ → ℕ → Type 0
TellsFailures (Ok it) before now = now ≡ before
TellsFailures (Err f.Write) before now = now ≡ before + 1
TellsFailures (Err f.NoMemory) before now = now ≡ before
TellsFailures (Err _) before now = ⊥

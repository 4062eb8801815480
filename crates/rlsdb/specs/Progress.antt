-- The line that tells how far long work has come.
use Rattle.std.specs.Prelude.{ℕ, List, ◌++◌, codes}
use Rattle.std.specs.Fmt.{decimal}

-- how many of all transactions are done, and what was done to them
abbrev pub progress_text : ℕ → ℕ → List ℕ → List ℕ
progress_text done all word = codes "rlsdb: " ++ (decimal done ++ (codes " of " ++ (decimal all ++ (codes " transactions " ++ word))))

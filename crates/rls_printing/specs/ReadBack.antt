-- What a printed statement is read as.
use Rattle.std.specs.Prelude.{◌≡◌, Result, Ok, Err}
use Rattle.rls_value.specs.declared.refusal.Refusal.{Refusal}
use Rattle.rls_value.specs.declared.refusal.Refusal.TheVariants as refusal
use Rattle.rls_statement.specs.declared.statement.Statement.{Statement}

-- the answer is the statement, or a limit that it passes
abbrev pub IsReadAs : Statement → Result Statement Refusal → Type 0
IsReadAs x (Ok y) = y ≡ x
IsReadAs x (Err (refusal.Limit limit)) = Unit {0}
IsReadAs x (Err _) = ⊥

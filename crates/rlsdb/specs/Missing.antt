-- Why there is no decision to explain.
use Rattle.std.specs.Prelude.{◌≡◌, ℕ, nat_eq, false, Some, None}
use Rattle.std.specs.List.{list_any}
use Rattle.rls_check.specs.declared.audit.Audit.{Audit}
use Rattle.rls_check.specs.declared.explaining.Why.{Why}
use Rattle.rls_check.specs.Explaining.{IsExplained}
use Rattle.rlsdb.specs.declared.missing.Missing.{Missing}
use Rattle.rlsdb.specs.declared.missing.Missing.TheVariants as missing

-- Of a decision of the statement with this number this is missing: the order hasn't the transaction; there is nothing to explain of the
-- statement; or there is, so that it has no decision on the row.
abbrev pub IsMissing : Audit → ℕ → ℕ → Missing → Type 0
IsMissing audit txn statement missing.Unsaid = Unit {0}
IsMissing audit txn statement missing.Txn = list_any (λ number. nat_eq number txn) audit.order ≡ false
IsMissing audit txn statement missing.Statement = IsExplained audit.transactions audit.order txn statement None false None
IsMissing audit txn statement missing.Row = (why : Why) × IsExplained audit.transactions audit.order txn statement None false (Some why)

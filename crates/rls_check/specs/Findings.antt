-- How a finding is written.
use Rattle.std.specs.Prelude.{ℕ, List, ◌++◌, codes}
use Rattle.std.specs.Fmt.{decimal}
use Rattle.rls_check.specs.declared.finding.Finding.{Finding}
use Rattle.rls_check.specs.declared.finding.Finding.TheVariants as f

-- the line that tells a finding
abbrev pub finding_text : Finding → List ℕ
finding_text f.Holds = codes "yes"
finding_text f.Order = codes "no: order"
finding_text (f.Reply txn statement) = codes "no: reply " ++ (decimal txn ++ (codes "." ++ decimal statement))
finding_text (f.Changes txn) = codes "no: changes " ++ decimal txn
finding_text f.FinalState = codes "no: state"

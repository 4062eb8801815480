-- What is written of the transactions of an audit that are still to be listed.
use Rattle.std.specs.Prelude.{ℕ, List, Option}
use Rattle.rls_check.specs.declared.finding.Finding.{Finding}
use Rattle.rls_check.specs.Listing.{Unlisted, ended_all, lines_along}
use Rattle.rls_check.specs.ShownAudits.{FirstDiffers}
use Rattle.rls_check.specs.Walking.{Standing, standings_along}

-- their lines
abbrev pub text_of : Unlisted → List ℕ
text_of it = ended_all (lines_along it.transactions it.state it.places)

-- their statements
abbrev pub standings_of : Unlisted → List Standing
standings_of it = standings_along it.transactions it.state it.places

-- the first of these that comes to another answer than the audit shows; none where each comes to its own
abbrev pub FirstOfUnlisted : Unlisted → Option Finding → Type 0
FirstOfUnlisted it found = FirstDiffers (standings_of it) found

-- What a report counts of an audit before it is written.
use Rattle.std.specs.Prelude.{◌≡◌, ℕ, List, filter, length, replicate}
use Rattle.rls_catalog.specs.Changed.{opening}
use Rattle.rls_check.specs.declared.edges.Conflict.{Conflict}
use Rattle.rls_check.specs.declared.filtering.ShownFilter.{ShownFilter}
use Rattle.rls_check.specs.declared.survey.Survey.{Survey}
use Rattle.rls_check.specs.declared.tallies.Tally.{Tally}
use Rattle.rls_check.specs.declared.transaction.Transaction.{Transaction}
use Rattle.rls_check.specs.GraphEdges.{conflicts_of}
use Rattle.rls_check.specs.Plots.{has_both}
use Rattle.rls_check.specs.ShownAudits.{FirstDiffers}
use Rattle.rls_check.specs.Tallies.{no_tally, tallied_all}
use Rattle.rls_check.specs.Walking.{standings_along}

-- of each transaction, along the places
abbrev pub tallies_of : ShownFilter → List Transaction → List ℕ → List Tally
tallies_of it ts places = tallied_all it (replicate (length ts) no_tally) (standings_along ts opening places)

-- the rw-antidependencies between transactions of which the report has a statement
abbrev pub conflicts_shown : ShownFilter → List Transaction → List ℕ → List Conflict
conflicts_shown it ts places = filter (has_both (tallies_of it ts places)) (conflicts_of ts (standings_along ts opening places) places)

-- these, and the first statement that comes to another answer than the audit shows
pub record IsSurvey (it : ShownFilter) (ts : List Transaction) (places : List ℕ) (survey : Survey) : Type 0 where
  pub tallies : survey.tallies.items ≡ tallies_of it ts places
  pub conflicts : survey.conflicts.items ≡ conflicts_shown it ts places
  pub differs : FirstDiffers (standings_along ts opening places) survey.differs

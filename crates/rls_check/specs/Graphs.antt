-- The graph of an audit.
use Rattle.std.specs.Prelude.{◌≡◌, ℕ, List, Option, Some, None}
use Rattle.rls_catalog.specs.Changed.{opening}
use Rattle.rls_check.specs.declared.graph.Graph.{Graph}
use Rattle.rls_check.specs.declared.graph_form.GraphForm.{GraphForm}
use Rattle.rls_check.specs.declared.transaction.Transaction.{Transaction}
use Rattle.rls_check.specs.Checking.{IsNoOrder, IsPlaced}
use Rattle.rls_check.specs.GraphTexts.{graph_text}
use Rattle.rls_check.specs.ShownAudits.{FirstDiffers}
use Rattle.rls_check.specs.Walking.{standings_along}

-- what is written along the places, and the first statement that comes to another answer than the audit shows
pub record IsGraphAlong (form : GraphForm) (transactions : List Transaction) (places : List ℕ) (it : Graph) : Type 0 where
  pub text : it.text.items ≡ graph_text form transactions places (standings_along transactions opening places)
  pub differs : FirstDiffers (standings_along transactions opening places) it.differs

-- the same along an order of these numbers; none where they are no order
abbrev pub IsGraph : GraphForm → List Transaction → List ℕ → Option Graph → Type 0
IsGraph form transactions numbers None = IsNoOrder transactions numbers
IsGraph form transactions numbers (Some it) = (places : List ℕ) × IsPlaced transactions numbers places × IsGraphAlong form transactions places it

-- A page of an audit.
use Rattle.std.proofs.Common.{◌≡◌, ℕ, List, Some, None, ap, subst, ◌∙◌}
use Rattle.rls_catalog.specs.Changed.{opening}
use Rattle.rls_check.specs.declared.filtering.ShownFilter.{ShownFilter}
use Rattle.rls_check.specs.declared.page.Page.{Page}
use Rattle.rls_check.specs.declared.transaction.Transaction.{Transaction}
use Rattle.rls_check.specs.Checking.{IsNoOrder, IsPlaced}
use Rattle.rls_check.specs.Pages.{IsBlank, IsPage}
use Rattle.rls_check.specs.ShownAudits.{FirstDiffers}
use Rattle.rls_check.specs.Surveys.{IsSurvey, conflicts_shown, tallies_of}
use Rattle.rls_check.specs.Walking.{standings_along}

pub page_some : (name : List ℕ) (wanted : ShownFilter) (most : ℕ) (ts : List Transaction) (numbers places : List ℕ) (page : Page) → IsPlaced ts numbers places → IsBlank name wanted most ts places page → IsPage name wanted most ts numbers (Some page)
page_some name wanted most ts numbers places page placed blank = (places, placed, blank)

pub page_none : (name : List ℕ) (wanted : ShownFilter) (most : ℕ) (ts : List Transaction) (numbers : List ℕ) → IsNoOrder ts numbers → IsPage name wanted most ts numbers None
page_none name wanted most ts numbers none = none

-- what is counted along the places is what the page holds
pub blank : (name : List ℕ) (wanted : ShownFilter) (most : ℕ) (ts : List Transaction) (places seen : List ℕ) (page : Page)
    → page.name.now ≡ name → page.wanted.now ≡ wanted → page.most ≡ most → page.transactions.now ≡ ts → page.places.items ≡ places → page.section ≡ None
    → seen ≡ places → IsSurvey wanted ts seen page.survey → IsBlank name wanted most ts places page
blank name wanted most ts places seen page named asked at_most theirs along closed same counted = record {
  named = named;
  wanted_is = asked;
  most_is = at_most;
  transactions = theirs;
  places_are = along;
  tallies = counted.tallies ∙ ap (tallies_of wanted ts) same;
  conflicts = counted.conflicts ∙ ap (conflicts_shown wanted ts) same;
  differs = subst (λ (all : List ℕ). FirstDiffers (standings_along ts opening all) page.survey.differs) same counted.differs;
  closed = closed;
}

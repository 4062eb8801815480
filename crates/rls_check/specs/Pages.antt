-- A report: one page in HTML of an audit.
use Rattle.std.specs.Prelude.{◌≡◌, ℕ, List, [], ◌∷◌, ◌++◌, ◌+◌, codes, Option, Some, None, filter, length}
use Rattle.rls_catalog.specs.Changed.{opening}
use Rattle.rls_explain.specs.declared.outcome.RowOutcome.{RowOutcome}
use Rattle.rls_check.specs.declared.edges.Conflict.{Conflict}
use Rattle.rls_check.specs.declared.filtering.ShownFilter.{ShownFilter}
use Rattle.rls_check.specs.declared.finding.Finding.{Finding}
use Rattle.rls_check.specs.declared.page.Page.{Page}
use Rattle.rls_check.specs.declared.page_look.Look.{Look}
use Rattle.rls_check.specs.declared.tallies.Tally.{Tally}
use Rattle.rls_check.specs.declared.transaction.Transaction.{Transaction}
use Rattle.rls_check.specs.declared.walking.Turn.{Turn}
use Rattle.rls_check.specs.Checking.{IsNoOrder, IsPlaced}
use Rattle.rls_check.specs.Findings.{finding_text}
use Rattle.rls_check.specs.PageStatements.{open_behind, sections_from, told_turn, turn_pieces}
use Rattle.rls_check.specs.Pieces.{Data, Number, Piece, Tag}
use Rattle.rls_check.specs.Plots.{plot_pieces}
use Rattle.rls_check.specs.ShownAudits.{FirstDiffers}
use Rattle.rls_check.specs.Surveys.{conflicts_shown, tallies_of}
use Rattle.rls_check.specs.Tallies.{has_statements, no_tally, rows_of_turn, sum_from}
use Rattle.rls_check.specs.Walking.{Standing, standings_along}

-- ---- what stands above the statements

-- what the browser is told: its policy allows the style and the script alone
abbrev pub begin_pieces : Look → List ℕ → List Piece
begin_pieces look name =
    Tag (codes "<!doctype html>\n<html lang=\"en\"><head><meta charset=\"utf-8\"><meta name=\"viewport\" content=\"width=device-width,initial-scale=1\"><meta http-equiv=\"Content-Security-Policy\" content=\"")
    ∷ Tag look.policy.now ∷ Tag (codes "\"><title>") ∷ Data name ∷ Tag (codes ": who saw what, and why</title><style>") ∷ Tag look.style.now
    ∷ Tag (codes "</style></head><body><a class=\"skip\" href=\"#statements\">To the statements</a><header><h1>") ∷ Data name
    ∷ Tag (codes "</h1><p class=\"dim\">Who saw what, and why: each transaction of this audit, run again alone at its place in the serial order.</p>\n") ∷ []

-- a count and what it counts
abbrev pub fact_pieces : List ℕ → ℕ → List Piece
fact_pieces what n = Tag (codes "<div><dt>") ∷ Tag what ∷ Tag (codes "</dt><dd>") ∷ Number n ∷ Tag (codes "</dd></div>") ∷ []

abbrev pub facts_with : ℕ → Tally → ℕ → List Piece
facts_with transactions sum conflicts =
    Tag (codes "<dl class=\"facts\">") ∷ (fact_pieces (codes "transactions") transactions ++ (fact_pieces (codes "statements") sum.statements ++ (fact_pieces (codes "rows shown") sum.shown
    ++ (fact_pieces (codes "rows written") sum.written ++ (fact_pieces (codes "rows denied") sum.denied ++ (fact_pieces (codes "rw conflicts") conflicts ++ (Tag (codes "</dl>\n") ∷ [])))))))

-- the six counts
abbrev pub facts_pieces : List Tally → List Conflict → List Piece
facts_pieces tallies conflicts = facts_with (length (filter has_statements tallies)) (sum_from no_tally tallies) (length conflicts)

-- that the audit doesn't hold
abbrev pub found_pieces : Finding → List Piece
found_pieces found = Tag (codes "<p class=\"bad\" role=\"alert\">This audit does not hold: ") ∷ Data (finding_text found) ∷ Tag (codes "</p>\n") ∷ []

abbrev pub finding_pieces : Option Finding → List Piece
finding_pieces None = []
finding_pieces (Some found) = found_pieces found

-- the explanation of the timeline
abbrev pub key_pieces : List Piece
key_pieces =
    Tag (codes "</header><main><h2 id=\"timeline\">Timeline</h2><p class=\"dim\">From top to bottom the serial order, from left to right the commits. A bar goes from a begin to its commit.</p>\n<ul class=\"key\">")
    ∷ Tag (codes "<li><svg width=\"26\" height=\"10\" aria-hidden=\"true\"><rect class=\"bar\" y=\"1\" width=\"24\" height=\"8\" rx=\"3\"/></svg>begin to commit</li>")
    ∷ Tag (codes "<li><svg width=\"16\" height=\"12\" aria-hidden=\"true\"><path class=\"mark\" d=\"M1 2l2-2 3 3 3-3 2 2-3 3 3 3-2 2-3-3-3 3-2-2 3-3z\"/></svg>a row was denied</li>")
    ∷ Tag (codes "<li><svg width=\"12\" height=\"14\" aria-hidden=\"true\"><path class=\"rw\" d=\"M5 0v6\"/><path class=\"tip\" d=\"M5 13l-4-8h8z\"/></svg>to the one that changed what the other read</li></ul>\n") ∷ []

-- the filters, which the script shows
abbrev pub filter_pieces : List Piece
filter_pieces =
    Tag (codes "<h2 id=\"statements\">Statements</h2><form class=\"filters\" hidden><label>Role<select name=\"role\"><option value=\"\">all</option></select></label>")
    ∷ Tag (codes "<label>Table<select name=\"table\"><option value=\"\">all</option></select></label><label>Text<input type=\"search\" name=\"q\"></label>")
    ∷ Tag (codes "<label class=\"row\"><input type=\"checkbox\" name=\"denied\"> with denied rows</label><label class=\"row\"><button type=\"button\" name=\"open\" aria-pressed=\"false\">Open all</button></label></form>")
    ∷ Tag (codes "<p class=\"dim\" id=\"count\" role=\"status\"></p>\n") ∷ []

abbrev pub head_pieces : Look → List ℕ → List Transaction → List Tally → List Conflict → Option Finding → List ℕ → List Piece
head_pieces look name ts tallies conflicts differs places =
    begin_pieces look name ++ (facts_pieces tallies conflicts ++ (finding_pieces differs ++ (key_pieces ++ (plot_pieces ts tallies conflicts places ++ filter_pieces))))

-- ---- what stands below them

abbrev pub foot_pieces : Look → List Piece
foot_pieces look =
    Tag (codes "</main><footer><p>A transaction that was rolled back, or refused with 40001, is not in an audit. <em>Shown</em>: listed, counted or returned; <em>written</em>: inserted, changed or deleted; <em>denied</em>: hidden, barred or refused. ")
    ∷ Tag (codes "<em>Hidden</em>: the policies for SELECT deny the row; <em>barred</em>: those of the command do; <em>skipped</em>: allowed, but WHERE is not true; <em>matched</em>: it would have been changed, but the statement was refused.</p></footer><script>")
    ∷ Tag look.script.now ∷ Tag (codes "</script></body></html>\n") ∷ []

-- ---- the whole

-- a page along the places, with the style and the script of the program
abbrev pub page_along : Look → List ℕ → ShownFilter → ℕ → List Transaction → List ℕ → Option Finding → List Piece
page_along look name wanted most ts places differs =
    head_pieces look name ts (tallies_of wanted ts places) (conflicts_shown wanted ts places) differs places
    ++ (sections_from wanted ts (conflicts_shown wanted ts places) most None (standings_along ts opening places) ++ foot_pieces look)

-- what stands above the statements of the page
abbrev pub head_of : Page → List Piece
head_of page =
    head_pieces page.look page.name.now page.transactions.now page.survey.tallies.items page.survey.conflicts.items page.survey.differs page.places.items

-- its statements
abbrev pub statements_of : Page → List Standing
statements_of page = standings_along page.transactions.now opening page.places.items

-- what it has of these, and what stands below them
abbrev pub rest_of : Page → List Standing → List Piece
rest_of page standings = sections_from page.wanted.now page.transactions.now page.survey.conflicts.items page.most page.section standings ++ foot_pieces page.look

-- the first statement that comes to another answer than the audit shows
abbrev pub found_of : Page → Option Finding
found_of page = page.survey.differs

-- what the page has of a turn, and the page behind it
abbrev pub turn_with : Page → Turn → List RowOutcome → List Piece
turn_with page turn rows = turn_pieces page.wanted.now page.transactions.now page.survey.conflicts.items page.most page.section turn.place (told_turn turn) rows

abbrev pub turn_of : Page → Turn → List Piece
turn_of page turn = turn_with page turn (rows_of_turn page.wanted.now turn)

abbrev pub behind_turn : Page → Turn → Page
behind_turn page turn = record page { section = open_behind page.wanted.now page.section turn.place turn.ctx (rows_of_turn page.wanted.now turn) }

-- nothing of the page is written yet
pub record IsBlank (name : List ℕ) (wanted : ShownFilter) (most : ℕ) (ts : List Transaction) (places : List ℕ) (page : Page) : Type 0 where
  pub named : page.name.now ≡ name
  pub wanted_is : page.wanted.now ≡ wanted
  pub most_is : page.most ≡ most
  pub transactions : page.transactions.now ≡ ts
  pub places_are : page.places.items ≡ places
  pub tallies : page.survey.tallies.items ≡ tallies_of wanted ts places
  pub conflicts : page.survey.conflicts.items ≡ conflicts_shown wanted ts places
  pub differs : FirstDiffers (standings_along ts opening places) page.survey.differs
  pub closed : page.section ≡ None

-- a page of an audit with an order of these numbers; none where they are no order
abbrev pub IsPage : List ℕ → ShownFilter → ℕ → List Transaction → List ℕ → Option Page → Type 0
IsPage name wanted most ts numbers None = IsNoOrder ts numbers
IsPage name wanted most ts numbers (Some page) = (places : List ℕ) × IsPlaced ts numbers places × IsBlank name wanted most ts places page

-- so what is written of it, along all its statements, is the page
pub page_together : (name : List ℕ) (wanted : ShownFilter) (most : ℕ) (ts : List Transaction) (places : List ℕ) (page : Page) → IsBlank name wanted most ts places page
    → head_of page ++ rest_of page (statements_of page) ≡ page_along page.look name wanted most ts places (found_of page)
page_together name wanted most ts places page is =
    λ i. head_pieces page.look (is.named i) (is.transactions i) (is.tallies i) (is.conflicts i) page.survey.differs (is.places_are i)
    ++ (sections_from (is.wanted_is i) (is.transactions i) (is.conflicts i) (is.most_is i) (is.closed i) (standings_along (is.transactions i) opening (is.places_are i)) ++ foot_pieces page.look)

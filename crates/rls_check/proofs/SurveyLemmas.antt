-- What is counted of a report, statement by statement along the order.
use Rattle.std.proofs.Common.{◌≡◌, ℕ, ◌<◌, List, [], ◌∷◌, length, map, replicate, filter, sym, ap, ◌∙◌}
use Rattle.std.specs.List.{All}
use Rattle.rls_catalog.specs.Changed.{opening}
use Rattle.rls_check.specs.declared.filtering.ShownFilter.{ShownFilter}
use Rattle.rls_check.specs.declared.survey.Survey.{Survey}
use Rattle.rls_check.specs.declared.tallies.Tally.{Tally}
use Rattle.rls_check.specs.declared.transaction.Transaction.{Transaction}
use Rattle.rls_check.specs.declared.walking.Turn.{Turn}
use Rattle.rls_check.specs.declared.works.Work.{Work}
use Rattle.rls_check.specs.GraphSteps.{EachBegan, conflicts_along, no_work, noted_all, snap_of}
use Rattle.rls_check.specs.Plots.{has_both}
use Rattle.rls_check.specs.ShownAudits.{FirstDiffers}
use Rattle.rls_check.specs.Surveys.{IsSurvey, tallies_of}
use Rattle.rls_check.specs.Tallies.{no_tally, rows_with, tallied, tallied_all, tallied_rows, tallied_turn}
use Rattle.rls_check.specs.Walking.{IsNext, IsTurn, Standing, standings_along}
use Rattle.rls_check.proofs.GraphEdgeLemmas.{conflicts_are}

-- a turn is counted as its statement
turn_tallied : (it : ShownFilter) (tallies : List Tally) (standing : Standing) (turn : Turn) → IsTurn standing turn → tallied it tallies standing ≡ tallied_turn it tallies turn
turn_tallied it tallies standing turn is =
    λ i. tallied_rows it tallies (sym is.place i) (sym is.ctx i) (rows_with it (sym is.before i) (sym is.ctx i) (sym is.statement i) (sym is.effect i) (sym is.reads i))

-- what is counted, with the statements that are left, is the whole
pub tallied_on : (it : ShownFilter) (turn : Turn) (before after : List Standing) (old new whole : List Tally) → IsNext before turn after → new ≡ tallied_turn it old turn → tallied_all it old before ≡ whole → tallied_all it new after ≡ whole
tallied_on it turn [] after old new whole is grew so_far = absurd is
tallied_on it turn (standing ∷ others) after old new whole is grew so_far =
    (λ i. tallied_all it ((grew ∙ sym (turn_tallied it old standing turn is.0)) i) (is.1 i)) ∙ so_far

pub tallied_end : (it : ShownFilter) (left : List Standing) (tallies whole : List Tally) → left ≡ [] → tallied_all it tallies left ≡ whole → tallies ≡ whole
tallied_end it left tallies whole none so_far = sym (ap (tallied_all it tallies) none) ∙ so_far

-- what is found is what a report counts, where nothing was noted or counted before
pub surveyed : (it : ShownFilter) (ts : List Transaction) (places : List ℕ) (empty works seen : List Work) (none counted : List Tally) (survey : Survey) → All (λ place. place < length ts) places → EachBegan ts
    → empty ≡ replicate (length ts) no_work → works ≡ noted_all empty (standings_along ts opening places) → seen ≡ works
    → none ≡ replicate (length ts) no_tally → survey.tallies.items ≡ tallied_all it none (standings_along ts opening places) → counted ≡ survey.tallies.items
    → survey.conflicts.items ≡ filter (has_both counted) (conflicts_along (map snap_of ts) places seen)
    → FirstDiffers (standings_along ts opening places) survey.differs → IsSurvey it ts places survey
surveyed it ts places empty works seen none counted survey all each nothing are same uncounted tallies these conflicts differs =
    let standings = standings_along ts opening places in
    let whole : survey.tallies.items ≡ tallies_of it ts places = tallies ∙ ap (λ before. tallied_all it before standings) uncounted in
    let noted_here : seen ≡ noted_all (replicate (length ts) no_work) standings = same ∙ are ∙ ap (λ before. noted_all before standings) nothing in
    record {
      tallies = whole;
      conflicts =
          conflicts
          ∙ (λ i. filter (has_both ((these ∙ whole) i)) (conflicts_along (map snap_of ts) places (noted_here i)))
          ∙ ap (filter (has_both (tallies_of it ts places))) (conflicts_are ts standings places each.began all);
      differs = differs;
    }

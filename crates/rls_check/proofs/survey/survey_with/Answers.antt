use Rattle.rls_check.proofs.SurveyLemmas.{surveyed}
use Rattle.rls_check.proofs.survey.survey_with.Goals as goal

-- what is found is what a report counts
pub returns : goal.returns
returns g c =
    surveyed c.args.wanted.now c.args.transactions.now c.args.places.now c.args.works.now.items c.run_all.new.works.items c.as_slice-noted.result.now c.args.nothing.items c.as_slice-counted.result.now
    (record { tallies = c.run_all.new.tallies; conflicts = c.in_ok-conflicts.conflicts; differs = c.in_ok-differs.differs })
    c.requires.within c.requires.began c.requires.empty c.in_ok-differs.ensures.works c.as_slice-noted.ensures.value c.requires.uncounted c.in_ok-differs.ensures.tallies c.as_slice-counted.ensures.value
    c.in_ok-conflicts.ensures c.in_ok-differs.ensures.differs

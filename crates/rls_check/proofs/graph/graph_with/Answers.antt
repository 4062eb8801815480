use Rattle.std.proofs.Common.{ap, ◌∙◌}
use Rattle.rls_check.specs.GraphSteps.{text_by}
use Rattle.rls_check.proofs.GraphDrawnLemmas.{along_is}
use Rattle.rls_check.proofs.graph.graph_with.Goals as goal

-- what is written from what was noted is the graph
pub returns : goal.returns
returns c =
    along_is c.args.form c.args.transactions.now c.args.places.now c.args.works.now.items c.run_all.new.works.items (record { text = c.in_ok-text.text; differs = c.in_ok-differs.differs })
    c.requires.within c.requires.began c.requires.empty c.in_ok-differs.ensures.works
    (c.in_ok-text.ensures ∙ ap (text_by c.args.form c.args.transactions.now c.args.places.now) c.as_slice.ensures.value)
    c.in_ok-differs.ensures.differs

use Rattle.rlsdb.proofs.ReportLemmas.{page_written}
use Rattle.rlsdb.proofs.reporting.write_page.Goals as goal

-- above the statements, the statements, and below them
pub returns-clause-text : goal.returns-clause-text
returns-clause-text g c =
    page_written c.args.page.now c.write_turns-written.new.page (g.O.ScriptOut.taken c.args.output.now) _ _ _ _ c.in_ok-write_head.ensures c.in_ok-walk.ensures c.in_ok-written.ensures.text c.in_ok-write_foot.ensures

use Rattle.rlsdb.proofs.ReportLemmas.{reported_apart}
use Rattle.rlsdb.proofs.commands.report_page.Goals as goal

-- a file took the page, and nothing is written
pub returns-else-is_output : goal.returns-else-is_output
returns-else-is_output g c = reported_apart c.args.asked c.is_output.result c.args.output.now.taken.bytes c.report.result c.is_output.ensures c.if-is_output.false c.report.ensures

use Rattle.rls_transcript.proofs.ReportLemmas.{told_other}
use Rattle.rls_transcript.proofs.report.report_line.Goals as goal

pub returns-in-None-clause-line : goal.returns-in-None-clause-line
returns-in-None-clause-line g c = told_other _ _ _ _ _ _ _ (c.command_in.ensures.none c.in-None.is)

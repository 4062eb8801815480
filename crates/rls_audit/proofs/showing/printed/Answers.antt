use Rattle.rls_audit.proofs.ShowingLemmas.{text_printed, text_spelled}
use Rattle.rls_audit.proofs.showing.printed.Goals as goal

pub returns : goal.returns
returns c = record {
  text = text_printed c.print.result c.args.statement.now c.print.ensures.text;
  spelled = text_spelled c.print.result c.args.statement.now c.print.ensures.spelled c.print.ensures.again;
}

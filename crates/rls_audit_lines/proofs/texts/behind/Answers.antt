use Rattle.rls_audit_lines.proofs.CuttingLemmas.{stripped_is}
use Rattle.rls_audit_lines.proofs.texts.behind.Goals as goal

pub returns : goal.returns
returns c = stripped_is c.args.prefix.now c.args.text.now c.strip_prefix.result c.strip_prefix.ensures.cases

use Rattle.std.proofs.Common.{arith}
use Rattle.rls_audit_lines.proofs.CuttingLemmas.{cut_is}
use Rattle.rls_audit_lines.proofs.texts.at_blank.Goals as goal

pub returns : goal.returns
returns c = cut_is 32 c.args.text.now c.split_once.result c.split_once.ensures.cases (omega arith)

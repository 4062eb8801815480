use Rattle.std.proofs.Common.{arith}
use Rattle.rls_check.proofs.ExplainedLemmas.{says_why}
use Rattle.rls_check.proofs.explaining.explain_in.Goals as goal

pub returns : goal.returns
returns c =
    says_why c.args.transaction.now c.args.state.now c.args.number c.args.row c.args.long c.in_ok-statement.statement c.in_ok-statement.explanation (omega (arith, c.if-number-eq0.false)) c.in_ok-statement.ensures.statement
    c.in_ok-statement.ensures.explains (c.is_silent.ensures.speaks c.if-is_silent.false)

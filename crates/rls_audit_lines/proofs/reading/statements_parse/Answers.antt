use Rattle.std.proofs.Common.{subst}
use Rattle.rls_audit_lines.specs.Reading.{TellsWhether, HasStatement}
use Rattle.rls_audit_lines.proofs.AllLemmas.{apart, more, whole}
use Rattle.rls_audit_lines.proofs.reading.statements_parse.Goals as goal

pub returns-then-not-branch : goal.returns-then-not-branch
returns-then-not-branch c = apart HasStatement c.args.statements.now c.loop-answered.answered-index c.answered-item.result c.loop-answered-test.true c.answered-item.is (subst (λ b. TellsWhether b (HasStatement c.answered-item.result)) c.if-not-branch.true c.in_ok-is_statement.ensures)

pub loop-answered-preserved : goal.loop-answered-preserved
loop-answered-preserved c = more HasStatement c.args.statements.now c.loop-answered.answered-index c.answered-item.result c.loop-answered-test.true c.answered-item.is (subst (λ b. TellsWhether b (HasStatement c.answered-item.result)) c.if-not-branch.false c.in_ok-is_statement.ensures) c.loop-answered.invariant

pub returns : goal.returns
returns c = whole HasStatement c.args.statements.now c.loop-answered.answered-index c.loop-answered-test.false c.loop-answered.invariant

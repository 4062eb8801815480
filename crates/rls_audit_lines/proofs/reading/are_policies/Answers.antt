use Rattle.std.proofs.Common.{subst}
use Rattle.rls_audit_lines.specs.Reading.{TellsWhether, IsPolicyText}
use Rattle.rls_audit_lines.proofs.AllLemmas.{apart, more, whole}
use Rattle.rls_audit_lines.proofs.reading.are_policies.Goals as goal

pub returns-then-not-branch : goal.returns-then-not-branch
returns-then-not-branch c = apart (IsPolicyText c.args.table.now) c.args.texts.now c.loop-text.text-index c.text-item.result c.loop-text-test.true c.text-item.is (subst (λ b. TellsWhether b (IsPolicyText c.args.table.now c.text-item.result)) c.if-not-branch.true c.in_ok-is_policy.ensures)

pub loop-text-preserved : goal.loop-text-preserved
loop-text-preserved c = more (IsPolicyText c.args.table.now) c.args.texts.now c.loop-text.text-index c.text-item.result c.loop-text-test.true c.text-item.is (subst (λ b. TellsWhether b (IsPolicyText c.args.table.now c.text-item.result)) c.if-not-branch.false c.in_ok-is_policy.ensures) c.loop-text.invariant

pub returns : goal.returns
returns c = whole (IsPolicyText c.args.table.now) c.args.texts.now c.loop-text.text-index c.loop-text-test.false c.loop-text.invariant

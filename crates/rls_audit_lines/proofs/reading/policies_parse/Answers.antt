use Rattle.std.proofs.Common.{subst}
use Rattle.rls_audit_lines.specs.Reading.{TellsWhether, HasPolicies}
use Rattle.rls_audit_lines.proofs.AllLemmas.{more, whole}
use Rattle.rls_audit_lines.proofs.reading.policies_parse.Goals as goal

pub loop-changed-preserved : goal.loop-changed-preserved
loop-changed-preserved c = more HasPolicies c.args.changes.now c.loop-changed.changed-index c.changed-item.result c.loop-changed-test.true c.changed-item.is (subst (λ b. TellsWhether b (HasPolicies c.changed-item.result)) c.if-not-branch.false c.in_ok-has_policies.ensures) c.loop-changed.invariant

pub returns : goal.returns
returns c = whole HasPolicies c.args.changes.now c.loop-changed.changed-index c.loop-changed-test.false c.loop-changed.invariant

use Rattle.rls_audit.specs.rls_audit_lines.specs.Reading.{IsPolicyText}
use Rattle.rls_check.proofs.KeepingLemmas.{one_of}
use Rattle.rls_check.proofs.keeping.policies_of.Goals as goal

pub policy_of-requires : goal.policy_of-requires
policy_of-requires c = one_of (IsPolicyText c.args.table.now) c.args.texts.now c.loop-text.text-index c.text-item.result c.loop-text-test.true c.text-item.is c.requires

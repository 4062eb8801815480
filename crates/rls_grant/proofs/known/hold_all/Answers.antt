use Rattle.std.proofs.Common.{sym, ◌∙◌}
use Rattle.rls_grant.proofs.KnownLemmas.{held_others}
use Rattle.rls_grant.proofs.known.hold_all.Goals as goal

pub loop-new-preserved : goal.loop-new-preserved
loop-new-preserved c =
    held_others c.args.owner.now c.args.grants.now c.args.new.now c.loop-new.new.now c.grant-item.result c.in-len1-up.len_at_least c.grant-item.is c.loop-new.invariant
    (sym c.in_ok-holds_known.ensures ∙ c.if-not-branch.false)

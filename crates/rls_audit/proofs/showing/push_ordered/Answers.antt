use Rattle.std.specs.List.{All}
use Rattle.std.proofs.Common.{sym, subst}
use Rattle.rls_audit.specs.Showing.{CanTell}
use Rattle.rls_audit_lines.specs.Unshown.{Gives}
use Rattle.rls_audit.specs.ShownParts.{Adds}
use Rattle.rls_audit.proofs.showing.push_ordered.Goals as goal

pub returns-then-are_in_order : goal.returns-then-are_in_order
returns-then-are_in_order c =
    subst (λ cs. Gives c.push_changes.result (All CanTell c.args.changes.now) (λ _. Adds c.args.all.now c.push_changes.new.all cs)) (sym (c.are_in_order.ensures.same c.if-are_in_order.true)) c.push_changes.ensures

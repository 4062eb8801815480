use Rattle.std.specs.Prelude.{◌≡◌}
use Rattle.std.specs.List.{All}
use Rattle.std.proofs.Common.{sym, subst, ◌∙◌}
use Rattle.rls_audit.specs.Lines.{in_object_order}
use Rattle.rls_audit.specs.Showing.{CanTell}
use Rattle.rls_audit.specs.ShownParts.{Adds}
use Rattle.rls_audit.proofs.OrderLemmas.{holds_in_order}
use Rattle.rls_audit.proofs.ShowingLemmas.{gives_also}
use Rattle.rls_audit.proofs.showing.push_reordered.Goals as goal

pub returns : goal.returns
returns c =
    let same : c.as_slice.result.now ≡ in_object_order c.args.changes.now = c.as_slice.ensures.value ∙ c.in_ok-ordered.ensures in
    gives_also c.push_changes.result (All CanTell c.as_slice.result.now) (All CanTell c.args.changes.now)
    (λ _. Adds c.args.all.now c.push_changes.new.all c.as_slice.result.now) (λ _. Adds c.args.all.now c.push_changes.new.all (in_object_order c.args.changes.now))
    (λ h. subst (All CanTell) (sym same) (holds_in_order CanTell c.args.changes.now h)) (λ u adds. subst (Adds c.args.all.now c.push_changes.new.all) same adds) c.push_changes.ensures

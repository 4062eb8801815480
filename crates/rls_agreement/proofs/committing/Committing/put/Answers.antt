use Rattle.std.specs.Prelude.{Some, set}
use Rattle.std.proofs.Common.{refl, ap}
use Rattle.rls_history.specs.Orders.{with_placed}
use Rattle.rls_agreement.proofs.CommittingLemmas.{one_waits}
use Rattle.rls_agreement.proofs.committing.Committing.put.Goals as goal

pub returns : goal.returns
returns c = λ deltas placed h free.
    c.go_on.ensures (set deltas c.args.place c.args.changes) (with_placed placed c.args.place)
    (one_waits deltas placed c.args.self.now _ c.args.place c.args.changes h.put_on free c.requires refl refl refl
    (ap (λ changes. set c.args.self.now.waiting.items c.args.place (Some changes)) c.in_ok-to_keep.ensures))

use Rattle.std.proofs.Common.{refl}
use Rattle.rls_agreement.proofs.CommittingLemmas.{nothing_put_on}
use Rattle.rls_agreement.proofs.committing.Committing.new.Goals as goal

pub returns : goal.returns
returns c = nothing_put_on c.args.count _ c.in_ok-state.ensures c.new.ensures refl c.in_ok-none_waiting.ensures

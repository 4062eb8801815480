use Rattle.std.proofs.Common.{ap, sym, ◌∙◌}
use Rattle.std.specs.Prelude.{not}
use Rattle.rls_grant.proofs.KnownLemmas.{each_stays}
use Rattle.rls_grant.proofs.known.all_stay.Goals as goal

pub returns : goal.returns
returns c = λ is. each_stays c.args.owner.now c.args.grants.now c.args.privilege c.in_ok-holders.holders c.in_ok-holders.ensures (ap not (sym c.has_loose-all.ensures) ∙ is)

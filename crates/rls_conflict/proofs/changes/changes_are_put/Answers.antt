use Rattle.rls_conflict.proofs.PlaceLemmas.{one_place, own_place, stays_in_order, look_changed}
use Rattle.rls_conflict.proofs.WritingLemmas.{write_turned, write_place}
use Rattle.rls_conflict.proofs.changes.changes_are_put.Goals as goal

pub returns-clause-puts : goal.returns-clause-puts
returns-clause-puts c = record { same_is = one_place; same_self = own_place; stays = stays_in_order; looks = look_changed }

pub returns-clause-written : goal.returns-clause-written
returns-clause-written c = record { turned = write_turned; same_place = write_place }

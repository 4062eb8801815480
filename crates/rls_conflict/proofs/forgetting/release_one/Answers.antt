use Rattle.std.specs.Prelude.{◌≡◌, if◌then◌else◌}
use Rattle.std.proofs.Common.{ap, ◌∙◌}
use Rattle.rls_source.specs.Footprints.{is_among}
use Rattle.rls_siread.specs.Locks.{without}
use Rattle.rls_siread.specs.Index.{held_at}
use Rattle.rls_conflict.specs.Transactions.{Transaction}
use Rattle.rls_conflict.proofs.ReleaseLemmas.{released_one}
use Rattle.rls_conflict.proofs.forgetting.release_one.Goals as goal

pub returns : goal.returns
returns c =
    let number : c.behind-it.inside.number ≡ c.args.it.now.transaction.number = ap (λ (txn : Transaction). txn.number) (c.behind-it.view_is ∙ c.get.ensures) in
    released_one c.args.writers.now c.release_all.new.self c.args.it.now.covered c.args.it.now.transaction.number (λ object.
    c.release_all.ensures object ∙ ap (λ n. if is_among c.args.it.now.covered object then without (held_at c.args.writers.now object) n else held_at c.args.writers.now object) number)

use Rattle.std.proofs.Common.{arith, ◌≡◌, ◌∷◌, ap, sym, ◌∙◌, length}
use Rattle.rls_catalog.specs.declared.change.Change.{Change}
use Rattle.rls_catalog.specs.Changed.{changed_all, with_rows}
use Rattle.rls_catalog.proofs.RowsPut.{next_put}
use Rattle.rls_catalog.proofs.putting.put_run.Goals as goal

pub loop-change-preserved : goal.loop-change-preserved
loop-change-preserved c =
    let first : c.loop-change.changes.now ≡ Change.Row c.in-Some.change.now ∷ c.in-Some.others.now = c.in-Some.ensures.first in
    let counted : length c.loop-change.changes.now ≡ length (Change.Row c.in-Some.change.now ∷ c.in-Some.others.now) = ap length first in (
      λ s.
          ap (λ rows. changed_all (with_rows c.args.table.now rows s) c.in-Some.others.now) c.in_ok-rows.ensures
          ∙ sym (ap (λ t. changed_all t c.in-Some.others.now) (next_put s c.in-Some.change.now c.args.table.now c.loop-change.rows c.in-Some.ensures.table))
          ∙ sym (ap (changed_all (with_rows c.args.table.now c.loop-change.rows s)) first)
          ∙ c.loop-change.invariant.0 s,
      omega (arith, counted, c.loop-change.invariant.1),
    )

use Rattle.std.specs.Prelude.{◌≡◌, refl}
use Rattle.std.proofs.Common.{◌∙◌}
use Rattle.std.proofs.lemmas.Result.{IfOk-weaker}
use Rattle.rls_catalog.specs.Changed.{changed_all}
use Rattle.rls_rows.specs.States.{newest_of}
use Rattle.rls_core.proofs.machine.state_of.Goals as goal

pub returns-then-is_latest : goal.returns-then-is_latest
returns-then-is_latest c =
    IfOk-weaker c.copy.result (λ state. state ≡ c.args.view.now) (λ state. state ≡ changed_all (newest_of c.args.versions.now.states) c.args.transaction.now.changes)
    (λ state same. same ∙ c.requires (c.if-is_latest.ensures refl)) c.copy.ensures

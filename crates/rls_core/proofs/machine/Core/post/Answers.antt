use Rattle.std.proofs.Common.{◌≡◌, ℕ, refl, ap, sym, subst, true}
use Rattle.std.specs.Prelude.{IfErr, OnOk}
use Rattle.std.specs.Option.{is_some}
use Rattle.rls_statement.specs.declared.statement.Statement.{Statement}
use Rattle.rls_core.specs.Events.{Event}
use Rattle.rls_core.specs.Seen.{Happens, runs_at}
use Rattle.rls_core.specs.Calls.{NotPosted}
use Rattle.rls_core.proofs.RefusalLemmas.{not_worked}
use Rattle.rls_core.proofs.machine.Core.post.Goals as goal

pub returns-in-Ok-clause-ok : goal.returns-in-Ok-clause-ok
returns-in-Ok-clause-ok c =
    subst (λ (txn : ℕ). OnOk c.admit.result (Happens (Event.Posts txn c.args.statement) c.args.self.now c.admit.new.self)) c.in-Ok.ensures.asked.0
    (subst (λ (asked : Statement). OnOk c.admit.result (Happens (Event.Posts c.in-Ok.work.txn asked) c.args.self.now c.admit.new.self)) c.in-Ok.ensures.asked.1 c.admit.ensures.ok)

pub returns-in-Ok-clause-runs : goal.returns-in-Ok-clause-runs
returns-in-Ok-clause-runs c = subst (λ (txn : ℕ). OnOk c.admit.result (is_some (runs_at c.admit.new.self txn) ≡ true)) c.in-Ok.ensures.asked.0 c.admit.ensures.runs

pub returns-in-Ok-clause-err : goal.returns-in-Ok-clause-err
returns-in-Ok-clause-err c =
    subst (λ (txn : ℕ). IfErr c.admit.result (λ why. NotPosted txn c.args.statement c.args.self.now c.admit.new.self why)) c.in-Ok.ensures.asked.0
    (subst (λ (asked : Statement). IfErr c.admit.result (λ why. NotPosted c.in-Ok.work.txn asked c.args.self.now c.admit.new.self why)) c.in-Ok.ensures.asked.1 c.admit.ensures.err)

pub returns-in-Err-clause-err : goal.returns-in-Err-clause-err
returns-in-Err-clause-err c = not_worked c.args.self.now c.args.txn c.args.statement c.in-Err.refusal c.in-Err.ensures.err

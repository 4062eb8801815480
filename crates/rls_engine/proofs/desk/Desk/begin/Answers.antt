use Rattle.std.proofs.Common.{◌≡◌, ◌∙◌, ℕ, ap, sym, subst, Some, None}
use Rattle.rls_core.specs.Opened.{Looks}
use Rattle.rls_core.specs.Seen.{runs_at}
use Rattle.boxcar.specs.Table.{Shelves, Where, Shows}
use Rattle.rls_engine.specs.Stands.{Stand}
use Rattle.rls_engine.proofs.KeepLemmas.{begins_kept}
use Rattle.rls_engine.proofs.LedLemmas.{begins_led}
use Rattle.rls_engine.proofs.desk.Desk.begin.Goals as goal

pub invariant_of-self-2 : goal.invariant_of-self-2
invariant_of-self-2 g c =
    let s = c.self.inside in
    let t = c.again.result in (
      begins_kept _ _ _ _ _ _ _ _ c.self.invariant.0 c.begin-2.new.self c.insert.new.self.entries c.args.begin t c.begin-2.result c.begin-2.ensures.admitted c.begin-2.ensures.ok c.begin-2.ensures.err
          (subst (λ (n : ℕ). runs_at s.core n ≡ None) c.next-txn.ensures.number c.next-txn.ensures.free)
          (subst (λ (n : ℕ). Looks n (Some t) s.running.entries c.insert.new.self.entries) c.next-txn.ensures.number c.in-Ok-insert.ensures.updates.0)
          (subst (λ (u : Where Stand). Shows g.N.Named.steps u) (sym c.again.ensures) (subst (λ (v : Shelves). Shows v c.in-Ok-push_shown.at) c.requires.steps c.in-Ok-push_shown.ensures.0.0))
          (ap (λ (u : Where Stand). u.value) c.again.ensures ∙ c.in-Ok-push_shown.ensures.0.1 ∙ c.begun.ensures),
      begins_led g.N.Named.asks s.core c.begin-2.new.self c.args.begin c.begin-2.result c.self.invariant.1 c.begin-2.ensures.ok c.begin-2.ensures.err,
    )

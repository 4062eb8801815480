use Rattle.std.proofs.Common.{◌≡◌, ◌∙◌, ℕ, ◌+◌, List, ◌∷◌, [], ◌++◌, length, refl, ap, sym, subst, arith}
use Rattle.rls_core.specs.Records.{Record}
use Rattle.rls_core.specs.Events.{Event}
use Rattle.rls_core.specs.Seen.{newest_state}
use Rattle.boxcar.specs.Table.{Shelves, Where, Shows}
use Rattle.rls_engine.specs.declared.commit.Commit.{Commit}
use Rattle.rls_engine.proofs.KeepLemmas.{committed_kept, kept_at}
use Rattle.rls_engine.proofs.LedLemmas.{led_on}
use Rattle.rls_engine.proofs.desk.Desk.commit.Goals as goal

pub invariant_of-self-2 : goal.invariant_of-self-2
invariant_of-self-2 g c =
    let s = c.self.inside in
    let r = c.in-Ok-ready.ensures.ok in
    let t = c.again.result in
    let value = c.in-Ok-place.ensures.value in (
      kept_at _ _ _ _ _ _ _ _ _ _ _ _ _ _
          (committed_kept _ _ _ _ _ _ _ _ c.self.invariant.0 c.seal.new.self c.remove.new.self.entries c.held.inside.txn r.it c.split_off-share.new.self.parts c.split_off-share.new.self.amount t r.may.runs r.may.safe c.seal.ensures c.remove.ensures.updates.0
          (omega (arith, c.split_off-share.ensures.parts_left, c.add.ensures.parts))
          (omega (arith, c.split_off-share.ensures.amount_left, c.add.ensures.amount, c.self.invariant.0.none_left))
          (subst (λ (u : Where Commit). Shows g.N.Named.commits u) (sym c.again.ensures) (subst (λ (v : Shelves). Shows v c.in-Ok-place.token) c.requires.commits c.in-Ok-place.ensures.shows))
          (omega (arith, c.commits-number.ensures, ap (λ (u : Where Commit). u.index) c.again.ensures))
          (ap (λ (u : Where Commit). u.value.entry) c.again.ensures ∙ value.0 ∙ r.entry)
          (ap (λ (u : Where Commit). u.value.state) c.again.ensures ∙ value.1 ∙ r.state))
          refl c.add.ensures.total refl refl (c.push_reserved.ensures.items ∙ ap (λ (l : List (Where Commit)). l ++ t ∷ []) c.in-Ok.ensures.items) refl,
      led_on g.N.Named.asks s.core c.seal.new.self (Event.Commits c.held.inside.txn) c.self.invariant.1 c.seal.ensures tt,
    )

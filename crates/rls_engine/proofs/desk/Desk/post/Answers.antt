use Rattle.std.proofs.Common.{◌≡◌, ◌∙◌, ℕ, ap, sym, subst}
use Rattle.rls_core.specs.Events.{Event}
use Rattle.rls_core.specs.Seen.{Seen, runs_at, world_of, Happens}
use Rattle.rls_core.specs.Calls.{NotPosted}
use Rattle.boxcar.specs.Table.{Shelves, Where, Shows}
use Rattle.rls_engine.specs.Stands.{Stand, stand_at, posted_on}
use Rattle.rls_engine.specs.Views.{Hold, Kept}
use Rattle.rls_engine.specs.Steps.{Fits}
use Rattle.rls_engine.proofs.TokenLemmas.{has_token, leads_on}
use Rattle.rls_engine.proofs.KeepLemmas.{posted_kept, refused_kept}
use Rattle.rls_engine.proofs.LedLemmas.{led_on, refused_led}
use Rattle.rls_core.specs.Attempts.{LeftBy}
use Rattle.rls_core.specs.Headline.{RunAsRecorded}
use Rattle.rls_engine.proofs.AttemptLemmas.{left_by}
use Rattle.rls_engine.proofs.desk.Desk.post.Goals as goal

pub set_token-requires : goal.set_token-requires
set_token-requires g c =
    let s = c.self.inside in
    let seen : s.core ≡ c.args.self.now.seen = ap (λ (k : Kept). k.seen) c.self.view_is in
    let held : Hold = record { txn = c.held.inside.txn; stand = c.held.inside.at.value } in
    let fits : Fits s.core held = subst (λ (h : Hold). Fits s.core h) (sym c.held.view_is) (subst (λ (k : Seen). Fits k c.args.held.now) (sym seen) (c.fits.ensures c.if-not-fits.false)) in
    has_token g.N.Named.steps s.core s.running.entries held c.self.invariant.0.stand fits

pub invariant_of-self : goal.invariant_of-self
invariant_of-self g c =
    let s = c.self.inside in
    let asked = c.args.work.statement in
    let t = c.again.result in
    let seen : s.core ≡ c.args.self.now.seen = ap (λ (k : Kept). k.seen) c.self.view_is in
    let held : Hold = record { txn = c.held.inside.txn; stand = c.held.inside.at.value } in
    let number : c.args.work.txn ≡ held.txn = c.requires.txn ∙ sym (ap (λ (h : Hold). h.txn) c.held.view_is) in
    let fits : Fits s.core held = subst (λ (h : Hold). Fits s.core h) (sym c.held.view_is) (subst (λ (k : Seen). Fits k c.args.held.now) (sym seen) (c.fits.ensures c.if-not-fits.false)) in (
      posted_kept _ _ _ _ _ _ _ _ c.self.invariant.0 c.admit_or_end.new.self c.set_token.new.running.entries held asked t fits
          (subst (λ (n : ℕ). Happens (Event.Posts n asked) s.core c.admit_or_end.new.self) number c.in-Ok-admit_or_end.ensures.ok)
          c.set_token.ensures
          (subst (λ (u : Where Stand). Shows g.N.Named.steps u) (sym c.again.ensures) (subst (λ (v : Shelves). Shows v c.in-Ok.at) c.requires.steps c.in-Ok.ensures.0.0))
          (leads_on s.core held asked t fits (ap (λ (u : Where Stand). u.value) c.again.ensures ∙ c.in-Ok.ensures.0.1 ∙ c.posted.ensures ∙ ap (posted_on (stand_at s.core.committed (runs_at s.core held.txn))) c.get.ensures)),
      led_on g.N.Named.asks s.core c.admit_or_end.new.self (Event.Posts c.args.work.txn asked) c.self.invariant.1 c.in-Ok-admit_or_end.ensures.ok c.requires.asked,
    )

pub returns-in-Ok-admit_or_end-clause-ok : goal.returns-in-Ok-admit_or_end-clause-ok
returns-in-Ok-admit_or_end-clause-ok g c =
    let s = c.self.inside in
    let asked = c.args.work.statement in
    let H = c.args.held.now in
    let seen : s.core ≡ c.args.self.now.seen = ap (λ (k : Kept). k.seen) c.self.view_is in
    let fits : Fits s.core H = subst (λ (k : Seen). Fits k H) (sym seen) (c.fits.ensures c.if-not-fits.false) in
    let txn : c.held.inside.txn ≡ H.txn = ap (λ (h : Hold). h.txn) c.held.view_is in
    record {
      event = record {
        happens = subst (λ (k : Seen). Happens (Event.Posts H.txn asked) k c.admit_or_end.new.self) seen (subst (λ (n : ℕ). Happens (Event.Posts n asked) s.core c.admit_or_end.new.self) c.requires.txn c.in-Ok-admit_or_end.ensures.ok);
        counted = (invariant_of-self g c).0.counted;
      };
      shows = subst (λ (v : Shelves). Shows v c.in-Ok.at) c.requires.steps c.in-Ok.ensures.0.0;
      leads = leads_on s.core H asked c.in-Ok.at fits (c.in-Ok.ensures.0.1 ∙ c.posted.ensures ∙ ap (posted_on (stand_at s.core.committed (runs_at s.core c.held.inside.txn))) c.get.ensures ∙ ap (λ (n : ℕ). posted_on (stand_at s.core.committed (runs_at s.core n)) asked) txn);
    }

pub invariant_of-self-in-Err-admit_or_end : goal.invariant_of-self-in-Err-admit_or_end
invariant_of-self-in-Err-admit_or_end g c =
    let s = c.self.inside in
    let asked = c.args.work.statement in
    let seen : s.core ≡ c.args.self.now.seen = ap (λ (k : Kept). k.seen) c.self.view_is in
    let held : Hold = record { txn = c.held.inside.txn; stand = c.held.inside.at.value } in
    let number : c.args.work.txn ≡ held.txn = c.requires.txn ∙ sym (ap (λ (h : Hold). h.txn) c.held.view_is) in
    let fits : Fits s.core held = subst (λ (h : Hold). Fits s.core h) (sym c.held.view_is) (subst (λ (k : Seen). Fits k c.args.held.now) (sym seen) (c.fits.ensures c.if-not-fits.false)) in (
      refused_kept _ _ _ _ _ _ _ _ c.self.invariant.0 c.admit_or_end.new.self held asked c.in-Err.why fits
          (subst (λ (n : ℕ). NotPosted n asked s.core c.admit_or_end.new.self c.in-Err.why) number c.in-Err.ensures.err),
      refused_led g.N.Named.asks s.core c.admit_or_end.new.self c.args.work.txn asked c.in-Err.why c.self.invariant.1 c.requires.asked c.in-Err.ensures.err,
    )

pub returns-in-Err-clause-left : goal.returns-in-Err-clause-left
returns-in-Err-clause-left g c =
    let s = c.self.inside in
    let H = c.args.held.now in
    let seen : s.core ≡ c.args.self.now.seen = ap (λ (k : Kept). k.seen) c.self.view_is in
    let fits : Fits s.core H = subst (λ (k : Seen). Fits k H) (sym seen) (c.fits.ensures c.if-not-fits.false) in
    let left : LeftBy H.txn (runs_at s.core H.txn) c.in-Err.why c.in-Err.left = subst (λ (n : ℕ). LeftBy n (runs_at s.core n) c.in-Err.why c.in-Err.left) c.requires.txn c.in-Err.ensures.left in
    left_by s.core H c.in-Err.why c.in-Err.left fits (subst (λ (k : Seen). RunAsRecorded (world_of k)) (sym seen) c.recorded.ensures) left

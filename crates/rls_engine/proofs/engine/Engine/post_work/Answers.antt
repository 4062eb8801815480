use Rattle.std.proofs.Common.{◌≡◌, ap, subst, sym, ◌∙◌}
use Rattle.rls_engine.specs.declared.posting.Posting.{Posting}
use Rattle.rls_engine.specs.Drafts.{WhenPosted}
use Rattle.rls_engine.proofs.HoldLemmas.{when_posted}
use Rattle.rls_engine.proofs.engine.Engine.post_work.Goals as goal

pub returns : goal.returns
returns g c =
    subst (λ (p : Posting). WhenPosted g.N.Named.steps c.args.held.now c.args.statement p) (sym c.posting_of.ensures)
    (when_posted g.N.Named.steps c.args.held.now c.args.statement c.args.work.statement c.args.next c.post_held-posted.result c.requires.next c.requires.work.statement c.post_held-posted.ensures.ok c.post_held-posted.ensures.err)

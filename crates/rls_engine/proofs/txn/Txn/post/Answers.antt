use Rattle.std.specs.Prelude.{IfSome}
use Rattle.std.proofs.Common.{◌≡◌, ◌∙◌, ap, subst}
use Rattle.rls_engine.specs.Attempts.{IsLeftOn}
use Rattle.rls_engine.specs.Drafts.{hold_of, without_pending}
use Rattle.rls_engine.specs.Views.{Draft, Hold}
use Rattle.rls_engine.proofs.HoldLemmas.{posts_done}
use Rattle.rls_engine.proofs.txn.Txn.post.Goals as goal

pub returns-in-Done-clause-ok : goal.returns-in-Done-clause-ok
returns-in-Done-clause-ok g c =
    let old : Draft = c.args.self.now in
    let taken : c.take_pending.new.self ≡ without_pending old = c.take_pending.ensures.taken in
    posts_done g.N.Named.steps old c.settle.new.self c.in-Some.pending.statement c.self-2.inside.held.stand c.in-Done.next c.in-Done.at c.settle.result _ _ _ _ c.in-Some.ensures.some.0
    (ap (λ (d : Draft). d.stand) (c.self-2.view_is ∙ taken)) c.in-Done.ensures.0 c.in-Done.ensures.1 c.settle.ensures.told c.settle.ensures.stand
    (ap (λ (d : Draft). d.tag) taken) (ap (λ (d : Draft). d.txn) taken) (ap (λ (d : Draft). d.pending) taken) (ap (λ (d : Draft). d.over) taken)

pub end_by-requires : goal.end_by-requires
end_by-requires g c = subst (λ (h : Hold). IfSome c.in-Over.over.left (IsLeftOn h)) (ap hold_of c.self-2.view_is) c.in-Over.ensures.left

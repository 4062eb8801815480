use Rattle.std.specs.Prelude.{◌≡◌, refl, IfOk}
use Rattle.std.proofs.Common.{ap, sym, subst, ◌∙◌}
use Rattle.rls_source.specs.Footprints.{with_reads, is_among, IsInOrder}
use Rattle.rls_source.proofs.FootprintOrderLaws.{with_reads_in_order}
use Rattle.rls_siread.specs.Promotion.{promoted}
use Rattle.rls_siread.proofs.PlainLaws.{plain_promoted, with_fresh_reads, fresh_is_new, nothing_is_gone}
use Rattle.rls_siread.proofs.promotion.noted_more.Goals as goal

pub returns-then-is_plain-clause-objects : goal.returns-then-is_plain-clause-objects
returns-then-is_plain-clause-objects c =
    let all : c.in_ok-objects.objects ≡ with_reads c.args.noted.now c.args.reads.now =
    c.in_ok-objects.ensures.all ∙ with_fresh_reads c.args.noted.now c.args.reads.now c.in_ok-fresh.fresh c.in_ok-objects.ensures.ordered c.in_ok-fresh.ensures in
    let ordered : IsInOrder c.in_ok-objects.objects = subst IsInOrder (sym all) (with_reads_in_order c.args.noted.now c.args.reads.now c.in_ok-objects.ensures.ordered) in
    sym (plain_promoted c.args.limit c.in_ok-objects.objects (c.if-is_plain.ensures refl) ordered) ∙ ap (promoted c.args.limit) all

pub returns-then-is_plain-clause-fresh : goal.returns-then-is_plain-clause-fresh
returns-then-is_plain-clause-fresh c =
    let all : c.in_ok-objects.objects ≡ with_reads c.args.noted.now c.args.reads.now =
    c.in_ok-objects.ensures.all ∙ with_fresh_reads c.args.noted.now c.args.reads.now c.in_ok-fresh.fresh c.in_ok-objects.ensures.ordered c.in_ok-fresh.ensures in
    fresh_is_new c.args.noted.now c.args.reads.now c.in_ok-fresh.fresh c.in_ok-objects.objects all c.in_ok-fresh.ensures

pub returns-then-is_plain-clause-dropped : goal.returns-then-is_plain-clause-dropped
returns-then-is_plain-clause-dropped c =
    let all : c.in_ok-objects.objects ≡ with_reads c.args.noted.now c.args.reads.now =
    c.in_ok-objects.ensures.all ∙ with_fresh_reads c.args.noted.now c.args.reads.now c.in_ok-fresh.fresh c.in_ok-objects.ensures.ordered c.in_ok-fresh.ensures in
    λ object. ap (λ list. is_among list object) c.new.ensures ∙ nothing_is_gone c.args.noted.now c.args.reads.now c.in_ok-objects.objects all object

pub returns-clause-objects : goal.returns-clause-objects
returns-clause-objects c =
    let all : c.in_ok-objects.objects ≡ with_reads c.args.noted.now c.args.reads.now =
    c.in_ok-objects.ensures.all ∙ with_fresh_reads c.args.noted.now c.args.reads.now c.in_ok-fresh.fresh c.in_ok-objects.ensures.ordered c.in_ok-fresh.ensures in
    subst (λ list. IfOk c.promoted_more.result (λ more. more.objects ≡ promoted c.args.limit list)) all c.promoted_more.ensures.objects

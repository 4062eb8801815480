use Rattle.std.proofs.Common.{◌≡◌, List, [], ◌++◌, IfOk, ap, sym, subst, ◌∙◌}
use Rattle.rls_value.specs.declared.object.Object.{Object}
use Rattle.rls_source.specs.{Footprints.with_reads, Footprints.footprint_of, FootprintLaws.with_reads_more}
use Rattle.rls_source.proofs.FootprintOrderLaws.{footprint_ordered}
use Rattle.rls_siread.proofs.promotion.with_fresh.Goals as goal

pub returns-clause-all : goal.returns-clause-all
returns-clause-all c =
    let all : footprint_of c.put_all-2.new.reads ≡ with_reads c.args.objects.now c.args.fresh.now =
    ap footprint_of (c.in_ok-put_all-2.ensures ∙ ap (λ (xs : List Object). xs ++ c.args.fresh.now) (c.in_ok-put_all.ensures ∙ ap (λ (xs : List Object). xs ++ c.args.objects.now) c.in_ok-all.ensures))
    ∙ sym (with_reads_more [] c.args.objects.now c.args.fresh.now)
    ∙ ap (λ (xs : List Object). with_reads xs c.args.fresh.now) (footprint_ordered c.args.objects.now c.iter-in_order.ensures.ordered) in
    subst (λ (list : List Object). IfOk c.from_reads.result (λ all. all ≡ list)) all c.from_reads.ensures

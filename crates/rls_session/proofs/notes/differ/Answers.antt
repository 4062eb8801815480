use Rattle.std.proofs.Common.{◌≡◌, ◌<◌, ◌≤◌, ◌+◌, length, get_or, set, false, true, subst, sym, ◌∙◌, arith}
use Rattle.std.proofs.lemmas.Bool.Decides.{nat_tests}
use Rattle.std.proofs.lemmas.List.{length-set}
use Rattle.std.proofs.lemmas.List.Elements.{All-get_or}
use Rattle.rls_session.specs.Parts.{Shown}
use Rattle.rls_session.proofs.BookLemmas.{differ_next, met_next}
use Rattle.rls_session.proofs.notes.differ.Goals as goal

pub loop-one-preserved : goal.loop-one-preserved
loop-one-preserved g c =
    let within : c.loop-one.one-index < length c.args.kept.now = grind (arith, nat_tests) in
    let no_more : c.one-item.result.commit ≤ c.args.count = subst (λ (it : Shown). it.commit ≤ c.args.count) (sym c.one-item.is) (All-get_or (λ (it : Shown). it.commit ≤ c.args.count) c.args.kept.now c.loop-one.one-index c.one-item.result within c.requires.numbers) in
    let inside : c.index.result < length c.loop-one.met.items = omega (arith, no_more, c.index.ensures, c.loop-one.invariant.size) in
    record {
      size = subst (λ met. length met ≡ c.args.count) (sym c.meet.ensures.after) (length-set c.loop-one.met.items c.index.result true ∙ c.loop-one.invariant.size);
      met = met_next c.args.kept.now c.one-item.result c.loop-one.met.items c.meet.new.met.items c.index.result c.loop-one.one-index within c.one-item.is c.loop-one.invariant.met c.index.ensures inside c.meet.ensures.after;
      differ = differ_next c.args.kept.now c.one-item.result c.loop-one.met.items c.index.result c.loop-one.one-index c.meet.result within c.one-item.is c.loop-one.invariant.met c.loop-one.invariant.differ c.index.ensures c.meet.ensures.before c.if-meet.false;
    }

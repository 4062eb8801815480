use Rattle.rls_evaluation.proofs.ReadSetLemmas.{in_order_none, in_order_others}
use Rattle.rls_evaluation.proofs.read_set.ascend.Goals as goal

pub loop-objects-preserved : goal.loop-objects-preserved
loop-objects-preserved c =
    in_order_others c.args.objects.now c.loop-objects.objects.now c.object-item.result c.in-len1-up.len_at_least c.object-item.is c.loop-objects.invariant (c.is_below_first.ensures c.if-not-is_below_first.false)

pub returns : goal.returns
returns c = λ is. c.loop-objects.invariant (in_order_none c.loop-objects.objects.now c.in_default.len_below)

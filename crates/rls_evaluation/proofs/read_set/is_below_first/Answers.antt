use Rattle.std.proofs.Common.{sym, ◌∙◌}
use Rattle.rls_evaluation.proofs.ReadSetLemmas.{in_order_alone, in_order_front}
use Rattle.rls_evaluation.proofs.read_set.is_below_first.Goals as goal

pub returns-in-empty : goal.returns-in-empty
returns-in-empty c = λ is ordered. in_order_alone c.args.object.now c.args.others.now c.in-empty.len_below

pub returns-in-Less : goal.returns-in-Less
returns-in-Less c =
    λ is ordered. in_order_front c.args.object.now c.next-item.result c.args.others.now c.in-len1-up.len_at_least c.next-item.is (sym c.cmp_objects.ensures ∙ c.in-Less.is) ordered

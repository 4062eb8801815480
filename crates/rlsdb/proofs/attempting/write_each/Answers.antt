use Rattle.rlsdb.proofs.AttemptLemmas.{each_more}
use Rattle.rlsdb.proofs.attempting.write_each.Goals as goal

-- one line more is written
pub loop-attempts-preserved : goal.loop-attempts-preserved
loop-attempts-preserved g c = each_more c.loop-attempts.attempts.now c.attempted-item.result _ _ _ _ c.in-len1-up.len_at_least c.attempted-item.is c.in_ok-line.ensures c.in_ok-write_line.ensures c.loop-attempts.invariant

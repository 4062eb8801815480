use Rattle.std.proofs.Common.{subst, sym, rules}
use Rattle.rls_evaluation.specs.CachedSubplans.{IsKnown}
use Rattle.rls_evaluation.specs.Showing.{shows, verdict_on}
use Rattle.rls_evaluation.proofs.CachedVerdictLemmas.{verdicts_put}
use Rattle.rls_evaluation.proofs.Telling.{on_ok_then}
use Rattle.rls_evaluation.proofs.cached_verdicts.CachedVerdicts.keep.Goals as goal

pub returns-then-not-takes : goal.returns-then-not-takes
returns-then-not-takes c = λ quals relations s read_set known was. record { named = was.named; each = was.each }

pub returns : goal.returns
returns c =
    on_ok_then c.put.result _ _
    (λ put. λ quals relations s read_set known was.
    verdicts_put quals relations c.args.user.now s read_set c.args.self.now c.put.new.self c.args.row.now c.in_ok-copy.copy (c.takes.ensures (search rules)) c.put.ensures.columns put
    (subst (λ verdict. IsKnown (verdict_on quals (shows relations c.args.user.now) c.args.user.now c.args.row.now) s read_set verdict) (sym c.in_ok-copy.ensures) known) was) c.put.ensures.put

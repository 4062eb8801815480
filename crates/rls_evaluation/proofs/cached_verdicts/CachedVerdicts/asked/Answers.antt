use Rattle.std.proofs.Common.{refl}
use Rattle.rls_evaluation.specs.Showing.{shows, verdict_on}
use Rattle.rls_evaluation.proofs.CachedSubplanLemmas.{known_told}
use Rattle.rls_evaluation.proofs.CachedVerdictLemmas.{verdicts_grown}
use Rattle.rls_evaluation.proofs.cached_verdicts.CachedVerdicts.asked.Goals as goal

pub returns-then-not-is_kept-clause-kept : goal.returns-then-not-is_kept-clause-kept
returns-then-not-is_kept-clause-kept g c =
    verdicts_grown c.args.quals.now c.args.relations.now c.args.user.now (verdict_on c.args.quals.now (shows c.args.relations.now c.args.user.now) c.args.user.now c.args.row.now)
    (g.S.Tables.state c.args.source.now) (g.S.Tables.state c.verdict_on.new.source) c.args.execution.now.read_set c.verdict_on.new.execution.read_set c.in_ok-verdict.verdict c.args.self.now _ refl refl refl
    c.in_ok-verdict.ensures.tells c.in_ok-verdict.ensures.holds.ordered c.requires.kept

pub returns-in-Ok-clause-kept : goal.returns-in-Ok-clause-kept
returns-in-Ok-clause-kept g c =
    let asking = verdict_on c.args.quals.now (shows c.args.relations.now c.args.user.now) c.args.user.now c.args.row.now in
    c.in-Ok.ensures c.args.quals.now c.args.relations.now (g.S.Tables.state c.verdict_on.new.source) c.verdict_on.new.execution.read_set
    (known_told asking (g.S.Tables.state c.args.source.now) (g.S.Tables.state c.verdict_on.new.source) c.args.execution.now.read_set c.verdict_on.new.execution.read_set c.in_ok-verdict.verdict c.in_ok-verdict.ensures.tells c.in_ok-verdict.ensures.holds.ordered)
    (verdicts_grown c.args.quals.now c.args.relations.now c.args.user.now asking
    (g.S.Tables.state c.args.source.now) (g.S.Tables.state c.verdict_on.new.source) c.args.execution.now.read_set c.verdict_on.new.execution.read_set c.in_ok-verdict.verdict c.args.self.now _ refl refl refl
    c.in_ok-verdict.ensures.tells c.in_ok-verdict.ensures.holds.ordered c.requires.kept)

use Rattle.std.proofs.Common.{arith, ◌≤◌, length}
use Rattle.rls_transcript.proofs.ReportLemmas.{count_on, ends_at, goes_on_at, number_is, same_left}
use Rattle.rls_transcript.proofs.report.report_lines.Goals as goal

pub loop-rest-preserved : goal.loop-rest-preserved
loop-rest-preserved g c =
    let within : length c.loop-rest.rest.now ≤ length c.args.lines.now = omega (arith, c.loop-rest.invariant.2) in (
      goes_on_at _ _ _ _ c.args.lines.now c.loop-rest.rest.now _ c.loop-rest.answers.now c.told-item.result _ _ _ _ c.loop-rest.passed c.loop-rest.failed c.in_ok-tally.tally.passed c.in_ok-tally.tally.failed c.in-len1-up.len_at_least within c.in-len1-up-answers.len_at_least c.told-item.is (number_is c.args.lines.now c.loop-rest.rest.now c.in-len1-up.len_at_least within) c.in_ok-tally.ensures.line c.loop-rest.invariant.0,
      same_left c.loop-rest.answers.now c.loop-rest.rest.now c.loop-rest.invariant.1,
      count_on c.args.lines.now c.loop-rest.rest.now c.loop-rest.passed c.loop-rest.failed c.in_ok-tally.tally.passed c.in_ok-tally.tally.failed c.in-len1-up.len_at_least c.in_ok-tally.ensures.one c.loop-rest.invariant.2,
    )

pub returns : goal.returns
returns g c = ends_at _ _ _ _ _ c.loop-rest.rest.now c.loop-rest.answers.now _ _ _ _ (omega (arith, c.in_default.len_below)) c.loop-rest.invariant.1 c.loop-rest.invariant.0

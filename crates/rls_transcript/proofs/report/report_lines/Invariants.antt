use Rattle.std.proofs.Common.{◌≡◌, ◌≤◌, ◌+◌, ◌-◌, suc, map, length}
use Rattle.rls_transcript.proofs.ReportLemmas.{SoFar}
use Rattle.rls_transcript.proofs.report.report_lines.Given as goal

-- the report so far; no more commands were counted than lines were passed
abbrev pub invariant-loop-rest : goal.invariant-loop-rest
invariant-loop-rest g l =
    let taken = g.O.ScriptOut.taken in
    SoFar l.name l.indent (suc (length l.lines - length l.rest)) (map (λ line. line.now) l.lines) l.tolds (map (λ line. line.now) l.rest) l.answers (taken l.initial.output) (taken l.output) l.passed l.failed
    × (length l.answers ≡ length l.rest) × (l.passed + l.failed + length l.rest ≤ length l.lines)

abbrev pub decreases-loop-rest : goal.decreases-loop-rest
decreases-loop-rest g l = length l.rest

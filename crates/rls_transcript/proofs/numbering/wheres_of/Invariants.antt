use Rattle.std.proofs.Common.{◌++◌, List, drop, map}
use Rattle.rls_transcript.specs.declared.numbering.Where.{Where}
use Rattle.rls_transcript.specs.Numbers.{AreNumbered, opening_run}
use Rattle.rls_transcript.proofs.numbering.wheres_of.Given as goal

-- what the lines that are left are answered in leads to the whole
abbrev pub invariant-loop-place : goal.invariant-loop-place
invariant-loop-place l =
    (more : List Where) → AreNumbered (map (λ it. it.now) (drop l.place l.lines)) l.numbering (drop l.place l.tolds) more → AreNumbered (map (λ it. it.now) l.lines) opening_run l.tolds (l.wheres.items ++ more)

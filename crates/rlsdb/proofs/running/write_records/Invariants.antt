use Rattle.std.proofs.Common.{◌≡◌, ℕ, suc, List, drop}
use Rattle.std.specs.List.{All}
use Rattle.rls_check.specs.rls_audit.specs.Showing.{AreTexts}
use Rattle.rlsdb.specs.AuditLines.{WritesRecords}
use Rattle.rlsdb.proofs.running.write_records.Given as goal

-- with the lines of the records that are left the lines of all of them were written
abbrev pub invariant-loop-place : goal.invariant-loop-place
invariant-loop-place g l = record {
  are : l.records ≡ l.book.seen.committed;
  lead : (after : List ℕ) → All AreTexts l.records → WritesRecords (suc l.place) (drop l.place l.records) (g.O.ScriptOut.taken l.output) after → WritesRecords 1 l.records (g.O.ScriptOut.taken l.initial.output) after;
}

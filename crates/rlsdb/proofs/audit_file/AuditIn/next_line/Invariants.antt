use Rattle.std.proofs.Common.{◌≡◌, ◌≢◌, ◌++◌, All}
use Rattle.rlsdb.proofs.audit_file.AuditIn.next_line.Given as goal

-- each turn gave a byte that is no LF, which is kept
abbrev pub invariant-loop : goal.invariant-loop
invariant-loop g l = (g.I.ScriptIn.given l.self.input ≡ g.I.ScriptIn.given l.initial.self.input ++ l.line.items) × All (λ byte. byte ≢ 10) l.line.items

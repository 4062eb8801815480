use Rattle.std.proofs.Common.{◌≡◌, ◌++◌, length}
use Rattle.rls_script.proofs.reading.fill.Given as goal

-- each turn gave a byte, which is kept, and no read has failed since
abbrev pub invariant-loop : goal.invariant-loop
invariant-loop g l = (g.I.ScriptIn.failures l.input ≡ g.I.ScriptIn.failures l.initial.input) × (g.I.ScriptIn.given l.input ≡ g.I.ScriptIn.given l.initial.input ++ l.script.items) × (length l.script.items ≡ l.counter)

use Rattle.std.proofs.Common.{◌≡◌}
use Rattle.rls_explain.specs.Seen.{tables_read, with_read}
use Rattle.rls_explain.proofs.seen.tables_read.Given as goal

-- what is left leads to all of them
abbrev pub invariant-loop-object : goal.invariant-loop-object
invariant-loop-object l = with_read l.tables.keys l.object-iterator ≡ tables_read l.read

use Rattle.std.proofs.Common.{◌≡◌, ◌++◌, drop}
use Rattle.rls_text.proofs.naming.put_names.Given as goal

-- what is left leads to the whole
abbrev pub invariant-loop-name : goal.invariant-loop-name
invariant-loop-name l = l.names ++ drop l.name-index l.more ≡ l.fn.names ++ l.more

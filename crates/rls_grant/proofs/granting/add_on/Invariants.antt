use Rattle.std.proofs.Common.{◌≡◌, ◌++◌, drop, map}
use Rattle.rls_grant.specs.Granting.{new_grant}
use Rattle.rls_grant.proofs.granting.add_on.Given as goal

-- what is left leads to the whole
abbrev pub invariant-loop-column : goal.invariant-loop-column
invariant-loop-column l = l.grants ++ map (new_grant l.columns l.option l.grantor l.grantee) (drop l.column-index l.on) ≡ l.fn.grants ++ map (new_grant l.columns l.option l.grantor l.grantee) l.on

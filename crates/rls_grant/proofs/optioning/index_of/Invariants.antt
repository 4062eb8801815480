use Rattle.std.proofs.Common.{◌≡◌, ◌++◌, ℕ, List}
use Rattle.rls_verdict.specs.rls_catalog.specs.Privileges.{optioned_by}
use Rattle.rls_grant.specs.Handed.{under}
use Rattle.rls_grant.proofs.optioning.index_of.Given as goal

-- under each name are those to whom it granted the option, and behind them those of the grants that are left
abbrev pub invariant-loop-grant : goal.invariant-loop-grant
invariant-loop-grant l = (name : List ℕ) → under name l.index.entries ++ optioned_by l.grant-iterator l.privilege name ≡ optioned_by l.grants l.privilege name

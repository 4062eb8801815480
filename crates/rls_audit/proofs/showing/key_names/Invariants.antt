use Rattle.std.specs.List.{AllZip}
use Rattle.std.proofs.Common.{take}
use Rattle.rls_audit.specs.Shows.{NamesColumn}
use Rattle.rls_audit.proofs.showing.key_names.Given as goal

-- the first places have these names
abbrev pub invariant-loop-place : goal.invariant-loop-place
invariant-loop-place l = AllZip (NamesColumn l.columns) l.names (take l.place-index l.key)

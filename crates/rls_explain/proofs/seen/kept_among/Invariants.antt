use Rattle.std.proofs.Common.{◌≡◌, ◌++◌, filter, map}
use Rattle.rls_value.specs.Names.{one_of}
use Rattle.rls_explain.proofs.seen.kept_among.Given as goal

-- those so far, and those of the names that are left, are all
abbrev pub invariant-loop-name : goal.invariant-loop-name
invariant-loop-name l = let kept = filter (one_of (map (λ one. one.table) l.listed)) in l.names ++ kept l.name-iterator ≡ kept l.tables.keys

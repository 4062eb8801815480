use Rattle.std.proofs.Common.{◌≡◌, ◌++◌, [], ◌∷◌, drop, map}
use Rattle.std.specs.Prelude.{nat_eq}
use Rattle.std.specs.List.{list_any}
use Rattle.rls_expr.specs.Parts.{mentions}
use Rattle.rls_expr.specs.Selecting.{columns_of, names_where}
use Rattle.rls_expr.proofs.columns.columns_of.Given as goal

-- the names so far, and those of the columns that are left, are all
abbrev pub invariant-loop-place : goal.invariant-loop-place
invariant-loop-place l =
    l.names ++ names_where (λ place. list_any (mentions (nat_eq place) 0) (map (λ expr. expr.now) l.exprs)) l.place (drop l.place l.columns)
    ≡ columns_of l.columns (map (λ expr. expr.now) l.exprs)

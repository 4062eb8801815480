-- Which columns may be named inside subqueries, one in another.
use Rattle.std.specs.Prelude.{ℕ, Bool}
use Rattle.rls_evaluation.specs.declared.outer_columns.Inside.{Inside}
use Rattle.rls_evaluation.specs.declared.outer_columns.Inside.TheVariants.{Outer, Table'}
use Rattle.rls_evaluation.specs.OuterColumns.{is_among, within}

-- those of the tables inside, and those of the list
abbrev pub named_in : Inside → ℕ → ℕ → Bool
named_in (Outer columns) = is_among columns.now
named_in (Table' p outer) = within (named_in outer)

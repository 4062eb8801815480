use Rattle.std.proofs.Common.{◌≡◌, ◌+◌, length}
use Rattle.std.specs.Prelude.{suc}
use Rattle.std.specs.{List.position_or_len, Str.bytes_eq}
use Rattle.rls_grant.proofs.columns.place_of.Given as goal

-- those before, and the place in what is left
abbrev pub invariant-loop-rest : goal.invariant-loop-rest
invariant-loop-rest l = (l.place + position_or_len (λ column. bytes_eq column.name l.name) l.rest ≡ suc (position_or_len (λ column. bytes_eq column.name l.name) l.columns)) × (l.place + length l.rest ≡ suc (length l.columns))

abbrev pub decreases-loop-rest : goal.decreases-loop-rest
decreases-loop-rest l = length l.rest

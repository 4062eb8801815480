use Rattle.std.proofs.Common.{◌≡◌, length}
use Rattle.std.specs.Prelude.{None}
use Rattle.std.specs.Option.{option_copied}
use Rattle.rls_catalog.specs.Verdict.{names_where, least}
use Rattle.rls_verdict.proofs.combining.first_name.Given as goal

-- what is left leads to the whole
abbrev pub invariant-loop-judgements : goal.invariant-loop-judgements
invariant-loop-judgements l = least (option_copied l.best) (names_where l.permissive l.passes l.judgements) ≡ least None (names_where l.permissive l.passes l.fn.judgements)

abbrev pub decreases-loop-judgements : goal.decreases-loop-judgements
decreases-loop-judgements l = length l.judgements

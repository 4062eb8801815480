use Rattle.std.proofs.Common.{◌≡◌, ◌++◌, Option}
use Rattle.std.specs.Vec.Iter.{into_iter_items}
use Rattle.rls_check.specs.declared.finding.Finding.{Finding}
use Rattle.rls_check.specs.Listing.{first_or}
use Rattle.rls_check.specs.ShownAttempts.{attempts_text, standings_of_all}
use Rattle.rls_check.specs.ShownAudits.{FirstDiffers}
use Rattle.rlsdb.proofs.shown_attempts.show_each.Given as goal

-- what is written, and what is written of the attempts that are left, make the whole; what was found, or else what is found of these,
-- is found first
abbrev pub invariant-loop-one : goal.invariant-loop-one
invariant-loop-one g l = record {
  text : g.O.ScriptOut.taken l.output ++ attempts_text l.wanted (into_iter_items l.one-iterator) ≡ g.O.ScriptOut.taken l.fn.output ++ attempts_text l.wanted l.fn.begun.items;
  found : (rest : Option Finding) → FirstDiffers (standings_of_all (into_iter_items l.one-iterator)) rest → FirstDiffers (standings_of_all l.fn.begun.items) (first_or l.found rest);
}

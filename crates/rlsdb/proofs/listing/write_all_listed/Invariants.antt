use Rattle.std.proofs.Common.{◌≡◌, ◌++◌, Option, length}
use Rattle.rls_check.specs.declared.finding.Finding.{Finding}
use Rattle.rls_check.specs.Listing.{first_or}
use Rattle.rlsdb.specs.Listing.{FirstOfUnlisted, text_of}
use Rattle.rlsdb.proofs.listing.write_all_listed.Given as goal

-- what is written, and what is written of the transactions that are left, make the whole; what was found, or else what is found of
-- these, is found first
abbrev pub invariant-loop-listed : goal.invariant-loop-listed
invariant-loop-listed g l = record {
  text : g.O.ScriptOut.taken l.output ++ text_of l.listing ≡ g.O.ScriptOut.taken l.fn.output ++ text_of l.fn.listing;
  found : (rest : Option Finding) → FirstOfUnlisted l.listing rest → FirstOfUnlisted l.fn.listing (first_or l.found rest);
}

abbrev pub decreases-loop-listed : goal.decreases-loop-listed
decreases-loop-listed g l = length l.listing.places

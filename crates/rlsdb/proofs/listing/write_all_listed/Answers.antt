use Rattle.std.proofs.Common.{Ok, ap, subst}
use Rattle.std.specs.Prelude.{IfSome}
use Rattle.rls_check.specs.declared.listing.Listed.{Listed}
use Rattle.rls_check.specs.Listing.{IsNextListed}
use Rattle.rlsdb.proofs.ListingLemmas.{found_all, found_on, written_on}
use Rattle.rlsdb.proofs.listing.write_all_listed.Goals as goal

-- one transaction more is written, and what its statements come to is compared
pub loop-listed-preserved : goal.loop-listed-preserved
loop-listed-preserved g c =
    let listed = c.in-Some.listed in
    let before = c.loop-listed.listing in
    let after = c.next.new.self in
    let next : IsNextListed before listed after = subst (λ found. IfSome found (λ (it : Listed). IsNextListed before it after)) c.in-Some.is c.in_ok-listed.ensures.next in
    record {
      text = written_on listed before after (g.O.ScriptOut.taken c.loop-listed.output) _ _ next c.in_ok-write_listed.ensures c.loop-listed.invariant.text;
      found = found_on listed before after c.args.listing.now c.loop-listed.found c.first_or-found.result next c.first_or-found.ensures c.loop-listed.invariant.found;
    }

-- none is left, so what was found is found first
pub returns-clause-found : goal.returns-clause-found
returns-clause-found g c = found_all c.loop-listed.listing c.args.listing.now c.loop-listed.found (c.in_ok-listed.ensures.end (ap Ok c.in_default.is)) c.loop-listed.invariant.found

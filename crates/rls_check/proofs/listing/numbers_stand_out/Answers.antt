use Rattle.rls_check.proofs.ListingLemmas.{numbers_stand_out}
use Rattle.rls_check.proofs.listing.numbers_stand_out.Goals as goal

pub returns : goal.returns
returns c = numbers_stand_out

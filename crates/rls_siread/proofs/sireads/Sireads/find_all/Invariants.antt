use Rattle.std.proofs.Common.{◌≡◌, []}
use Rattle.rls_siread.specs.Locks.{with_holders}
use Rattle.rls_siread.proofs.sireads.Sireads.find_all.Given as goal

-- the holders of what is left lead to all
abbrev pub invariant-loop-object : goal.invariant-loop-object
invariant-loop-object l = with_holders l.self.holders l.found.txns l.object-iterator ≡ with_holders l.self.holders [] l.objects

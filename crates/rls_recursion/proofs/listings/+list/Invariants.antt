use Rattle.std.proofs.Common.{◌≡◌, ◌+◌, ◌*◌, drop}
use Rattle.std.specs.Prelude.{fold}
use Rattle.rls_recursion.specs.Listings as spec
use Rattle.rls_recursion.proofs.listings.+list.Given as goal

-- the policies that may still be gone through
abbrev pub decreases-list_from : goal.decreases-list_from
decreases-list_from l = 2 * l.depth

abbrev pub decreases-list_all : goal.decreases-list_all
decreases-list_all l = 2 * l.depth + 1

-- what is left leads to the whole
abbrev pub invariant-list_all-loop-one : goal.invariant-list_all-loop-one
invariant-list_all-loop-one l = fold (spec.list_from l.depth (spec.leads_of l.policies)) l.fn.listing l.selected ≡ fold (spec.list_from l.depth (spec.leads_of l.policies)) l.listing (drop l.one-index l.selected)

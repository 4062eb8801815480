use Rattle.std.specs.List.{AllZip}
use Rattle.std.proofs.Common.{take}
use Rattle.rls_audit.specs.ShownParts.{ShowsPost}
use Rattle.rls_audit.proofs.showing.answered.Given as goal

-- those so far show the first posts
abbrev pub invariant-loop-posted : goal.invariant-loop-posted
invariant-loop-posted l = AllZip ShowsPost l.all (take l.posted-index l.posts)

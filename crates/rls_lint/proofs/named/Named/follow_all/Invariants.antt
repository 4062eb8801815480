use Rattle.std.proofs.Common.{◌≡◌, length}
use Rattle.rls_lint.specs.Naming.{followed_all}
use Rattle.rls_lint.proofs.named.Named.follow_all.Given as goal

-- the changes that are left lead to what all lead to
abbrev pub invariant-loop-changes : goal.invariant-loop-changes
invariant-loop-changes l = followed_all l.self l.changes ≡ followed_all l.initial.self l.initial.changes

abbrev pub decreases-loop-changes : goal.decreases-loop-changes
decreases-loop-changes l = length l.changes

use Rattle.std.proofs.Common.{◌+◌, ◌*◌, length}
use Rattle.large_stack.proofs.each.+places.Given as goal

abbrev pub decreases-each_from : goal.decreases-each_from
decreases-each_from g l = 3 * length l.s.now

abbrev pub decreases-first_apart : goal.decreases-first_apart
decreases-first_apart g l = 3 * length l.rest.now + 2

abbrev pub decreases-first_apart-here : goal.decreases-first_apart-here
decreases-first_apart-here g l = 3 * length l.rest.now + 1

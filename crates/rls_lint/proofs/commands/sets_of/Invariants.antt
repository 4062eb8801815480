use Rattle.std.proofs.Common.{◌≡◌, drop, fold}
use Rattle.rls_lint.specs.Commands.{sets_of, with_commands}
use Rattle.rls_lint.proofs.commands.sets_of.Given as goal

-- the sets so far, with those that are left, are all
abbrev pub invariant-loop-it : goal.invariant-loop-it
invariant-loop-it l = fold with_commands l.sets (drop l.it-index l.denied) ≡ sets_of l.denied

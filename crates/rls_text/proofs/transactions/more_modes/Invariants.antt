use Rattle.std.proofs.Common.{◌≡◌, ◌-◌, length}
use Rattle.rls_text.specs.Parses.{read_many}
use Rattle.rls_text.specs.Gives.{with_front}
use Rattle.rls_text.specs.Transactions as g
use Rattle.rls_text.proofs.transactions.more_modes.Given as goal

-- what was read stands before what is read next
abbrev pub invariant-loop-turn : goal.invariant-loop-turn
invariant-loop-turn l = with_front l.fn.first (read_many g.mode_more g.next_mode.parses.read (length l.tokens) l.tokens) ≡ with_front l.all (read_many g.mode_more g.next_mode.parses.read (l._turn-end - l._turn) l.rest)

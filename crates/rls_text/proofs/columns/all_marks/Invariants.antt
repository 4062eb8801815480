use Rattle.std.proofs.Common.{◌≡◌, ◌-◌, length}
use Rattle.rls_text.specs.Parses.{read_many}
use Rattle.rls_text.specs.FirstSets.{mark_heads}
use Rattle.rls_text.specs.Gives.{with_front}
use Rattle.rls_text.specs.Grammar as g
use Rattle.rls_text.proofs.columns.all_marks.Given as goal

-- what was read stands before what is read next
abbrev pub invariant-loop-turn : goal.invariant-loop-turn
invariant-loop-turn l = read_many mark_heads g.column_mark.parses.read (length l.tokens) l.tokens ≡ with_front l.all (read_many mark_heads g.column_mark.parses.read (l._turn-end - l._turn) l.rest)

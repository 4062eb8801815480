use Rattle.std.specs.Prelude.{ℕ, List, map}
use Rattle.std.specs.Borrow.{Bor}
use Rattle.rlsdb.proofs.NumberLemmas.{answers}
use Rattle.rlsdb.proofs.numbering.number_lines.Goals as goal

pub returns-then-are_booked-clause-answers : goal.returns-then-are_booked-clause-answers
returns-then-are_booked-clause-answers g c =
    answers c.args.terse c.are_booked.result (map (λ (line : Bor (List ℕ)). line.now) c.args.lines.now) c.in_ok-answered.answered.tolds.items c.as_slice.result.now c.in_ok-wheres.wheres.items c.as_slice-2.result.now c.in_ok-answered.answered.book.seen.committed c.records.result.now
    c.in_ok-answered.ensures.answered c.as_slice.ensures.value c.in_ok-wheres.ensures c.records.ensures.records c.as_slice-2.ensures.value c.are_booked.ensures c.if-are_booked.true

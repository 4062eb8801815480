use Rattle.std.proofs.Common.{◌≡◌, refl, drop, [], ap, subst, drop_of_length-le}
use Rattle.std.specs.List.{All}
use Rattle.rls_check.specs.rls_audit.specs.Lines as shown
use Rattle.rls_check.specs.rls_audit.specs.Lines.{lines_from}
use Rattle.rls_check.specs.rls_audit.specs.Printed.{printed_line, texts_from}
use Rattle.rls_check.specs.rls_audit.specs.Showing.{AreTexts}
use Rattle.rlsdb.specs.AuditLines.{WritesRecords}
use Rattle.rlsdb.proofs.BookLemmas.{ended, led}
use Rattle.rlsdb.proofs.running.write_records.Goals as goal

pub returns : goal.returns
returns g c =
    let records = c.records-records.result.now in
    let written = g.O.ScriptOut.taken c.loop-place.output in
    let none_left : drop c.loop-place.place records ≡ [] = drop_of_length-le records c.loop-place-test.false in
    subst (λ it. All AreTexts it → WritesRecords 1 it (g.O.ScriptOut.taken c.args.output.now) written) c.records-records.ensures.records
    (λ texts. c.loop-place.invariant.lead written texts (ended _ _ written (ap (texts_from _) none_left) (ap (lines_from _) none_left)))

pub loop-place-preserved : goal.loop-place-preserved
loop-place-preserved g c = record {
  are = c.loop-place.invariant.are;
  lead = λ after texts more. c.loop-place.invariant.lead after texts
      (led c.written_lines_mean.ensures AreTexts (λ n it. shown.Txn (shown.shown n it)) printed_line lines_from texts_from (λ n it more. refl) (λ n it more. refl) c.records-records.result.now c.loop-place.place c.index-records-place.result c.in_ok-line.line
      (g.O.ScriptOut.taken c.loop-place.output) (g.O.ScriptOut.taken c.write_audit_line.new.output) after
      c.loop-place-test.true c.index-records-place.is texts c.in_ok-line.ensures.shows c.in_ok-line.ensures.printed c.in_ok-write_audit_line.ensures more);
}

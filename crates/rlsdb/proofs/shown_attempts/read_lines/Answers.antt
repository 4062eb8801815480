use Rattle.std.proofs.Common.{ℕ, List, subst, ◌++◌, ◌∷◌, [], length}
use Rattle.rls_check.specs.Attempts.{HasReadAttempts}
use Rattle.rlsdb.specs.AuditLines.{ReadsNext}
use Rattle.rlsdb.specs.declared.audit_file.NextLine.TheVariants as came
use Rattle.rlsdb.proofs.LineLemmas.{last_read, one_more}
use Rattle.rlsdb.proofs.shown_attempts.read_lines.Goals as goal

pub returns-in-Last-clause-lines : goal.returns-in-Last-clause-lines
returns-in-Last-clause-lines g c =
    let so = c.loop.invariant in
    let commits = length c.args.audit.now.transactions in
    let line = c.next_line.new.line.items in
    let before = g.I.ScriptIn.given c.loop.input.input in
    let after = g.I.ScriptIn.given c.next_line.new.self.input in
    let ended = g.I.ScriptIn.ended c.next_line.new.self.input in
    let next : ReadsNext came.Last before after ended line = subst (λ it. ReadsNext it before after ended line) c.in-Last.is c.in_ok-next_line.ensures.line in
    last_read (λ texts. HasReadAttempts commits texts c.in_ok-line-in-Last.field-0) (g.I.ScriptIn.given c.args.input.now.input) before after so.0 line ended so.1 next
    (subst (λ l. HasReadAttempts commits (so.0 ++ (l ∷ [])) c.in_ok-line-in-Last.field-0) c.as_slice-in-Last.ensures.value (c.in_ok-line-in-Last.ensures.whole commits so.0 so.2))

pub loop-preserved : goal.loop-preserved
loop-preserved g c =
    let so = c.loop.invariant in
    let commits = length c.args.audit.now.transactions in
    let line = c.next_line.new.line.items in
    let before = g.I.ScriptIn.given c.loop.input.input in
    let after = g.I.ScriptIn.given c.next_line.new.self.input in
    let ended = g.I.ScriptIn.ended c.next_line.new.self.input in
    let next : ReadsNext came.Whole before after ended line = subst (λ it. ReadsNext it before after ended line) c.in-Whole.is c.in_ok-next_line.ensures.line in (
      so.0 ++ (line ∷ []),
      one_more (g.I.ScriptIn.given c.args.input.now.input) before after so.0 line so.1 next,
      subst (λ l. HasReadAttempts commits (so.0 ++ (l ∷ [])) c.in_ok-reader-in-Whole.reader) c.as_slice.ensures.value (c.in_ok-reader-in-Whole.ensures.whole commits so.0 so.2),
    )

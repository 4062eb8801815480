use Rattle.std.specs.List.{All}
use Rattle.std.proofs.Common.{sym, subst, ◌∙◌}
use Rattle.rls_audit.specs.Lines as lines
use Rattle.rls_audit.specs.Lines.{shown}
use Rattle.rls_audit.specs.Showing.{CanShow}
use Rattle.rls_audit_lines.specs.Unshown.{Fails}
use Rattle.rls_audit.specs.Shows.{ShowsLine}
use Rattle.rls_audit.proofs.ShowingLemmas.{line_printed, line_shows}
use Rattle.rls_audit.proofs.showing.line_of_record.Goals as goal

pub returns-in_ok-line_with-in-Ok : goal.returns-in_ok-line_with-in-Ok
returns-in_ok-line_with-in-Ok c = record {
  shows = λ texts.
      subst (λ line. ShowsLine line (lines.Txn (shown c.args.commit c.args.record.now))) (sym c.in_ok-line_with-in-Ok.ensures)
      (line_shows c.args.commit c.args.record.now c.posts.result.now c.in-Ok.statements c.in-Ok.changes c.posts.ensures.statements c.posts.ensures.effects c.in-Ok.ensures.0 c.in-Ok.ensures.1 texts);
  printed = c.in_ok-line_with-in-Ok.ensures
      ∙ line_printed c.args.commit c.args.record.now c.posts.result.now c.in-Ok.statements c.in-Ok.changes c.posts.ensures.statements c.posts.ensures.effects c.in-Ok.ensures.0 c.in-Ok.ensures.1;
}

pub returns-in-Err-clause-shows : goal.returns-in-Err-clause-shows
returns-in-Err-clause-shows c = subst (λ effects. Fails c.in-Err.why (All CanShow effects)) c.posts.ensures.effects c.in-Err.ensures

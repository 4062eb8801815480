use Rattle.std.proofs.Common.{subst}
use Rattle.rls_audit.specs.rls_audit_lines.specs.Reading.{TellsWhether}
use Rattle.rls_check.specs.Forms.{Follows, FollowerOf}
use Rattle.rls_check.proofs.FormLemmas.{follower_means, no_follower, line_refused}
use Rattle.rls_check.proofs.form.Form.following.Goals as goal

pub returns-else-follows : goal.returns-else-follows
returns-else-follows c =
    let used = c.args.self.now.used in
    no_follower c.args.number c.args.second used c.args.text.now c.in-Ok.line c.in-Ok.ensures (subst (λ b. TellsWhether b (Follows used c.in-Ok.line)) c.if-follows.false c.follows.ensures)

pub returns-in-Err : goal.returns-in-Err
returns-in-Err c =
    let used = c.args.self.now.used in
    line_refused c.args.number c.in-Err.refusal c.args.text.now c.args.second (FollowerOf c.args.second used c.args.text.now) (follower_means c.args.second used c.args.text.now) c.in-Err.ensures

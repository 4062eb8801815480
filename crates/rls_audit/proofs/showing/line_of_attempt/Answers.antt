use Rattle.std.specs.Prelude.{map}
use Rattle.std.specs.List.{All, AllZip}
use Rattle.std.proofs.Common.{subst}
use Rattle.rls_core.specs.Posts.{effect_of}
use Rattle.rls_audit.specs.Showing.{CanShow}
use Rattle.rls_audit_lines.specs.Unshown.{Fails}
use Rattle.rls_audit.specs.ShownParts.{ShowsPost}
use Rattle.rls_audit.proofs.showing.line_of_attempt.Goals as goal

pub attempt_with-requires : goal.attempt_with-requires
attempt_with-requires c = subst (AllZip ShowsPost c.in-Ok.statements) c.as_slice.ensures c.in-Ok.ensures

pub returns-in-Err : goal.returns-in-Err
returns-in-Err c = subst (λ posts. Fails c.in-Err.why (All CanShow (map effect_of posts))) c.as_slice.ensures c.in-Err.ensures

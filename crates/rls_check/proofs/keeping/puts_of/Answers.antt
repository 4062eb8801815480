use Rattle.std.specs.Prelude.{List, [], ◌∷◌, ◌++◌}
use Rattle.std.specs.List.{AllZip}
use Rattle.std.proofs.Common.{sym, subst}
use Rattle.rls_audit.specs.rls_audit_lines.specs.Reading.{HasPolicies}
use Rattle.rls_check.specs.Keeping.{KeepsPut}
use Rattle.rls_check.proofs.KeepingLemmas.{zip_push, rest_are}
use Rattle.rls_check.proofs.keeping.puts_of.Goals as goal

pub loop-changed-preserved : goal.loop-changed-preserved
loop-changed-preserved c =
    let at = c.loop-changed in
    let x = c.in-Some.changed in
    record {
      kept = subst (AllZip KeepsPut (at.yielded ++ x ∷ [])) (sym c.in_ok-push.ensures.ok) (zip_push KeepsPut at.yielded at.puts x c.in_ok-put.put at.invariant.kept c.in_ok-put.ensures);
      are = rest_are HasPolicies x c.next.new.self.rest.items at.changed-iterator.rest.items c.in-Some.ensures.steps.0 at.invariant.are;
    }

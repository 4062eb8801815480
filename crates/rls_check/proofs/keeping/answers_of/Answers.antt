use Rattle.std.specs.Prelude.{List, [], ◌∷◌, ◌++◌}
use Rattle.std.specs.List.{All, AllZip}
use Rattle.std.proofs.Common.{sym, subst}
use Rattle.rls_audit.specs.rls_audit_lines.specs.Reading.{HasStatement}
use Rattle.rls_check.specs.Keeping.{KeepsAnswer}
use Rattle.rls_check.proofs.KeepingLemmas.{zip_push, first_is, rest_are}
use Rattle.rls_check.proofs.keeping.answers_of.Goals as goal

pub loop-answered-init : goal.loop-answered-init
loop-answered-init c =
    record { kept = subst (AllZip KeepsAnswer []) (sym c.in_ok-answers.ensures) tt; are = subst (All HasStatement) (sym c.into_iter-answered-iterator.ensures.into_iter_gives.0) c.requires }

pub answer_of-requires : goal.answer_of-requires
answer_of-requires c = first_is HasStatement c.in-Some.answered c.next.new.self.rest.items c.loop-answered.answered-iterator.rest.items c.in-Some.ensures.steps.0 c.loop-answered.invariant.are

pub loop-answered-preserved : goal.loop-answered-preserved
loop-answered-preserved c =
    let at = c.loop-answered in
    let x = c.in-Some.answered in
    record {
      kept = subst (AllZip KeepsAnswer (at.yielded ++ x ∷ [])) (sym c.in_ok-push.ensures.ok) (zip_push KeepsAnswer at.yielded at.answers x c.in_ok-answer.answer at.invariant.kept c.in_ok-answer.ensures);
      are = rest_are HasStatement x c.next.new.self.rest.items at.answered-iterator.rest.items c.in-Some.ensures.steps.0 at.invariant.are;
    }

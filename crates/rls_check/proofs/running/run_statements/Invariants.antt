use Rattle.std.proofs.Common.{◌≡◌, ◌+◌, ◌++◌, ℕ, drop}
use Rattle.std.specs.Prelude.{Option}
use Rattle.std.specs.List.{flat_map}
use Rattle.rls_audit.specs.Lines.{ordered_changes}
use Rattle.rls_audit.specs.rls_core.specs.Alone.{effects_alone, state_alone, changes_made}
use Rattle.rls_check.specs.Audited.{asked_of}
use Rattle.rls_check.specs.Checking.{FirstOther}
use Rattle.rls_check.proofs.running.run_statements.Given as goal

-- what is left leads to the whole
abbrev pub invariant-loop-answer : goal.invariant-loop-answer
invariant-loop-answer l =
    let rest = drop l.answer-index l.answers in
    record {
      counted : l.number ≡ l.answer-index + 1;
      first : (found : Option ℕ) → FirstOther l.number l.alone.ctx l.alone.state rest found → FirstOther 1 l.fn.alone.ctx l.fn.alone.state l.answers found;
      state : state_alone l.alone.ctx (asked_of rest) l.alone.state ≡ state_alone l.fn.alone.ctx (asked_of l.answers) l.fn.alone.state;
      changes : l.alone.changes ++ changes_made (effects_alone l.alone.ctx (asked_of rest) l.alone.state) ≡ l.fn.alone.changes ++ changes_made (effects_alone l.fn.alone.ctx (asked_of l.answers) l.fn.alone.state);
      ordered : l.alone.ordered ++ flat_map ordered_changes (effects_alone l.alone.ctx (asked_of rest) l.alone.state) ≡ l.fn.alone.ordered ++ flat_map ordered_changes (effects_alone l.fn.alone.ctx (asked_of l.answers) l.fn.alone.state);
    }

use Rattle.std.proofs.Common.{◌≡◌, drop}
use Rattle.rls_audit.specs.rls_core.specs.Alone.{state_alone}
use Rattle.rls_check.specs.Audited.{asked_of}
use Rattle.rls_check.specs.Explaining.{ctx_alone}
use Rattle.rls_check.proofs.explaining.run_all.Given as goal

-- what is left leads to the whole
abbrev pub invariant-loop-answer : goal.invariant-loop-answer
invariant-loop-answer l =
    let rest = drop l.answer-index l.answers in
    record {
      state : state_alone l.alone.ctx (asked_of rest) l.alone.state ≡ state_alone l.fn.alone.ctx (asked_of l.answers) l.fn.alone.state;
      ctx : ctx_alone l.alone.ctx (asked_of rest) l.alone.state ≡ ctx_alone l.fn.alone.ctx (asked_of l.answers) l.fn.alone.state;
    }

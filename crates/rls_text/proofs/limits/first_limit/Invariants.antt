use Rattle.std.proofs.Common.{◌≡◌, ◌≤◌, drop}
use Rattle.rls_text.specs.ParseResults as spec
use Rattle.rls_text.proofs.limits.first_limit.Given as goal

-- what is left passes the limit that the whole passes
abbrev pub invariant-loop-token : goal.invariant-loop-token
invariant-loop-token l = record {
  same : spec.limit_from 0 l.tokens ≡ spec.limit_from l.unclosed (drop l.token-index l.tokens);
  few : l.unclosed ≤ 256;
}

use Rattle.std.proofs.Common.{◌≡◌, drop}
use Rattle.std.specs.List.{list_any}
use Rattle.rls_expr.specs.Scopes.{in_scope}
use Rattle.rls_lint.specs.Lookups.{is_wrong_reading}
use Rattle.rls_lint.proofs.lookups.reads_wrongly.Given as goal

-- none of those so far is wrong
abbrev pub invariant-loop-reading : goal.invariant-loop-reading
invariant-loop-reading l =
    let wrong = is_wrong_reading l.how l.state (in_scope l.from) (in_scope l.other) l.role in
    list_any wrong (drop l.reading-index l.readings) ≡ list_any wrong l.readings

use Rattle.std.proofs.Common.{subst}
use Rattle.rls_value.specs.{declared.refusal.Refusal.Refusal, Giving.Fails}
use Rattle.rls_expr.specs.Scopes.{in_scope}
use Rattle.rls_meaning.specs.Expanding.{expansion_in}
use Rattle.rls_lint.specs.Loops.{command_of}
use Rattle.rls_lint.proofs.Closing.{closes_nowhere, closes_on}
use Rattle.rls_lint.proofs.linted.closing_of.Goals as goal

pub returns-in-Ok : goal.returns-in-Ok
returns-in-Ok c =
    let it = command_of c.args.role.now (in_scope c.args.from) c.args.kind in
    closes_nowhere c.args.state.now it c.in-Ok.expansion (c.expansion_means.ensures c.args.state.now it) c.in-Ok.ensures

pub returns-in-Err-Recursion : goal.returns-in-Err-Recursion
returns-in-Err-Recursion c =
    let it = command_of c.args.role.now (in_scope c.args.from) c.args.kind in
    closes_on c.args.state.now it c.in-Err-Recursion.table (c.expansion_means.ensures c.args.state.now it)
    (subst (λ (r : Refusal). Fails r (expansion_in c.args.state.now it)) c.in-Err-Recursion.field-0-is c.in-Err-Recursion.ensures)

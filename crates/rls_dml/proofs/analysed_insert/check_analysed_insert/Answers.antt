use Rattle.std.proofs.Common.{Ok, subst}
use Rattle.rls_value.specs.Giving.{Gives, and_then}
use Rattle.rls_dml.specs.Inserting.{analysed_insert_or_refused, analysed_insert_resolved}
use Rattle.rls_dml.proofs.analysed_insert.check_analysed_insert.Goals as goal

-- what is checked is what was resolved
pub returns-clause-given : goal.returns-clause-given
returns-clause-given c =
    subst (λ columns. Gives c.allowed.result (and_then (analysed_insert_or_refused c.args.next columns (analysed_insert_resolved c.args.insert.now (c.args.insert.now.table, c.args.table.now) c.args.places c.args.found)) (λ _. Ok (analysed_insert_resolved c.args.insert.now (c.args.insert.now.table, c.args.table.now) c.args.places c.args.found))))
    c.as_slice.ensures
    (subst (λ analysed_insert. Gives c.allowed.result (and_then (analysed_insert_or_refused c.args.next c.as_slice.result.now analysed_insert) (λ _. Ok analysed_insert))) c.in_ok-analysed_insert.ensures c.allowed.ensures.given)

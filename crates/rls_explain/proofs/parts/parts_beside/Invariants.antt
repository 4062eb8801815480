use Rattle.std.proofs.Common.{◌≡◌, ◌++◌, drop, map}
use Rattle.rls_meaning.specs.rls_guard.specs.rls_evaluation.specs.Environments.{over}
use Rattle.rls_explain.specs.{Details.parts_by, Found.sight_found, Found.subterm_of}
use Rattle.rls_explain.proofs.parts.parts_beside.Given as goal

-- the parts so far, and those that are left, are all
abbrev pub invariant-loop-subterm : goal.invariant-loop-subterm
invariant-loop-subterm l =
    let given = parts_by l.catalog (sight_found l.catalog l.judged.relations.now l.judged.role.now) (over l.judged.role.now l.judged.row.now) in
    l.parts.items ++ given (map subterm_of (drop l.subterm-index l.written)) (map subterm_of l.left) ≡ given (map subterm_of l.written) (map subterm_of l.resolved)

use Rattle.std.specs.Prelude.{◌≡◌, ℕ, List, Some, length, slice_get, MatchOption}
use Rattle.std.proofs.Common.{subst}
use Rattle.std.proofs.lemmas.Result.{IfOk-weaker}
use Rattle.rls_conflict.specs.declared.committed.Committed.{Committed}
use Rattle.rls_conflict.specs.Causes.{IsCauseOf}
use Rattle.rls_conflict.specs.Dangers.{with_last, IsNoPivot}
use Rattle.rls_conflict.specs.Named.{IsNamed}
use Rattle.rls_conflict.specs.Search.{NoneAround, IsAround}
use Rattle.rls_conflict.proofs.DangerLemmas.{around_none, around_named}
use Rattle.rls_conflict.proofs.danger.danger_as_pivot.Goals as goal

pub returns-in-Some : goal.returns-in-Some
returns-in-Some c =
    let readers = subst (λ (readers : List ℕ). IsAround c.args.committed.now readers c.as_slice-2.result.now (c.in-Some.first, c.in-Some.last)) c.as_slice.ensures.value c.in-Some.ensures in
    let found = subst (λ (read : List ℕ). IsAround c.args.committed.now c.args.ready.now.readers.items read (c.in-Some.first, c.in-Some.last)) c.as_slice-2.ensures.value readers in
    IfOk-weaker c.cause_around.result
    (λ result. (one three : Committed) → slice_get c.args.committed.now c.in-Some.first ≡ Some one → slice_get c.args.committed.now c.in-Some.last ≡ Some three
    → IsNamed one.transaction c.args.ready.now.covered c.args.ready.now.transaction three.covered three.transaction result)
    (λ result. MatchOption result (IsNoPivot (with_last c.args.committed.now c.args.ready.now.transaction) (length c.args.committed.now)) (IsCauseOf (with_last c.args.committed.now c.args.ready.now.transaction) (length c.args.committed.now)))
    (λ result named. around_named c.args.committed.now c.args.ready.now c.requires.entries c.requires.edges (c.in-Some.first, c.in-Some.last) found result named)
    c.cause_around.ensures

pub returns-in-None : goal.returns-in-None
returns-in-None c =
    let readers = subst (λ (readers : List ℕ). NoneAround c.args.committed.now readers c.as_slice-2.result.now) c.as_slice.ensures.value c.in-None.ensures in
    around_none c.args.committed.now c.args.ready.now c.requires.entries c.requires.edges
    (subst (λ (read : List ℕ). NoneAround c.args.committed.now c.args.ready.now.readers.items read) c.as_slice-2.ensures.value readers)

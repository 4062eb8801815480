use Rattle.std.specs.Prelude.{◌≡◌, ℕ, List, Bool, not, Some, length, slice_get, MatchOption}
use Rattle.std.proofs.Common.{ap, sym, subst, ◌∙◌}
use Rattle.std.proofs.lemmas.Result.{IfOk-weaker}
use Rattle.rls_history.specs.Transactions.{is_empty}
use Rattle.rls_conflict.specs.declared.committed.Committed.{Committed}
use Rattle.rls_conflict.specs.Transactions.{Transaction}
use Rattle.rls_conflict.specs.Causes.{IsCauseOf}
use Rattle.rls_conflict.specs.Dangers.{with_last, IsNoFirst}
use Rattle.rls_conflict.specs.Named.{IsNamed}
use Rattle.rls_conflict.specs.Search.{NoneBeyond, IsBeyond}
use Rattle.rls_conflict.proofs.DangerLemmas.{empty_length, beyond_none, beyond_named}
use Rattle.rls_conflict.proofs.danger.danger_as_first.Goals as goal

pub returns-in-Some : goal.returns-in-Some
returns-in-Some c =
    let seen = c.transaction.view_is ∙ c.get-transaction.ensures in
    let snap = ap (λ (t : Transaction). t.snap) seen in
    let wrote : c.is_empty-has_written.result ≡ is_empty c.args.ready.now.transaction.changes = c.is_empty-has_written.ensures ∙ sym (empty_length c.as_slice.result.now) ∙ ap is_empty (c.as_slice.ensures ∙ ap (λ (t : Transaction). t.changes) seen) in
    let one = subst (λ (read : List ℕ). IsBeyond c.args.committed.now read (not c.is_empty-has_written.result) c.transaction.inside.snap (c.in-Some.pivot, c.in-Some.last)) c.as_slice-2.ensures.value c.in-Some.ensures in
    let two = subst (λ (b : Bool). IsBeyond c.args.committed.now c.args.ready.now.read.items (not b) c.transaction.inside.snap (c.in-Some.pivot, c.in-Some.last)) wrote one in
    let found = subst (λ (at : ℕ). IsBeyond c.args.committed.now c.args.ready.now.read.items (not (is_empty c.args.ready.now.transaction.changes)) at (c.in-Some.pivot, c.in-Some.last)) snap two in
    IfOk-weaker c.cause_beyond.result
    (λ result. (two three : Committed) → slice_get c.args.committed.now c.in-Some.pivot ≡ Some two → slice_get c.args.committed.now c.in-Some.last ≡ Some three
    → IsNamed c.args.ready.now.transaction two.covered two.transaction three.covered three.transaction result)
    (λ result. MatchOption result (IsNoFirst (with_last c.args.committed.now c.args.ready.now.transaction) (length c.args.committed.now)) (IsCauseOf (with_last c.args.committed.now c.args.ready.now.transaction) (length c.args.committed.now)))
    (λ result named. beyond_named c.args.committed.now c.args.ready.now c.requires.entries c.requires.edges (c.in-Some.pivot, c.in-Some.last) found result named)
    c.cause_beyond.ensures

pub returns-in-None : goal.returns-in-None
returns-in-None c =
    let seen = c.transaction.view_is ∙ c.get-transaction.ensures in
    let snap = ap (λ (t : Transaction). t.snap) seen in
    let wrote : c.is_empty-has_written.result ≡ is_empty c.args.ready.now.transaction.changes = c.is_empty-has_written.ensures ∙ sym (empty_length c.as_slice.result.now) ∙ ap is_empty (c.as_slice.ensures ∙ ap (λ (t : Transaction). t.changes) seen) in
    let one = subst (λ (read : List ℕ). NoneBeyond c.args.committed.now read (not c.is_empty-has_written.result) c.transaction.inside.snap) c.as_slice-2.ensures.value c.in-None.ensures in
    let two = subst (λ (b : Bool). NoneBeyond c.args.committed.now c.args.ready.now.read.items (not b) c.transaction.inside.snap) wrote one in
    beyond_none c.args.committed.now c.args.ready.now c.requires.entries c.requires.edges
    (subst (λ (at : ℕ). NoneBeyond c.args.committed.now c.args.ready.now.read.items (not (is_empty c.args.ready.now.transaction.changes)) at) snap two)

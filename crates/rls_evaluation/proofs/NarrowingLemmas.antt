-- What is gathered over the rows that may meet WHERE is what is gathered over all.
use Rattle.std.specs.Prelude.{◌≡◌, refl, List, Bool, false, Some, None, Result, Ok, Err, IfOk}
use Rattle.std.proofs.Common.{ap, sym, ◌∙◌}
use Rattle.std.specs.declared.alloc.AllocError.{AllocError}
use Rattle.rls_value.specs.{declared.value.Value.Value, declared.object.Object.Object}
use Rattle.rls_source.specs.rls_catalog.specs.rls_expr.specs.Terms.{Terms}
use Rattle.rls_verdict.specs.rls_catalog.specs.State.{State}
use Rattle.rls_source.specs.{Askings.Asking, Askings.asked_if, Askings.followed_by, Askings.known, Footprints.with_reads, Readings.read_then, Readings.unread}
use Rattle.rls_evaluation.specs.{Environments.Environment, Eval.item_if, Gathering.gathered, Holding.Evaluates, Holding.Narrows, Matching.IsUnmet, Matching.LeavesOut}
use Rattle.rls_evaluation.proofs.{CachedIndexLemmas.all_left, MatchingLemmas.gathered_left, Telling.tells_on, Telling.tells_same}

-- a row that doesn't meet WHERE has no item
pub item_out : (meets : Asking Bool) (item : Asking Value) (s : State) → meets.in_state s ≡ unread (Ok false) → (item_if meets item).in_state s ≡ unread (Ok None)
item_out meets item s none = ap (λ r. read_then r (λ is. (asked_if is (followed_by item (λ v. known (Ok (Some v)))) (known (Ok None))).in_state s)) none

-- what is gathered over the rows that are left
pub tells_narrowed : {B R : Type 0} (ranged : Asking (List (List Value))) (condition : Terms) (env : Environment) (put : List Value → B → R → R) (none : R) (ask : List Value → Asking B) (out : B) (before mid after : State) (old between new : List Object)
    (rows slice : List (List Value)) (result : Result R AllocError) → slice ≡ rows → mid ≡ before → Narrows condition ranged env before old between rows
    → ((row : List Value) (s : State) → IsUnmet condition env row → (ask row).in_state s ≡ unread (Ok out)) → ((row : List Value) (rest : R) → put row out rest ≡ rest)
    → Evaluates (gathered put none ask slice) mid after between new result → Evaluates (followed_by ranged (λ rows. gathered put none ask rows)) before after old new result
tells_narrowed ranged condition env put none ask out before mid after old between new rows slice result same stands narrows outside passes told =
    tells_on ranged (λ rows. gathered put none ask rows) before mid after old between new narrows.all result
    (record { given = narrows.given; noted = narrows.noted; stands = stands })
    (tells_same (gathered put none ask narrows.all) (gathered put none ask slice) mid after between new result
    (gathered_left put none ask out narrows.left.test narrows.all mid (λ row is. outside row mid (narrows.left.others row is)) passes
    ∙ ap (λ rows. (gathered put none ask rows).in_state mid) (sym (same ∙ narrows.left.left))) told)

-- all rows are there
pub narrows_all : (ranged other : Asking (List (List Value))) (condition : Terms) (env : Environment) (before after : State) (old new : List Object) (result : Result (List (List Value)) AllocError) → ranged ≡ other
    → Evaluates other before after old new result → IfOk result (λ rows. Narrows condition ranged env before old new rows)
narrows_all ranged other condition env before after old new (Ok rows) is told = record {
  all = rows;
  given = ap (λ asking. (asking.in_state before).gives) is ∙ told.given;
  noted = told.noted ∙ ap (λ asking. with_reads old (asking.in_state before).reads) (sym is);
  left = all_left (IsUnmet condition env) rows rows refl;
}
narrows_all ranged other condition env before after old new (Err refused) is told = tt

-- some of them are
pub narrows_some : (ranged other : Asking (List (List Value))) (condition : Terms) (env : Environment) (before after : State) (old new : List Object) (all : List (List Value)) (result : Result (List (List Value)) AllocError) → ranged ≡ other
    → Evaluates other before after old new (Ok all) → IfOk result (λ rows. LeavesOut (IsUnmet condition env) all rows) → IfOk result (λ rows. Narrows condition ranged env before old new rows)
narrows_some ranged other condition env before after old new all (Ok rows) is told left = record {
  all = all;
  given = ap (λ asking. (asking.in_state before).gives) is ∙ told.given;
  noted = told.noted ∙ ap (λ asking. with_reads old (asking.in_state before).reads) (sym is);
  left = left;
}
narrows_some ranged other condition env before after old new all (Err refused) is told left = tt

-- Transactions that ended without a commit.
use Rattle.std.specs.Prelude.{IfSome}
use Rattle.std.proofs.Common.{◌≡◌, ℕ, List, Option, Some, None, ap, sym, subst, ◌∙◌}
use Rattle.rls_core.specs.rls_guard.specs.rls_catalog.specs.State.{State}
use Rattle.rls_statement.specs.declared.statement.Statement.{Statement}
use Rattle.rls_core.specs.rls_access.specs.Transactions.{Begin, first_ctx}
use Rattle.rls_core.specs.declared.attempt.Remains.{Remains}
use Rattle.rls_core.specs.Alone.{effects_alone}
use Rattle.rls_value.specs.declared.refusal.Refusal.{Refusal}
use Rattle.rls_value.specs.declared.refusal.Refusal.TheVariants.{Serial}
use Rattle.rls_core.specs.Attempts.{IsLeftOf, LeftBy, Leaves}
use Rattle.rls_core.specs.Events.{Running}
use Rattle.rls_core.specs.Headline.{AfterEvents, AreSafe, RunAsRecorded}
use Rattle.rls_core.specs.Records.{Record}
use Rattle.rls_core.specs.Seen.{Seen, core_rules, runs_at, world_of}
use Rattle.rls_engine.specs.Led.{IsLed}
use Rattle.rls_engine.specs.Attempts.{IsAttemptOf, IsEnded, IsLeftOn, IsRecordedOn}
use Rattle.rls_engine.specs.Places.{IsBase, base_state}
use Rattle.rls_engine.specs.Stands.{Stand}
use Rattle.rls_engine.specs.Steps.{Fits}
use Rattle.rls_engine.specs.Views.{Hold, Standing}

-- what holds after every list of events holds where they led
pub led_recorded : (asks : Statement → Type 0) (seen : Seen) → AreSafe core_rules → AfterEvents RunAsRecorded → IsLed asks seen → RunAsRecorded (world_of seen)
led_recorded asks seen safe always led = subst RunAsRecorded (sym led.leads) (always core_rules safe led.events)

-- what fits is recorded
pub fits_recorded : (seen : Seen) (held : Hold) → Fits seen held → RunAsRecorded (world_of seen) → IsRecordedOn held.stand
fits_recorded seen held fits recorded = subst IsRecordedOn (sym fits.stand) (recorded.effects held.txn fits.it fits.runs)

-- what the core leaves of what fits
pub left_on : (seen : Seen) (held : Hold) (left : Option Remains) → Fits seen held → RunAsRecorded (world_of seen) → Leaves held.txn (runs_at seen held.txn) left → IfSome left (IsLeftOn held)
left_on seen held None fits recorded leaves = tt
left_on seen held (Some left) fits recorded leaves =
    let of_it : IsLeftOf held.txn fits.it left = subst (λ (ran : Option Running). Leaves held.txn ran (Some left)) fits.runs leaves in
    record {
      left_of = subst (λ (stand : Stand). IsLeftOf held.txn stand.running left) (sym fits.stand) of_it;
      recorded = fits_recorded seen held fits recorded;
    }

-- the same of a refused post
pub left_by : (seen : Seen) (held : Hold) (why : Refusal) (left : Option Remains) → Fits seen held → RunAsRecorded (world_of seen) → LeftBy held.txn (runs_at seen held.txn) why left → IfSome left (IsLeftOn held)
left_by seen held (Serial cause) left fits recorded leaves = left_on seen held left fits recorded leaves
left_by seen held _ left fits recorded leaves = subst (λ (it : Option Remains). IfSome it (IsLeftOn held)) (sym leaves) tt

-- a snapshot has one number
one_base : (n m : ℕ) (base : Option Standing) → IsBase n base → IsBase m base → n ≡ m
one_base n m None one other = one ∙ sym other
one_base n m (Some place) one other = sym one ∙ other

-- an attempt of what was held
pub attempt_held : (held : Hold) (left : Remains) (base : Option Standing) (snap : ℕ) → IsLeftOn held left → IsBase held.stand.running.so_far.snap base → IsBase snap base
    → IsAttemptOf held.stand (record { txn = held.txn; snap = snap; begin = left.begin; posts = left.posts })
attempt_held held left base snap is there here = record {
  txn = sym is.left_of.number;
  begin = is.left_of.begin;
  snap = one_base snap held.stand.running.so_far.snap base here there;
  statements = is.left_of.statements;
  effects = is.left_of.effects;
}

-- it was shown just what it comes to alone
pub ended_held : (held : Hold) (left : Remains) (base : Option Standing) (snap : ℕ) → IsLeftOn held left → held.stand.base ≡ base_state base → IsBase snap base
    → IsEnded base (record { txn = held.txn; snap = snap; begin = left.begin; posts = left.posts })
ended_held held left base snap is state here =
    let so_far : Record = held.stand.running.so_far in
    let alone : effects_alone (first_ctx so_far.txn so_far.begin) so_far.statements (base_state base) ≡ so_far.effects = subst (λ (s : State). effects_alone (first_ctx so_far.txn so_far.begin) so_far.statements s ≡ so_far.effects) state is.recorded in
    let numbered : effects_alone (first_ctx held.txn left.begin) so_far.statements (base_state base) ≡ so_far.effects = subst (λ (begin : Begin). effects_alone (first_ctx held.txn begin) so_far.statements (base_state base) ≡ so_far.effects) (sym is.left_of.begin) (subst (λ (n : ℕ). effects_alone (first_ctx n so_far.begin) so_far.statements (base_state base) ≡ so_far.effects) is.left_of.number alone) in
    record {
      snap = here;
      shown = ap (λ (asked : List Statement). effects_alone (first_ctx held.txn left.begin) asked (base_state base)) is.left_of.statements ∙ numbered ∙ sym is.left_of.effects;
    }

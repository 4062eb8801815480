-- Each event leads on.
use Rattle.std.specs.Prelude.{◌≡◌, refl, ℕ, List, [], ◌∷◌, ◌++◌, Option, Some, None, Result, Ok, Err, OnOk, OnErr}
use Rattle.std.proofs.Common.{ap, sym, subst, ◌∙◌}
use Rattle.std.proofs.lemmas.List.Elements.{All-append, All-cons, All-nil}
use Rattle.rls_value.specs.declared.refusal.Refusal.{Refusal}
use Rattle.rls_value.specs.declared.refusal.Refusal.TheVariants.{NoMemory, TxnState, Serial}
use Rattle.rls_value.specs.declared.refusal.TxnState.TheVariants.{NoneInProgress}
use Rattle.rls_value.specs.declared.refusal.Cause.TheVariants as cause
use Rattle.rls_statement.specs.declared.statement.Statement.{Statement}
use Rattle.rls_core.specs.rls_access.specs.Transactions.{Begin}
use Rattle.rls_core.specs.Events.{Event, World, happens, run, after}
use Rattle.rls_core.specs.Seen.{Seen, world_of, core_rules, nothing_yet, Happens}
use Rattle.rls_core.specs.Calls.{NotPosted}
use Rattle.rls_engine.specs.Led.{PostsAsked, IsLed}

run_on : (world : World) (events : List Event) (event : Event) → run core_rules world (events ++ event ∷ []) ≡ happens core_rules (run core_rules world events) event
run_on world [] event = refl
run_on world (first ∷ events) event = run_on (happens core_rules world first) events event

module _ (asks : Statement → Type 0) where
  -- no events led to where nothing happened
  pub led_new : (core : Seen) → core ≡ nothing_yet → IsLed asks core
  led_new core is = subst (IsLed asks) (sym is) (record { events = []; leads = refl; asked = All-nil (PostsAsked asks) })

  -- one event more
  pub led_on : (old new : Seen) (event : Event) → IsLed asks old → Happens event old new → PostsAsked asks event → IsLed asks new
  led_on old new event led is asked = record {
    events = led.events ++ event ∷ [];
    leads = is ∙ ap (λ (w : World). happens core_rules w event) led.leads ∙ sym (run_on (world_of nothing_yet) led.events event);
    asked = All-append (PostsAsked asks) led.events (event ∷ []) led.asked (All-cons (PostsAsked asks) event [] asked (All-nil (PostsAsked asks)));
  }

  -- a begin, or what refuses it
  pub begins_led : {X Y : Type 0} (old new : Seen) (who : Begin) (r : Result X Y) → IsLed asks old → OnOk r (Happens (Event.Begins who) old new) → OnErr r (new ≡ old) → IsLed asks new
  begins_led old new who (Ok txn) led is same = led_on old new (Event.Begins who) led is tt
  begins_led old new who (Err why) led is same = subst (IsLed asks) (sym same) led

  -- whatever refuses a post
  pub refused_led : (old new : Seen) (txn : ℕ) (asked : Statement) (why : Refusal) → IsLed asks old → asks asked → NotPosted txn asked old new why → IsLed asks new
  refused_led old new txn asked NoMemory led known is = subst (IsLed asks) (sym is) led
  refused_led old new txn asked (TxnState NoneInProgress) led known is = subst (IsLed asks) (sym is.0) led
  refused_led old new txn asked (Serial (cause.Written object other)) led known is = led_on old new (Event.Posts txn asked) led is.happens known
  refused_led old new txn asked _ led known is = absurd is

-- What holds of records to which events led.
use Rattle.std.specs.Prelude.{◌≡◌, refl, ℕ, ◌==◌, Bool, true, false, cond, Option, Some, None, List, [], ◌∷◌, ◌++◌, length}
use Rattle.std.specs.List.{All}
use Rattle.std.proofs.{Common.subst, Common.sym, lemmas.Option.none-some, lemmas.Option.same_Some, lemmas.List.Elements.All-head, lemmas.List.Elements.All-nil, lemmas.List.Elements.All-push, lemmas.List.Elements.All-tail}
use Rattle.rls_statement.specs.declared.statement.Statement.{Statement}
use Rattle.rls_script.specs.rls_guard.specs.Effects.{changes_of}
use Rattle.rls_engine.specs.rls_access.specs.{Statements.effect_in, Transactions.Begin, Transactions.first_ctx, Transactions.may_begin}
use Rattle.rls_engine.specs.rls_core.specs.{Events.Event, Events.Rules, Events.Running, Events.World, Events.begin, Events.commit, Events.happens, Events.is_taken, Events.post, Events.posted_in, Events.run, Events.seen_by, Events.with_running, Headline.AfterEvents, Headline.AreSafe, Records.Record, Records.history_by, Records.new_record, Records.state_after, Seen.Seen, Seen.core_rules, Seen.world_of}
use Rattle.rls_engine.specs.rls_core.specs.Events.Event.{Begins, Posts, Commits, RollsBack}
use Rattle.rls_engine.specs.Led.{IsLed, PostsAsked}

-- what holds after every list of events
pub led_to : (Claim : World → Type 0) (asks : Statement → Type 0) (seen : Seen) → AreSafe core_rules → AfterEvents Claim → IsLed asks seen → Claim (world_of seen)
led_to Claim asks seen safe after led = subst Claim (sym led.leads) (after core_rules safe led.events)

-- ---- each statement is asked so

module _ (asks : Statement → Type 0) where
  -- the statements of a record are
  abbrev IsAsked : Record → Type 0
  IsAsked it = All asks it.statements

  -- those of all that committed, and of all that run
  record AreAsked (world : World) : Type 0 where
    committed : All IsAsked world.committed
    running : (txn : ℕ) (it : Running) → world.running txn ≡ Some it → IsAsked it.so_far

  with_now : (txn : ℕ) (now : Option Running) (running : ℕ → Option Running) → ((it : Running) → now ≡ Some it → IsAsked it.so_far) → ((q : ℕ) (it : Running) → running q ≡ Some it → IsAsked it.so_far)
      → (q : ℕ) (it : Running) → with_running txn now running q ≡ Some it → IsAsked it.so_far
  with_now txn now running one others q it = by_test (q == txn)
    where
      by_test : (b : Bool) → cond b now (running q) ≡ Some it → IsAsked it.so_far
      by_test true is = one it is
      by_test false is = others q it is

  begun : (b : Bool) (world : World) (who : Begin) → AreAsked world → AreAsked (cond b (begin world who) world)
  begun false world who are = are
  begun true world who are =
      let started : Running = record { so_far = new_record world.next who (length world.committed); ctx = first_ctx world.next who } in
      record {
        committed = are.committed;
        running = with_now world.next (Some started) world.running (λ it is. subst (λ (r : Running). IsAsked r.so_far) (same_Some started it is) (All-nil asks)) are.running;
      }

  one_if : (b : Bool) (new : Running) → IsAsked new.so_far → (it : Running) → cond b None (Some new) ≡ Some it → IsAsked it.so_far
  one_if true new asked it is = absurd (none-some it is)
  one_if false new asked it is = subst (λ (r : Running). IsAsked r.so_far) (same_Some new it is) asked

  posted : (rules : Rules) (world : World) (txn : ℕ) (asked : Statement) (now : Option Running) → world.running txn ≡ now → asks asked → AreAsked world → AreAsked (post rules world txn asked now)
  posted rules world txn asked None is known are = are
  posted rules world txn asked (Some it) is known are =
      let s = seen_by world.committed it.so_far in
      let new : Running = posted_in rules s it asked in
      let taken : Bool = is_taken world txn it.so_far.snap (changes_of (effect_in s it.ctx asked)) in
      record {
        committed = are.committed;
        running = with_now txn (cond taken None (Some new)) world.running (one_if taken new (All-push asks it.so_far.statements asked (are.running txn it is) known)) are.running;
      }

  committed_if : (b : Bool) (records : List Record) (it : Record) → All IsAsked records → IsAsked it → All IsAsked (cond b records (records ++ it ∷ []))
  committed_if true records it all one = all
  committed_if false records it all one = All-push IsAsked records it all one

  sealed : (rules : Rules) (world : World) (txn : ℕ) (now : Option Running) → world.running txn ≡ now → AreAsked world → AreAsked (commit rules world txn now)
  sealed rules world txn None is are = are
  sealed rules world txn (Some it) is are = record {
    committed = committed_if (rules.test (history_by (world.committed ++ it.so_far ∷ [])) (length world.committed)) world.committed it.so_far are.committed (are.running txn it is);
    running = with_now txn None world.running (λ r none. absurd (none-some r none)) are.running;
  }

  happened : (rules : Rules) (world : World) (event : Event) → PostsAsked asks event → AreAsked world → AreAsked (happens rules world event)
  happened rules world (Begins who) known are = begun (may_begin (state_after world.committed (length world.committed)) who) world who are
  happened rules world (Posts txn asked) known are = posted rules world txn asked (world.running txn) refl known are
  happened rules world (Commits txn) known are = sealed rules world txn (world.running txn) refl are
  happened rules world (RollsBack txn) known are = record { committed = are.committed; running = with_now txn None world.running (λ r none. absurd (none-some r none)) are.running }

  all_happened : (rules : Rules) (world : World) (events : List Event) → All (PostsAsked asks) events → AreAsked world → AreAsked (run rules world events)
  all_happened rules world [] known are = are
  all_happened rules world (event ∷ events) known are =
      all_happened rules (happens rules world event) events (All-tail (PostsAsked asks) event events known) (happened rules world event (All-head (PostsAsked asks) event events known) are)

  pub led_asked : (seen : Seen) → IsLed asks seen → All IsAsked seen.committed
  led_asked seen led =
      let start : World = record { committed = []; running = λ txn. None; next = 1 } in
      let none : AreAsked start = record { committed = All-nil IsAsked; running = λ txn it is. absurd (none-some it is) } in
      subst (λ (w : World). All IsAsked w.committed) (sym led.leads) (all_happened core_rules start led.events led.asked none).committed

-- What stands in a core, after one event.
use Rattle.std.specs.Prelude.{◌≡◌, refl, ℕ, zero, suc, ◌<◌, ◌≤◌, ◌+◌, ◌-◌, nat_eq, Bool, true, false, cond, Option, Some, None, List, [], ◌∷◌, ◌++◌, map, length, get_or, unwrap_or}
use Rattle.std.specs.BTreeMap.{is_at}
use Rattle.std.specs.Option.{option_map, is_some}
use Rattle.std.specs.Ordering.{nat_cmp}
use Rattle.std.proofs.Common.{ap, sym, subst, ◌∙◌, inl, inr, arith, eq-eqb}
use Rattle.std.proofs.lemmas.Bool.{cases_eq}
use Rattle.rls_catalog.specs.State.{State}
use Rattle.rls_catalog.specs.Changed.{opening, changed_all}
use Rattle.rls_catalog.specs.SoundRows.{RowsAreSound}
use Rattle.rls_conflict.specs.Begun.{at_number}
use Rattle.rls_conflict.specs.Transactions.{Transaction, nobody}
use Rattle.rls_conflict.specs.Known.{Known, running_of, running_at, is_running, with_commit_of, Becomes, HasCommitted}
use Rattle.rls_core.specs.Records.{Record, record_at, transaction_of, state_after}
use Rattle.rls_core.specs.Posts.{record_of}
use Rattle.rls_core.specs.Events.{Event, Running, World, seen_by, with_running, happens, run, after}
use Rattle.rls_core.specs.Opened.{Opened, joined, Looks}
use Rattle.rls_core.specs.Seen.{Seen, world_of, newest_state, core_rules}
use Rattle.rls_core.specs.Kept.{joined_in, seen_of, IsKept, IsSame}
use Rattle.rls_core.proofs.AdmittedLemmas.{long_push, at_old, at_new, stands}
use Rattle.rls_core.proofs.JoinedLemmas.{tie, same_number, same_joined}

-- ---- one event more

run_on : (world : World) (events : List Event) (event : Event) → run core_rules world (events ++ event ∷ []) ≡ happens core_rules (run core_rules world events) event
run_on world [] event = refl
run_on world (first ∷ events) event = run_on (happens core_rules world first) events event

pub goes_on : (events : List Event) (event : Event) → after core_rules (events ++ event ∷ []) ≡ happens core_rules (after core_rules events) event
goes_on events event = run_on (record { committed = []; running = λ txn. None; next = 1 }) events event

-- ---- where no commit comes

pub kept_with : (committed : List Record) (known known' : Known) (opens opens' : List (ℕ × Opened)) (next next' : ℕ) (states : List State) (room room' places places' txn : ℕ) (now : Option Opened) (t : Option Transaction) (event : Event)
    → IsKept committed known opens next states room places
    → Becomes txn t known known' → Looks txn now opens opens' → is_some now ≡ is_some t
    → world_of (seen_of committed known' opens' next') ≡ happens core_rules (world_of (seen_of committed known opens next)) event
    → ((it : Opened) → now ≡ Some it → it.view ≡ seen_by committed (record_of (unwrap_or t nobody) it.begin it.posts))
    → ((it : Opened) → now ≡ Some it → RowsAreSound it.view)
    → next ≤ next' → (is_some now ≡ true → txn < next')
    → length committed + length opens' ≤ room' → length opens' ≤ places'
    → IsKept committed known' opens' next' states room' places'
kept_with committed known known' opens opens' next next' states room room' places places' txn now t event kept becomes looks both leads view sound more new fits places_fit = record {
  events = kept.events ++ event ∷ [];
  leads = leads ∙ ap (λ (w : World). happens core_rules w event) kept.leads ∙ sym (goes_on kept.events event);
  known_is = becomes.committed ∙ kept.known_is;
  runs = λ q.
      ap is_some (looks q) ∙ ap (λ (b : Bool). is_some (cond b now (at_number q opens))) (tie txn q)
      ∙ some_by (nat_eq txn q) (at_number q opens) (running_of known q) (kept.runs q)
      ∙ sym (ap is_some (becomes.running q));
  below = λ q is. below_by q (is_at (nat_cmp txn) q) refl (sym (ap is_some (looks q)) ∙ is);
  over = λ i within. (let less = kept.over i within in omega arith);
  count = kept.count;
  states_are = kept.states_are;
  views_are = λ q it is.
      view_by q it (nat_eq txn q) (sym (ap (λ (b : Bool). cond b now (at_number q opens)) (tie txn q)) ∙ sym (looks q) ∙ is)
      ∙ sym (ap (λ (r : Option Transaction). seen_by committed (record_of (unwrap_or r nobody) it.begin it.posts)) (becomes.running q));
  are_sound = λ q it is. sound_by q it (is_at (nat_cmp txn) q) (sym (looks q) ∙ is);
  room_left = fits;
  places_left = places_fit;
}
  where
    some_by : (b : Bool) (o : Option Opened) (r : Option Transaction) → is_some o ≡ is_some r → is_some (cond b now o) ≡ is_some (cond b t r)
    some_by true o r same = both
    some_by false o r same = same

    below_by : (q : ℕ) (b : Bool) → is_at (nat_cmp txn) q ≡ b → is_some (cond b now (at_number q opens)) ≡ true → q < next'
    below_by q true here is = subst (λ (n : ℕ). n < next') (same_number txn q here) (new is)
    below_by q false here is = (let less = kept.below q is in omega arith)

    view_by : (q : ℕ) (it : Opened) (b : Bool) → cond b now (at_number q opens) ≡ Some it → it.view ≡ seen_by committed (record_of (unwrap_or (cond b t (running_of known q)) nobody) it.begin it.posts)
    view_by q it true is = view it is
    view_by q it false is = kept.views_are q it is

    sound_by : (q : ℕ) (it : Opened) (b : Bool) → cond b now (at_number q opens) ≡ Some it → RowsAreSound it.view
    sound_by q it true is = sound it is
    sound_by q it false is = kept.are_sound q it is

-- where nothing changes but the room
pub kept_same : (committed : List Record) (known known' : Known) (opens : List (ℕ × Opened)) (next : ℕ) (states : List State) (room room' places places' : ℕ)
    → IsKept committed known opens next states room places → IsSame known known' → room ≤ room' → places ≤ places'
    → IsKept committed known' opens next states room' places'
kept_same committed known known' opens next states room room' places places' kept same more more_places = record {
  events = kept.events;
  leads = ap (λ (running : List (ℕ × Running)). world_of (record { committed = committed; running = running; next = next })) (same_joined known known' opens same.running) ∙ kept.leads;
  known_is = same.committed ∙ kept.known_is;
  runs = λ q. kept.runs q ∙ sym (ap is_some (same.running q));
  below = kept.below;
  over = kept.over;
  count = kept.count;
  states_are = kept.states_are;
  views_are = λ q it is. kept.views_are q it is ∙ sym (ap (λ (r : Option Transaction). seen_by committed (record_of (unwrap_or r nobody) it.begin it.posts)) (same.running q));
  are_sound = kept.are_sound;
  room_left = (let left = kept.room_left in omega arith);
  places_left = (let left = kept.places_left in omega arith);
}

pub same_seen : (committed : List Record) (known known' : Known) (opens : List (ℕ × Opened)) (next : ℕ) → IsSame known known' → seen_of committed known' opens next ≡ seen_of committed known opens next
same_seen committed known known' opens next same = ap (λ (running : List (ℕ × Running)). record { committed = committed; running = running; next = next }) (same_joined known known' opens same.running)

pub nothing_changes : (known known' : Known) → known' ≡ known → IsSame known known'
nothing_changes known known' same = record { committed = ap (λ (k : Known). k.committed) same; running = λ txn. ap (λ (k : Known). running_of k txn) same }

-- ---- a commit

states_long : (states : List State) (s : State) → length (states ++ s ∷ []) ≡ suc (length states)
states_long [] s = refl
states_long (first ∷ states) s = ap suc (states_long states s)

state_old : (states : List State) (s : State) (n : ℕ) → n < length states → get_or (states ++ s ∷ []) n opening ≡ get_or states n opening
state_old [] s n within = (let none : ⊥ = omega arith in absurd none)
state_old (first ∷ states) s zero within = refl
state_old (first ∷ states) s (suc n) within = state_old states s n (omega arith)

state_new : (states : List State) (s : State) → get_or (states ++ s ∷ []) (length states) opening ≡ s
state_new [] s = refl
state_new (first ∷ states) s = state_new states s

map_push : {X Y : Type 0} (f : X → Y) (xs : List X) (x : X) → map f (xs ++ x ∷ []) ≡ map f xs ++ f x ∷ []
map_push f [] x = refl
map_push f (y ∷ ys) x = ap (λ l. f y ∷ l) (map_push f ys x)

-- the state after one more
pub newest_push : (committed : List Record) (it : Record) → newest_state (committed ++ it ∷ []) ≡ changed_all (newest_state committed) it.changes
newest_push committed it =
    ap (λ n. state_after (committed ++ it ∷ []) n) (long_push committed it)
    ∙ (λ k. changed_all (stands committed it (length committed) (omega arith) k) (at_new committed it k).changes)

pub kept_committed : (committed : List Record) (known known' : Known) (opens opens' : List (ℕ × Opened)) (next : ℕ) (states states' : List State) (room places places' txn : ℕ) (it : Record) (event : Event) (s : State)
    → IsKept committed known opens next states room places
    → ((q : ℕ) → is_running known q ≡ true → (running_at known q).snap ≤ length known.committed)
    → transaction_of it ≡ running_at known txn → it.txn < next
    → HasCommitted txn known known' → Looks txn None opens opens'
    → states' ≡ states ++ s ∷ [] → s ≡ newest_state (committed ++ it ∷ [])
    → world_of (seen_of (committed ++ it ∷ []) known' opens' next) ≡ happens core_rules (world_of (seen_of committed known opens next)) event
    → length (committed ++ it ∷ []) + length opens' ≤ room → length opens' ≤ places'
    → IsKept (committed ++ it ∷ []) known' opens' next states' room places'
kept_committed committed known known' opens opens' next states states' room places places' txn it event s kept began same number becomes looks states_is s_is leads fits places_fit = record {
  events = kept.events ++ event ∷ [];
  leads = leads ∙ ap (λ (w : World). happens core_rules w event) kept.leads ∙ sym (goes_on kept.events event);
  known_is = becomes.committed ∙ (λ k. kept.known_is k ++ sym same k ∷ []) ∙ sym (map_push transaction_of committed it);
  runs = λ q.
      ap is_some (looks q) ∙ ap (λ (b : Bool). is_some (cond b None (at_number q opens))) (tie txn q)
      ∙ some_by (nat_eq txn q) (at_number q opens) (running_of known q) (kept.runs q)
      ∙ sym (ap is_some (becomes.running q));
  below = λ q is. below_by q (is_at (nat_cmp txn) q) (sym (ap is_some (looks q)) ∙ is);
  over = λ i within. elim (cases_eq i (length committed)) [
    | inl here ↦ subst (λ (r : Record). r.txn < next) (sym (ap (record_at (committed ++ it ∷ [])) here ∙ at_new committed it)) number
    | inr there ↦
        (let more = long_push committed it in
        let below : i < length committed = omega arith in
        subst (λ (r : Record). r.txn < next) (sym (at_old committed it i below)) (kept.over i below))
  ];
  count = ap length states_is ∙ states_long states s ∙ ap suc (kept.count ∙ sym (long_push committed it));
  states_are = λ n within. ap (λ (all : List State). get_or all n opening) states_is ∙ elim (cases_eq n (suc (length committed))) [
    | inl here ↦
        ap (λ m. get_or (states ++ s ∷ []) m opening) (here ∙ sym kept.count) ∙ state_new states s ∙ s_is
        ∙ ap (λ m. state_after (committed ++ it ∷ []) m) (long_push committed it ∙ sym here)
    | inr there ↦
        (let more = long_push committed it in
        let count = kept.count in
        let below : n ≤ length committed = omega arith in
        state_old states s n (omega arith) ∙ kept.states_are n below ∙ sym (stands committed it n below))
  ];
  views_are = λ q o is.
      view_by q o (nat_eq txn q) (sym (ap (λ (b : Bool). cond b None (at_number q opens)) (tie txn q)) ∙ sym (looks q) ∙ is)
      ∙ sym (ap (λ (r : Option Transaction). seen_by (committed ++ it ∷ []) (record_of (unwrap_or r nobody) o.begin o.posts)) (becomes.running q));
  are_sound = λ q o is. sound_by q o (is_at (nat_cmp txn) q) (sym (looks q) ∙ is);
  room_left = fits;
  places_left = places_fit;
}
  where
    some_by : (b : Bool) (o : Option Opened) (r : Option Transaction) → is_some o ≡ is_some r → is_some (cond b None o) ≡ is_some (cond b None r)
    some_by true o r same = refl
    some_by false o r same = same

    below_by : (q : ℕ) (b : Bool) → is_some (cond b None (at_number q opens)) ≡ true → q < next
    below_by q true is = absurd cc
    below_by q false is = kept.below q is

    known_long : length known.committed ≡ length committed
    known_long = ap length kept.known_is ∙ map_long committed
      where
        map_long : (records : List Record) → length (map transaction_of records) ≡ length records
        map_long [] = refl
        map_long (r ∷ records) = ap suc (map_long records)

    snap_within : (q : ℕ) (o : Opened) → at_number q opens ≡ Some o → (running_at known q).snap ≤ length committed
    snap_within q o is = subst (λ (n : ℕ). (running_at known q).snap ≤ n) known_long (began q (sym (kept.runs q) ∙ ap is_some is))

    view_by : (q : ℕ) (o : Opened) (b : Bool) → cond b None (at_number q opens) ≡ Some o → o.view ≡ seen_by (committed ++ it ∷ []) (record_of (unwrap_or (cond b None (running_of known q)) nobody) o.begin o.posts)
    view_by q o true is = absurd cc
    view_by q o false is =
        kept.views_are q o is ∙ sym (ap (λ (from : State). changed_all from (running_at known q).changes) (stands committed it (running_at known q).snap (snap_within q o is)))

    sound_by : (q : ℕ) (o : Opened) (b : Bool) → cond b None (at_number q opens) ≡ Some o → RowsAreSound o.view
    sound_by q o true is = absurd cc
    sound_by q o false is = kept.are_sound q o is

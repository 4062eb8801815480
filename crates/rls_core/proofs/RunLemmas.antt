-- Lists of events, and how many transactions run.
use Rattle.std.specs.Prelude.{◌≡◌, refl, ℕ, ◌+◌, ◌<◌, ◌≤◌, Bool, true, false, cond, Option, Some, None, Result, Ok, Err, IfErr, List, [], ◌∷◌, ◌++◌, map, length, take, drop, get_or}
use Rattle.std.specs.{List.All, List.Sorted.IsStrictlySortedBy, Map.keys_of, BTreeMap.is_at, Option.is_some, Ordering.nat_cmp}
use Rattle.std.proofs.Common.{IsErrAnd, ap, sym, subst, ◌∙◌, arith}
use Rattle.std.proofs.lemmas.List.{length-map, map-append, map_more, drop_more, take-append-drop, take_all}
use Rattle.std.proofs.lemmas.List.Elements.{All-cons, All-weaker}
use Rattle.rls_value.specs.declared.refusal.Refusal.{Refusal}
use Rattle.rls_value.specs.declared.refusal.Refusal.TheVariants.{NoMemory, Limit}
use Rattle.rls_conflict.specs.{Begun.at_number, Known.Known}
use Rattle.rls_core.specs.{declared.event.Event.Event as Asked, declared.answer.Answer.Answer, Events.Event, Events.World, Events.run, Events.after, Opened.Opened, Kept.joined_in}
use Rattle.rls_core.specs.Seen.{Seen, world_of, core_rules, nothing_yet}
use Rattle.rls_core.specs.{Calls.RunAtOnce, Happening.HappensAs, Happening.GoesOn, Happening.Runs, Happening.IsStopped, Happening.StopsAmong, Happening.StopsRun, Happening.event_of}
use Rattle.rls_core.proofs.JoinedLemmas.{tie, self_number}

-- ---- how many run

found_if : {X : Type 0} (b : Bool) (x : X) (it : Option X) → is_some it ≡ true → is_some (cond b (Some x) it) ≡ true
found_if true x it is = refl
found_if false x it is = is

found_here : {X : Type 0} (b : Bool) (x : X) (it : Option X) → b ≡ true → is_some (cond b (Some x) it) ≡ true
found_here true x it is = refl
found_here false x it is = absurd cc

-- each key of a list finds something in it
keys_found : {X : Type 0} (es : List (ℕ × X)) → All (λ txn. is_some (at_number txn es) ≡ true) (keys_of es)
keys_found [] = λ k d within. absurd (omega (arith, within))
keys_found (e ∷ es) =
    All-cons (λ txn. is_some (at_number txn (e ∷ es)) ≡ true) e.0 (keys_of es)
    (found_here (is_at (nat_cmp e.0) e.0) e.1 (at_number e.0 es) (self_number e.0))
    (All-weaker (λ txn. is_some (at_number txn es) ≡ true) (λ txn. is_some (at_number txn (e ∷ es)) ≡ true) (λ txn is. found_if (is_at (nat_cmp txn) e.0) e.1 (at_number txn es) is) (keys_of es) (keys_found es))

pub keys_joined : (known : Known) (opens : List (ℕ × Opened)) → keys_of (map (joined_in known) opens) ≡ keys_of opens
keys_joined known [] = refl
keys_joined known (e ∷ es) = ap (λ numbers. e.0 ∷ numbers) (keys_joined known es)

pub at_once : (seen : Seen) (many : ℕ) → IsStrictlySortedBy nat_cmp (keys_of seen.running) → many ≤ length seen.running → RunAtOnce (world_of seen) many
at_once seen many ascend enough = record {
  numbers = keys_of seen.running;
  ascend = ascend;
  count = subst (λ n. many ≤ n) (sym (length-map seen.running (λ e. e.0))) enough;
  run = keys_found seen.running;
}

-- ---- one event after another

-- where the events lead
pub runs_lead : (events : List Event) (answers : List Answer) (old new : Seen) → Runs old events answers new → world_of new ≡ run core_rules (world_of old) events
runs_lead [] [] old new same = ap world_of same
runs_lead [] (it ∷ answers) old new none = absurd none
runs_lead (event ∷ events) [] old new none = absurd none
runs_lead (event ∷ events) (it ∷ answers) old new runs = runs_lead events answers runs.0 new runs.2 ∙ ap (λ (w : World). run core_rules w events) runs.1.happens

pub run_leads : (asked : List Asked) (i : ℕ) (answers : List Answer) (new : Seen) → length asked ≤ i → Runs nothing_yet (map event_of (take i asked)) answers new → world_of new ≡ after core_rules (map event_of asked)
run_leads asked i answers new all runs =
    runs_lead (map event_of (take i asked)) answers nothing_yet new runs ∙ ap (λ (so_far : List Asked). after core_rules (map event_of so_far)) (take_all i asked all)

-- one more
runs_on : (events : List Event) (answers : List Answer) (old new later : Seen) (event : Event) (it : Answer) → Runs old events answers new → HappensAs event new later it → Runs old (events ++ event ∷ []) (answers ++ it ∷ []) later
runs_on [] [] old new later event it same happens = (later, subst (λ (from : Seen). HappensAs event from later it) same happens, refl)
runs_on [] (one ∷ answers) old new later event it none happens = absurd none
runs_on (one ∷ events) [] old new later event it none happens = absurd none
runs_on (one ∷ events) (first ∷ answers) old new later event it runs happens = (runs.0, runs.1, runs_on events answers runs.0 new later event it runs.2 happens)

module _ (asked : List Asked) (i : ℕ) (it : Asked) (below : i < length asked) (read : it ≡ get_or asked i it) where
  one_more : map event_of (take (i + 1) asked) ≡ map event_of (take i asked) ++ event_of it ∷ []
  one_more = map_more event_of asked i it below ∙ ap (λ (e : Asked). map event_of (take i asked) ++ event_of e ∷ []) (sym read)

  pub run_more : (answers now : List Answer) (old new later : Seen) → Runs old (map event_of (take i asked)) answers new → GoesOn (event_of it) new later answers now → Runs old (map event_of (take (i + 1) asked)) now later
  run_more answers now old new later runs on =
      subst (λ (events : List Event). Runs old events now later) (sym one_more)
      (subst (λ (all : List Answer). Runs old (map event_of (take i asked) ++ event_of it ∷ []) all later) (sym on.behind)
      (runs_on (map event_of (take i asked)) answers old new later (event_of it) on.it runs on.happens))

  all_asked : map event_of asked ≡ map event_of (take i asked) ++ event_of it ∷ map event_of (drop (i + 1) asked)
  all_asked =
      ap (map event_of) (sym (take-append-drop i asked))
      ∙ map-append event_of (take i asked) (drop i asked)
      ∙ ap (λ (behind : List Asked). map event_of (take i asked) ++ map event_of behind) (drop_more asked i it below)
      ∙ ap (λ (e : Asked). map event_of (take i asked) ++ event_of e ∷ map event_of (drop (i + 1) asked)) (sym read)

  among : (answers : List Answer) (new : Seen) (why : Refusal) → Runs nothing_yet (map event_of (take i asked)) answers new → IsStopped (world_of new) (event_of it) why → StopsAmong (map event_of asked) why
  among answers new why runs stops = record {
    before = map event_of (take i asked);
    event = event_of it;
    behind = map event_of (drop (i + 1) asked);
    split = all_asked;
    stops = subst (λ (w : World). IsStopped w (event_of it) why) (runs_lead (map event_of (take i asked)) answers nothing_yet new runs) stops;
  }

  pub run_stops : (answers : List Answer) (new : Seen) (why : Refusal) → Runs nothing_yet (map event_of (take i asked)) answers new → IsStopped (world_of new) (event_of it) why → StopsRun (map event_of asked) why
  run_stops answers new NoMemory runs stops = tt
  run_stops answers new (Limit what) runs stops = among answers new (Limit what) runs stops
  run_stops answers new _ runs stops = absurd stops

-- a refusal that is handed on
pub stopped_by : {A : Type 0} (r : Result A Refusal) (why : Refusal) (P : Refusal → Type 0) → IsErrAnd r (λ it. it ≡ why) → P why → IfErr r P
stopped_by (Ok it) why P is holds = tt
stopped_by (Err it) why P is holds = subst P (sym is) holds

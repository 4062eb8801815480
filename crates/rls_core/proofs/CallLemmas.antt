-- What begins and commits leave of what stands in a core.
use Rattle.std.specs.Prelude.{◌≡◌, refl, ℕ, zero, suc, ◌<◌, ◌≤◌, ◌+◌, ◌-◌, nat_eq, Bool, true, false, ◌||◌, cond, Option, Some, None, List, [], ◌∷◌, ◌++◌, map, length, get_or, unwrap_or, if◌then◌else◌, ◌↔◌, Result, Ok, Err, IfOk, OnOk, IfErr}
use Rattle.std.specs.List.{list_any, All}
use Rattle.std.specs.Option.{option_map, is_some}
use Rattle.std.proofs.Common.{ap, sym, subst, ◌∙◌, arith}
use Rattle.std.proofs.lemmas.Bool.{true≢false}
use Rattle.rls_value.specs.declared.refusal.Refusal.{Refusal}
use Rattle.rls_value.specs.declared.refusal.Refusal.TheVariants.{NoMemory, Serial}
use Rattle.rls_value.specs.declared.refusal.Cause.{Cause}
use Rattle.rls_catalog.specs.State.{State}
use Rattle.rls_catalog.specs.Changed.{opening, changed_all}
use Rattle.rls_catalog.specs.SoundRows.{RowsAreSound}
use Rattle.rls_conflict.specs.rls_siread.specs.Covering.{covered_of}
use Rattle.rls_meaning.specs.rls_access.specs.{Transactions.Begin, Transactions.may_begin}
use Rattle.rls_history.specs.History.{History}
use Rattle.rls_history.specs.Structures.{is_dangerous, IsInStructure, NoStructureBelow}
use Rattle.rls_history.specs.Orders.{IsHistory, IsNext, StandInTurn, IsOrder, with_placed, none_placed}
use Rattle.rls_rows.specs.States.{newest_of}
use Rattle.rls_conflict.specs.Begun.{at_number}
use Rattle.rls_conflict.specs.Transactions.{Transaction, nobody, history_of}
use Rattle.rls_conflict.specs.Known.{Known, has_number, running_of, running_at, is_running, with_commit_of, beginning, IsNew, HaveBegun, Becomes, HasCommitted}
use Rattle.rls_conflict.specs.Causes.{IsCauseOf, IsInNoStructure, IsBarredBy}
use Rattle.rls_conflict.specs.Commits as commits
use Rattle.rls_conflict.specs.Commits.{AreReadBy, AreReadersOf}
use Rattle.rls_conflict.specs.declared.ready.Ready.{Ready as Commit}
use Rattle.rls_core.specs.declared.ready.Ready.{Ready}
use Rattle.rls_core.specs.Records.{Record, record_at, transaction_of, history_by, state_after}
use Rattle.rls_core.specs.Posts.{record_of}
use Rattle.rls_core.specs.Events.{Event, Running, World, seen_by, after}
use Rattle.rls_core.specs.Headline.{AfterEvents, AreSafe, KeysStayUnique}
use Rattle.rls_core.specs.Headline as headline
use Rattle.rls_core.specs.Opened.{Opened, joined, opened_on, Looks}
use Rattle.rls_core.specs.Seen.{Seen, world_of, runs_at, newest_state, core_rules, Happens}
use Rattle.rls_core.specs.Kept.{seen_of, IsKept, IsSame, SeesNewest}
use Rattle.rls_core.specs.Calls.{known_with, MayCommit, IsReady, IsBarred, NotReady, IsOrderBy}
use Rattle.rls_core.proofs.JoinedLemmas.{joined_there, is_found, found_number, runs_number, some_of, none_of}
use Rattle.rls_core.proofs.KeptLemmas.{kept_with, kept_same, kept_committed, same_seen, newest_push}
use Rattle.rls_core.proofs.EventLemmas as events

map_push : {X Y : Type 0} (f : X → Y) (xs : List X) (x : X) → map f (xs ++ x ∷ []) ≡ map f xs ++ f x ∷ []
map_push f [] x = refl
map_push f (y ∷ ys) x = ap (λ l. f y ∷ l) (map_push f ys x)

map_long : (records : List Record) → length (map transaction_of records) ≡ length records
map_long [] = refl
map_long (r ∷ records) = ap suc (map_long records)

differ : (a b : ℕ) → b < a → (t : Bool) → nat_eq a b ≡ t → t ≡ false
differ a b less true is = (let same : a ≡ b = Rattle.std.proofs.Common.eqb-true a b is in (let none : ⊥ = omega arith in absurd none))
differ a b less false is = refl

none_has : (n : ℕ) (records : List Record) → ((i : ℕ) → i < length records → (record_at records i).txn < n) → list_any (has_number n) (map transaction_of records) ≡ false
none_has n [] below = refl
none_has n (r ∷ records) below = both (nat_eq n r.txn) (differ n r.txn (below 0 (omega arith)) (nat_eq n r.txn) refl) (none_has n records (λ i within. below (suc i) (omega arith)))
  where
    both : (t : Bool) → t ≡ false → list_any (has_number n) (map transaction_of records) ≡ false → (t || list_any (has_number n) (map transaction_of records)) ≡ false
    both true is rest = is
    both false is rest = rest

-- one that began is taken away again
pub goes_back : (known between again : Known) (txn : ℕ) (t : Option Transaction) → IsNew known txn → Becomes txn t known between → Becomes txn None between again → IsSame known again
goes_back known between again txn t new begun ended = record {
  committed = ended.committed ∙ begun.committed;
  running = λ q. ended.running q ∙ ap (λ (o : Option Transaction). cond (nat_eq txn q) None o) (begun.running q) ∙ back q (nat_eq txn q) refl;
}
  where
    back : (q : ℕ) (b : Bool) → nat_eq txn q ≡ b → cond b None (cond b t (running_of known q)) ≡ running_of known q
    back q true is = sym (none_of (running_of known q) (subst (λ (n : ℕ). is_running known n ≡ false) (Rattle.std.proofs.Common.eqb-true txn q is) new.not_running))
    back q false is = refl

-- one is taken away
pub one_less : (r o : Option Opened) (h : Opened) (n n' : ℕ) → r ≡ o → o ≡ Some h → n' + (if is_some r then 1 else 0) ≡ n → n' + 1 ≡ n
one_less r o h n n' same there less = subst (λ (x : Option Opened). n' + (if is_some x then 1 else 0) ≡ n) (same ∙ there) less

pub some_there : (txn : ℕ) (opens : List (ℕ × Opened)) (h : Opened) → at_number txn opens ≡ Some h → 0 < length opens
some_there txn [] h there = absurd cc
some_there txn (e ∷ es) h there = omega arith

-- the parts in other places, with more room
pub kept_room : (committed committed' : List Record) (known known' : Known) (opens opens' : List (ℕ × Opened)) (next : ℕ) (states states' : List State) (room room' places places' : ℕ)
    → IsKept committed known opens next states room places → committed' ≡ committed → IsSame known known' → opens' ≡ opens → states' ≡ states → room ≤ room' → places ≤ places'
    → IsKept committed' known' opens' next states' room' places'
kept_room committed committed' known known' opens opens' next states states' room room' places places' kept same_committed same same_opens same_states more more_places =
    subst (λ (them : List Record). IsKept them known' opens' next states' room' places') (sym same_committed)
    (subst (λ (them : List (ℕ × Opened)). IsKept committed known' them next states' room' places') (sym same_opens)
    (subst (λ (them : List State). IsKept committed known' opens next them room' places') (sym same_states)
    (kept_same committed known known' opens next states room room' places places' kept same more more_places)))

pub seen_room : (committed committed' : List Record) (known known' : Known) (opens opens' : List (ℕ × Opened)) (next : ℕ) → committed' ≡ committed → IsSame known known' → opens' ≡ opens
    → seen_of committed' known' opens' next ≡ seen_of committed known opens next
seen_room committed committed' known known' opens opens' next same_committed same same_opens = (λ k. seen_of (same_committed k) known' (same_opens k) next) ∙ same_seen committed known known' opens next same

module _ (committed : List Record) (known : Known) (opens : List (ℕ × Opened)) (next : ℕ) (states : List State) (room places : ℕ) (kept : IsKept committed known opens next states room places) where
  abbrev seen : Seen
  seen = seen_of committed known opens next

  pub known_long : length known.committed ≡ length committed
  known_long = ap length kept.known_is ∙ map_long committed

  -- ---- a begin

  pub is_free : at_number next opens ≡ None
  is_free = none_of (at_number next opens) (by_test (is_some (at_number next opens)) refl)
    where
      by_test : (b : Bool) → is_some (at_number next opens) ≡ b → b ≡ false
      by_test true is = (let less = kept.below next is in let none : ⊥ = omega arith in absurd none)
      by_test false is = refl

  pub is_new : IsNew known next
  is_new = record {
    not_running = sym (kept.runs next) ∙ ap is_some is_free;
    not_committed = ap (list_any (has_number next)) kept.known_is ∙ none_has next committed kept.over;
  }

  pub newest_is : newest_of states ≡ newest_state committed
  newest_is =
      let count = kept.count in
      let last : length states - 1 ≡ length committed = omega (arith, count) in
      ap (λ n. get_or states n opening) last ∙ kept.states_are (length committed) (omega arith)

  -- one that began after all commits sees what its own leaves
  pub sees_newest : (txn : ℕ) (it : Opened) → at_number txn opens ≡ Some it → SeesNewest it.view states (running_at known txn)
  sees_newest txn it there last =
      let count = kept.count in
      let at_end : (running_at known txn).snap ≡ length committed = omega (arith, count, last) in
      kept.views_are txn it there
      ∙ ap (λ n. changed_all (state_after committed n) (running_at known txn).changes) at_end
      ∙ ap (λ (s : State). changed_all s (running_at known txn).changes) (sym newest_is)

  pub newest_sound : AreSafe core_rules → AfterEvents KeysStayUnique → RowsAreSound (newest_state committed)
  newest_sound safe keys =
      let unique : KeysStayUnique (world_of seen) = subst KeysStayUnique (sym kept.leads) (keys core_rules safe kept.events) in
      unique (length committed) (omega arith)

  module _ (who : Begin) (s : State) (is : s ≡ newest_of states) (may : may_begin (newest_state committed) who ≡ true) (known' : Known) (opens' : List (ℕ × Opened))
      (becomes : Becomes next (Some (beginning next (length known.committed))) known known') (looks : Looks next (Some (opened_on next who s)) opens opens') where
    becomes_so : Becomes next (Some (beginning next (length committed))) known known'
    becomes_so = subst (λ (n : ℕ). Becomes next (Some (beginning next n)) known known') known_long becomes

    pub begin_happens : Happens (Event.Begins who) seen (seen_of committed known' opens' (suc next))
    begin_happens = events.begins committed known known' opens opens' next who s may becomes_so looks

    pub begin_stays : RowsAreSound (newest_state committed) → (room' places' : ℕ) → length committed + length opens' ≤ room' → length opens' ≤ places' → IsKept committed known' opens' (suc next) states room' places'
    begin_stays is_sound room' places' fits places_fit =
        let view : s ≡ newest_state committed = is ∙ newest_is in
        let sound : RowsAreSound s = subst RowsAreSound (sym view) is_sound in
        kept_with committed known known' opens opens' next (suc next) states room room' places places' next (Some (opened_on next who s)) (Some (beginning next (length committed))) (Event.Begins who)
        kept becomes_so looks refl begin_happens
        (λ it at. subst (λ (one : Opened). one.view ≡ seen_by committed (record_of (beginning next (length committed)) one.begin one.posts)) (same_opened (opened_on next who s) it at) view)
        (λ it at. subst (λ (one : Opened). RowsAreSound one.view) (same_opened (opened_on next who s) it at) sound)
        (omega arith) (λ at. omega arith) fits places_fit
      where
        same_opened : (one other : Opened) → Some one ≡ Some other → one ≡ other
        same_opened one other same = cc

  -- ---- a commit

  abbrev pub Holds : ℕ → Running → Type 0
  Holds txn it = (h : Opened) × (at_number txn opens ≡ Some h) × (it ≡ joined (running_at known txn) h)

  pub held : (txn : ℕ) (it : Running) → runs_at seen txn ≡ Some it → Holds txn it
  held txn it runs = by_held (at_number txn opens) refl
    where
      same_running : (one other : Running) → Some one ≡ Some other → one ≡ other
      same_running one other same = cc

      by_held : (o : Option Opened) → at_number txn opens ≡ o → Holds txn it
      by_held None there = (let none : Some it ≡ None = sym runs ∙ joined_there known txn opens None there in absurd cc)
      by_held (Some h) there = (h, there, same_running it (joined (running_at known txn) h) (sym runs ∙ joined_there known txn opens (Some h) there))

  -- all as though it committed now
  with_it : (txn : ℕ) (it : Record) → transaction_of it ≡ running_at known txn → with_commit_of known txn ≡ map transaction_of (committed ++ it ∷ [])
  with_it txn it same = (λ k. kept.known_is k ++ sym same k ∷ []) ∙ sym (map_push transaction_of committed it)

  module _ (txn : ℕ) (h : Opened) (there : at_number txn opens ≡ Some h) where
    abbrev it : Running
    it = joined (running_at known txn) h

    pub is_there : is_running known txn ≡ true
    is_there = sym (kept.runs txn) ∙ ap is_some there

    it_runs : runs_at seen txn ≡ Some it
    it_runs = joined_there known txn opens (Some h) there

    alone_is : (b : Bool) → nat_eq txn (running_at known txn).number ≡ b → (unwrap_or (cond b (Some (running_at known txn)) None) nobody) ≡ running_at known txn
    alone_is true is = refl
    alone_is false is = absurd (true≢false (sym (Rattle.std.proofs.Common.eq-eqb txn (running_at known txn).number (sym (runs_number known txn is_there))) ∙ is))

    alone : running_at (known_with committed it.so_far) txn ≡ running_at known txn
    alone = alone_is (nat_eq txn (running_at known txn).number) refl

    ready_same : (one other : Known) (commit : Commit) → running_at other txn ≡ running_at one txn → other.committed ≡ one.committed → commits.IsReady one txn commit → commits.IsReady other txn commit
    ready_same one other commit same same_committed ready = record {
      transaction = ready.transaction ∙ sym same;
      covered = ready.covered ∙ ap (λ (t : Transaction). covered_of t.changes) (sym same);
      read = subst (λ (them : List Transaction). AreReadBy (them ++ running_at other txn ∷ []) (length them) commit.read.items) (sym same_committed)
          (subst (λ (t : Transaction). AreReadBy (one.committed ++ t ∷ []) (length one.committed) commit.read.items) (sym same) ready.read);
      readers = subst (λ (them : List Transaction). AreReadersOf (them ++ running_at other txn ∷ []) (length them) commit.readers.items) (sym same_committed)
          (subst (λ (t : Transaction). AreReadersOf (one.committed ++ t ∷ []) (length one.committed) commit.readers.items) (sym same) ready.readers);
    }

    -- from what the calls below make
    pub is_ready : ((ts : List Transaction) (place : ℕ) → (is_dangerous (history_of ts) place ≡ true) ↔ IsInStructure (history_of ts) place)
        → (ready : Ready) → commits.IsReady known txn ready.commit → ready.entry ≡ record_of (running_at known txn) h.begin h.posts → ready.state ≡ changed_all (newest_of states) (running_at known txn).changes
        → IsInNoStructure (with_commit_of known txn) (length known.committed) → IsReady seen txn ready
    is_ready exactly ready commit entry state none = record {
      it = it;
      may = record { runs = it_runs; number = runs_number known txn is_there; safe = by_test (is_dangerous (history_by (committed ++ it.so_far ∷ [])) (length committed)) refl };
      entry = entry;
      state = state ∙ ap (λ (s : State). changed_all s (running_at known txn).changes) newest_is ∙ sym (newest_push committed it.so_far);
      commit = ready_same known (known_with committed it.so_far) ready.commit alone (sym kept.known_is) commit;
    }
      where
        by_test : (b : Bool) → is_dangerous (history_by (committed ++ it.so_far ∷ [])) (length committed) ≡ b → b ≡ false
        by_test true is =
            absurd (subst (λ (n : ℕ). IsInNoStructure (map transaction_of (committed ++ it.so_far ∷ [])) n) known_long
            (subst (λ (ts : List Transaction). IsInNoStructure ts (length known.committed)) (with_it txn it.so_far refl) none) ((exactly (map transaction_of (committed ++ it.so_far ∷ [])) (length committed)).0 is))
        by_test false is = refl

    pub is_barred : ((ts : List Transaction) (place : ℕ) → (is_dangerous (history_of ts) place ≡ true) ↔ IsInStructure (history_of ts) place)
        → ((ts : List Transaction) (place : ℕ) (why : Cause) → IsCauseOf ts place why → IsInStructure (history_of ts) place)
        → (refusal : Refusal) → IsBarredBy known txn refusal → NotReady seen txn refusal
    is_barred exactly caused NoMemory is = tt
    is_barred exactly caused (Serial why) is =
        let named : IsCauseOf (map transaction_of (committed ++ it.so_far ∷ [])) (length committed) why =
        subst (λ (n : ℕ). IsCauseOf (map transaction_of (committed ++ it.so_far ∷ [])) n why) known_long
        (subst (λ (ts : List Transaction). IsCauseOf ts (length known.committed) why) (with_it txn it.so_far refl) is) in
        record { it = it; runs = it_runs; danger = (exactly (map transaction_of (committed ++ it.so_far ∷ [])) (length committed)).1 (caused (map transaction_of (committed ++ it.so_far ∷ [])) (length committed) why named); named = named }
    is_barred exactly caused _ is = absurd is

    pub all_ready : ((ts : List Transaction) (place : ℕ) → (is_dangerous (history_of ts) place ≡ true) ↔ IsInStructure (history_of ts) place)
        → (result : Result Ready Refusal) → IfOk result (λ ready. commits.IsReady known txn ready.commit) → IfOk result (λ ready. ready.entry ≡ record_of (running_at known txn) h.begin h.posts)
        → IfOk result (λ ready. ready.state ≡ changed_all (newest_of states) (running_at known txn).changes) → OnOk result (IsInNoStructure (with_commit_of known txn) (length known.committed))
        → IfOk result (λ ready. IsReady seen txn ready)
    all_ready exactly (Ok ready) commit entry state none = is_ready exactly ready commit entry state none
    all_ready exactly (Err why) commit entry state none = tt

    pub all_barred : ((ts : List Transaction) (place : ℕ) → (is_dangerous (history_of ts) place ≡ true) ↔ IsInStructure (history_of ts) place)
        → ((ts : List Transaction) (place : ℕ) (why : Cause) → IsCauseOf ts place why → IsInStructure (history_of ts) place)
        → (result : Result Ready Refusal) → IfErr result (IsBarredBy known txn) → IfErr result (λ why. NotReady seen txn why)
    all_barred exactly caused (Ok ready) is = tt
    all_barred exactly caused (Err why) is = is_barred exactly caused why is

  began : HaveBegun known → (q : ℕ) → is_running known q ≡ true → (running_at known q).snap ≤ length known.committed
  began begun q is = found_all known.running begun.running (running_at known q) (is_found known q is)
    where
      found_all : (all : List Transaction) → All (λ t. t.snap ≤ length known.committed) all → (t : Transaction) → Rattle.std.specs.List.find (has_number q) all ≡ Some t → t.snap ≤ length known.committed
      found_all [] each t there = absurd cc
      found_all (first ∷ all) each t there = by_found (found_all all (λ k d within. each (suc k) d (omega (arith, within))) t) (has_number q first) there
        where
          by_found : (Rattle.std.specs.List.find (has_number q) all ≡ Some t → t.snap ≤ length known.committed) → (b : Bool) → cond b (Some first) (Rattle.std.specs.List.find (has_number q) all) ≡ Some t → t.snap ≤ length known.committed
          by_found rest true found = (let same : first ≡ t = cc in subst (λ (u : Transaction). u.snap ≤ length known.committed) same (each 0 first (omega arith)))
          by_found rest false found = rest found

  module _ (txn : ℕ) (ready : Ready) (is : IsReady seen txn ready) where
    abbrev pub h : Opened
    h = (held txn is.it is.may.runs).0

    pub h_there : at_number txn opens ≡ Some h
    h_there = (held txn is.it is.may.runs).1

    it_is : is.it ≡ joined (running_at known txn) h
    it_is = (held txn is.it is.may.runs).2

    pub runs_now : is_running known txn ≡ true
    runs_now = sym (kept.runs txn) ∙ ap is_some h_there

    same : transaction_of is.it.so_far ≡ running_at known txn
    same = ap (λ (r : Running). transaction_of r.so_far) it_is

    pub commit_now : commits.IsReady known txn ready.commit
    commit_now =
        ready_same txn h h_there (known_with committed is.it.so_far) known ready.commit
        (sym (ap (λ (r : Running). running_at (known_with committed r.so_far) txn) it_is ∙ alone txn h h_there)) kept.known_is is.commit

    pub commit_happens : (known' : Known) (opens' : List (ℕ × Opened)) (committed' : List Record) → HasCommitted txn known known' → Looks txn None opens opens' → committed' ≡ committed ++ ready.entry ∷ []
        → Happens (Event.Commits txn) seen (seen_of committed' known' opens' next)
    commit_happens known' opens' committed' becomes looks pushed =
        subst (λ (them : List Record). Happens (Event.Commits txn) seen (seen_of them known' opens' next)) (sym (pushed ∙ ap (λ (r : Record). committed ++ r ∷ []) is.entry))
        (events.commits committed known known' opens opens' next txn is.it is.may.runs is.may.safe becomes looks)

    pub commit_stays : HaveBegun known → (known' : Known) (opens' : List (ℕ × Opened)) (committed' : List Record) (states' : List State) (room' places' : ℕ) → HasCommitted txn known known' → Looks txn None opens opens'
        → committed' ≡ committed ++ ready.entry ∷ [] → states' ≡ states ++ ready.state ∷ [] → room' ≡ room → length committed' + length opens' ≤ room' → length opens' ≤ places'
        → IsKept committed' known' opens' next states' room' places'
    commit_stays begun known' opens' committed' states' room' places' becomes looks pushed states_pushed same_room fits places_fit =
        let pushed_it : committed' ≡ committed ++ is.it.so_far ∷ [] = pushed ∙ ap (λ (r : Record). committed ++ r ∷ []) is.entry in
        let number : is.it.so_far.txn < next = subst (λ (n : ℕ). n < next) (sym is.may.number) (kept.below txn (ap is_some h_there)) in
        subst (λ (them : List Record). IsKept them known' opens' next states' room' places') (sym pushed_it)
        (subst (λ (n : ℕ). IsKept (committed ++ is.it.so_far ∷ []) known' opens' next states' n places') (sym same_room)
        (kept_committed committed known known' opens opens' next states states' room places places' txn is.it.so_far (Event.Commits txn) ready.state kept (began begun) same number becomes looks states_pushed is.state
        (events.commits committed known known' opens opens' next txn is.it is.may.runs is.may.safe becomes looks)
        (subst (λ (n : ℕ). length (committed ++ is.it.so_far ∷ []) + length opens' ≤ n) same_room (subst (λ (them : List Record). length them + length opens' ≤ room') pushed_it fits)) places_fit))

  -- ---- orders

  pub can_be_ordered : AreSafe core_rules → AfterEvents headline.CanBeOrdered → commits.CanBeOrdered known.committed
  can_be_ordered safe ordered =
      subst commits.CanBeOrdered (sym kept.known_is) (subst headline.CanBeOrdered (sym kept.leads) (ordered core_rules safe kept.events))

in_turn_within : (h : History) (placed : ℕ → Bool) (order : List ℕ) → StandInTurn h placed order → All (λ t. t < h.count) order
in_turn_within h placed [] stands k d within = (let none : ⊥ = omega arith in absurd none)
in_turn_within h placed (t ∷ ts) stands zero d within = stands.0.within
in_turn_within h placed (t ∷ ts) stands (suc k) d within = in_turn_within h (with_placed placed t) ts stands.1 k d (omega arith)

-- the places of an order are those of records
pub order_within : (committed : List Record) (order : List ℕ) → IsOrder (history_by committed) order → All (λ t. t < length committed) order
order_within committed order is k d within = subst (λ (n : ℕ). Rattle.std.specs.Prelude.slice_index_or order k d < n) (map_long committed) (in_turn_within (history_by committed) none_placed order is.in_turn k d within)

-- their numbers
pub ordered_by : {A E : Type 0} (committed : List Record) (places : List ℕ) → IsOrder (history_by committed) places → (result : Result A E) (items : A → List ℕ)
    → IfOk result (λ a. items a ≡ map (λ place. (record_at committed place).txn) places) → IfOk result (λ a. IsOrderBy committed (items a))
ordered_by committed places is (Ok a) items are = record { places = places; keeps = is; are = are }
ordered_by committed places is (Err e) items are = tt

-- What each event keeps.
use Rattle.std.proofs.Common.{◌≡◌, ℕ, zero, suc, ◌<◌, ◌≤◌, ◌==◌, leb, not, ◌&&◌, Bool, true, false, cond, Option, Some, None, List, [], ◌∷◌, ◌++◌, length, map, refl, ap, sym, ◌∙◌, subst, arith, inl, inr, ◌⊎◌, eq-eqb, ne_eqb}
use Rattle.std.proofs.lemmas.Bool.{both_ways, cases_Bool, cases_eq, or_parts, le-leb, leb-true, false_from_ne_true}
use Rattle.rls_history.specs.History.{any_below}
use Rattle.rls_history.specs.States.{States, IsAmong, put_all, touches, Apart}
use Rattle.rls_history.specs.Transactions.{nth}
use Rattle.rls_history.specs.Statements.{Statements, reads_alone, context_alone}
use Rattle.rls_history.specs.Explained.{Entry, new_entry, entry_at, transaction_of, history_by, state_at}
use Rattle.rls_history.specs.Worlds.{Running, World, Event, Setup, sees, shares, changes_of, is_taken}
use Rattle.rls_history.specs.Events.{with_running, posted, post, commit, begin, happens, run, nothing_yet, after}
use Rattle.rls_history.specs.Worlds.Event.{Begin, Post, Commit, Rollback}
use Rattle.rls_history.specs.Lawful.{Conditions, IsLawful, IsSetUp, IsLeftBy, Joins}
use Rattle.rls_history.specs.Kept.{CanBeOrdered, IsRecorded, AreStates, IsRunning, Holds}
use Rattle.rls_history.specs.Runs.{HasOrder, EachExplains, EachFindsSnapshots}
use Rattle.rls_history.proofs.HistoryLemmas.{any_below_none}
use Rattle.rls_history.proofs.StructureLemmas.{none_more}
use Rattle.rls_history.proofs.TakenLemmas.{apart_since_unshared}
use Rattle.rls_history.proofs.StateLemmas.{among_cases, among_left, among_right, put_all_append, fits_append, put_all_stays, put_elsewhere, put_here, left_by, apart_touch}
use Rattle.rls_history.proofs.SnapshotLemmas.{state_in_order, same_between}
use Rattle.rls_history.proofs.AloneLemmas.{order_explains, order_finds, is_history, no_structure, has_order, state_alone, state_alone_is, replies_push, changes_push, reads_push, context_push, nth_is}
use Rattle.rls_history.proofs.EntryLemmas.{len_push, entry_old, entry_new, none_old, state_old, state_new, recorded_on, committed_push}

-- what two have that are the same
some_is : {X : Type 0} (a b : X) → Some a ≡ Some b → a ≡ b
some_is a b e = cc

module _ {s : States} {m : Statements s} (setup : Setup m) where
  -- one event more, from any world
  run_push : (events : List (Event m.Start m.Statement)) (event : Event m.Start m.Statement) (w : World m) → run setup w (events ++ event ∷ []) ≡ happens setup (run setup w events) event
  run_push [] event w = refl
  run_push (e ∷ events) event w = run_push events event (happens setup w e)

  -- and from the first
  pub one_more : (first : ℕ) (events : List (Event m.Start m.Statement)) (event : Event m.Start m.Statement) → after setup first (events ++ event ∷ []) ≡ happens setup (after setup first events) event
  one_more first events event = run_push events event (nothing_yet m first)

module _ {s : States} {m : Statements s} (c : Conditions m) (lawful : IsLawful c) (setup : Setup m) (set_up : IsSetUp c setup) where
  -- the opening state
  abbrev opening : s.State
  opening = setup.opening

  -- apart is apart either way round
  turned : (cs es : List s.Change) → Apart s cs es → Apart s es cs
  turned cs es apart a b ia ib is = apart b a ib ia (lawful.turned a b is)

  -- ---- one place of those that run is set anew

  -- further numbers are free for one that runs
  running_later : (es : List (Entry m)) (next more txn : ℕ) (it : Running m) → next ≤ more → IsRunning c setup es next txn it → IsRunning c setup es more txn it
  running_later es next more txn it le ok = record {
    began = ok.began;
    recorded = ok.recorded;
    now_is = ok.now_is;
    apart = ok.apart;
    sound = ok.sound;
    goes_on = ok.goes_on;
    number = ok.number;
    free = λ later from. ok.free later (omega arith);
    follows = ok.follows;
  }

  -- and in the committed states
  states_later : (es : List (Entry m)) (next more : ℕ) → next ≤ more → AreStates c opening es next → AreStates c opening es more
  states_later es next more le ok = record { sound = ok.sound; follow = ok.follow; free = λ later from. ok.free later (omega arith) }

  -- where the new one is as is asked, all stays
  put_holds : (w : World m) → Holds c setup w → (k n : ℕ) (u : Option (Running m)) → w.next ≤ n
      → ((it : Running m) → u ≡ Some it → k < n)
      → ((it : Running m) → u ≡ Some it → IsRunning c setup w.committed n k it)
      → ((it : Running m) → u ≡ Some it → (i : ℕ) (a : Running m) → (i ≡ k → ⊥) → w.running i ≡ Some a → Apart s a.entry.changes it.entry.changes)
      → Holds c setup (record { committed = w.committed; running = with_running k u w.running; next = n })
  put_holds w holds k n u le number ok apart = record {
    committed = holds.committed;
    no_structure = holds.no_structure;
    states = states_later w.committed w.next n le holds.states;
    below = λ i it e. elim (cases_eq i k) [
      | inl same ↦ (let e' : u ≡ Some it = rw (eq-eqb _ _ same) at e in let q = number it e' in omega arith)
      | inr other ↦ (let e' : w.running i ≡ Some it = rw (ne_eqb _ _ other) at e in let q = holds.below i it e' in omega arith)
    ];
    running = λ i it e. elim (cases_eq i k) [
      | inl same ↦ (let e' : u ≡ Some it = rw (eq-eqb _ _ same) at e in rw same (ok it e'))
      | inr other ↦ running_later w.committed w.next n i it le (holds.running i it (rw (ne_eqb _ _ other) at e))
    ];
    apart = λ i j a z ne ei ej. elim (cases_eq i k) [
      | inl si ↦ elim (cases_eq j k) [
        | inl sj ↦ absurd (ne (si ∙ sym sj))
        | inr oj ↦ turned z.entry.changes a.entry.changes (apart a (rw (eq-eqb _ _ si) at ei) j z oj (rw (ne_eqb _ _ oj) at ej))
      ]
      | inr oi ↦ elim (cases_eq j k) [
        | inl sj ↦ apart z (rw (eq-eqb _ _ sj) at ej) i a oi (rw (ne_eqb _ _ oi) at ei)
        | inr oj ↦ holds.apart i j a z ne (rw (ne_eqb _ _ oi) at ei) (rw (ne_eqb _ _ oj) at ej)
      ]
    ];
  }

  -- where it ends, all stays
  drop_holds : (w : World m) → Holds c setup w → (k : ℕ) → Holds c setup (record { committed = w.committed; running = with_running k None w.running; next = w.next })
  drop_holds w holds k = put_holds w holds k w.next None (omega arith) (λ it e. absurd cc) (λ it e. absurd cc) (λ it e. absurd cc)

  -- ---- a beginning

  -- one that begins is as is asked
  begin_holds : (w : World m) → Holds c setup w → (start : m.Start) → Holds c setup (begin w start)
  begin_holds w holds start =
      let es = w.committed in
      let first = m.begin w.next start in
      let fresh : Running m = record { entry = new_entry m (length es) first; now = first } in
      let ok : IsRunning c setup es (suc w.next) w.next fresh = record {
        began = omega arith;
        recorded = record { replies = refl; changes = refl; fits = tt; noted = λ o i. absurd i };
        now_is = refl;
        apart = λ i l late a b ia ib. absurd ib;
        sound = holds.states.sound (length es) (omega arith);
        goes_on = lawful.begins w.next start (state_at m opening es (length es)) (holds.states.free w.next (omega arith));
        number = lawful.numbered w.next start;
        free = λ later from. holds.states.free later (omega arith);
        follows = λ place. lawful.follows_self place (s.look (state_at m opening es (length es)) place);
      } in
      put_holds w holds w.next (suc w.next) (Some fresh) (omega arith) (λ it e. omega arith)
      (λ it e. subst (λ (u : Running m). IsRunning c setup es (suc w.next) w.next u) (some_is fresh it e) ok)
      (λ it e i a ne ei d f id if' is. let t = subst (λ (z : Running m). IsAmong f z.entry.changes) (sym (some_is fresh it e)) if' in absurd t)

  -- if it may begin
  begin_if : (t : Bool) (w : World m) → Holds c setup w → (start : m.Start) → Holds c setup (cond t (begin w start) w)
  begin_if true w holds start = begin_holds w holds start
  begin_if false w holds start = holds

  -- ---- a statement

  module _ (w : World m) (holds : Holds c setup w) (k : ℕ) (asked : m.Statement) (it : Running m) (is : w.running k ≡ Some it)
      (untaken : is_taken w k it.entry.snap (m.step it.now asked (sees setup w.committed it.entry)).changes ≡ false) where
    abbrev snapshot : s.State
    snapshot = state_at m opening w.committed it.entry.snap

    -- the state that it sees
    abbrev state : s.State
    state = sees setup w.committed it.entry

    -- the statement's changes
    abbrev cs : List s.Change
    cs = (m.step it.now asked state).changes

    -- what holds of it
    ok : IsRunning c setup w.committed w.next k it
    ok = holds.running k it is

    -- no object is taken by one that committed since, and none by one that runs
    none_taken : (any_below (λ (i : ℕ). leb it.entry.snap i && shares s cs (entry_at m w.committed i).changes) (length w.committed) ≡ false)
        × (any_below (λ (i : ℕ). not (i == k) && shares s cs (changes_of m (w.running i))) w.next ≡ false)
    none_taken = or_parts (any_below (λ (i : ℕ). leb it.entry.snap i && shares s cs (entry_at m w.committed i).changes) (length w.committed)) (any_below (λ (i : ℕ). not (i == k) && shares s cs (changes_of m (w.running i))) w.next) untaken

    -- the changes are apart from those of the ones that committed since, and of the others that run
    apart_committed : (i : ℕ) → i < length w.committed → it.entry.snap ≤ i → Apart s (entry_at m w.committed i).changes cs
    apart_committed i li late =
        let none = any_below_none (λ (y : ℕ). leb it.entry.snap y && shares s cs (entry_at m w.committed y).changes) (length w.committed) (none_taken.0) i li in
        let none' : shares s cs (entry_at m w.committed i).changes ≡ false = rw (le-leb _ _ late) at none in
        turned cs (entry_at m w.committed i).changes (apart_since_unshared s cs (entry_at m w.committed i).changes none')

    -- the changes are apart from those of the others that run
    apart_running : (i : ℕ) (a : Running m) → (i ≡ k → ⊥) → w.running i ≡ Some a → Apart s a.entry.changes cs
    apart_running i a ne ei =
        let none = any_below_none (λ (y : ℕ). not (y == k) && shares s cs (changes_of m (w.running y))) w.next (none_taken.1) i (holds.below i a ei) in
        let none' : shares s cs (changes_of m (w.running i)) ≡ false = rw (ne_eqb _ _ ne) at none in
        turned cs a.entry.changes (apart_since_unshared s cs a.entry.changes (rw ei at none'))

    -- what it sees is what its statements leave alone
    there : state ≡ state_alone m it.entry.start it.entry.statements snapshot
    there = ap (λ u. put_all s u snapshot) (ok.recorded.changes) ∙ sym (state_alone_is m it.entry.start it.entry.statements snapshot)

    -- what is recorded then is what the statements come to alone
    next_recorded : IsRecorded m opening w.committed (posted setup w.committed it asked).entry
    next_recorded =
        let same = ok.now_is in
        let at_state = there in
        record {
          replies = rw (replies_push m it.entry.start it.entry.statements asked snapshot) (rw (← same) (rw (← at_state) (rw (← ok.recorded.replies) refl)));
          changes = rw (changes_push m it.entry.start it.entry.statements asked snapshot) (rw (← same) (rw (← at_state) (rw (← ok.recorded.changes) refl)));
          fits = fits_append s it.entry.changes cs snapshot ok.recorded.fits (lawful.fits it.now asked state ok.sound ok.goes_on);
          noted = λ o i. elim (among_cases o (reads_alone m it.entry.start it.entry.statements snapshot) _ (rw (reads_push m it.entry.start it.entry.statements asked snapshot) at i)) [
            | inl earlier ↦
                (let wide = ok.recorded.noted o earlier in
                let wider = set_up.widens it.entry.noted (m.reads it.now asked state) (wide.0) (inl (wide.1)) in
                (wider.0, wider.1, λ place content h. wider.2 place content (wide.2 place content h)))
            | inr here ↦ set_up.widens it.entry.noted (m.reads it.now asked state) o (inr (rw at_state (rw same here)))
          ];
        }

    -- so is the context
    next_now : (posted setup w.committed it asked).now ≡ context_alone m it.entry.start (it.entry.statements ++ asked ∷ []) snapshot
    next_now = let same = ok.now_is in let at_state = there in rw (context_push m it.entry.start it.entry.statements asked snapshot) (rw (← same) (rw (← at_state) refl))

    -- and what it sees then
    next_state : sees setup w.committed (posted setup w.committed it asked).entry ≡ put_all s cs state
    next_state = put_all_append s it.entry.changes cs snapshot

    -- so it is as is asked
    next_running : IsRunning c setup w.committed w.next k (posted setup w.committed it asked)
    next_running = record {
      began = ok.began;
      recorded = next_recorded;
      now_is = next_now;
      apart = λ i l late d e id ie. elim (among_cases e it.entry.changes _ ie) [ inl a ↦ ok.apart i l late d e id a | inr z ↦ apart_committed i l late d e id z ];
      sound = subst c.IsSound (sym next_state) (lawful.sound it.now asked state ok.sound ok.goes_on);
      goes_on = subst (c.CanGoOn (m.step it.now asked state).next) (sym next_state) (lawful.goes_on it.now asked state ok.sound ok.goes_on);
      number = lawful.number it.now asked state ∙ ok.number;
      free = λ later from. subst (c.IsFree later) (sym next_state)
          (lawful.free it.now asked state later ok.sound ok.goes_on (λ same. let z : later ≡ k = same ∙ ok.number in let b = holds.below k it is in omega arith) (ok.free later from));
      follows = λ place. subst (λ (u : s.State). c.Follows place (s.look snapshot place) (s.look u place)) (sym next_state)
          (lawful.follows_on place (s.look snapshot place) (s.look state place) (s.look (put_all s cs state) place) (ok.follows place) (lawful.follows it.now asked state ok.sound ok.goes_on place));
    }

    -- and all stays
    posted_holds : Holds c setup (record { committed = w.committed; running = with_running k (Some (posted setup w.committed it asked)) w.running; next = w.next })
    posted_holds =
        put_holds w holds k w.next (Some (posted setup w.committed it asked)) (omega arith)
        (λ z ez. holds.below k it is)
        (λ z ez. subst (λ (u : Running m). IsRunning c setup w.committed w.next k u) (some_is _ _ ez) next_running)
        (λ z ez i a ne ei d f id if' shared.
        let t = subst (λ (u : Running m). IsAmong f u.entry.changes) (sym (some_is _ _ ez)) if' in
        elim (among_cases f it.entry.changes cs t) [
          | inl old ↦ holds.apart i k a it ne ei is d f id old shared
          | inr new ↦ apart_running i a ne ei d f id new shared
        ])

  -- a post, whether it runs or not, and whether an object is taken
  post_holds : (w : World m) → Holds c setup w → (k : ℕ) (asked : m.Statement) (u : Option (Running m)) → w.running k ≡ u → Holds c setup (post setup w k asked u)
  post_holds w holds k asked None is = holds
  post_holds w holds k asked (Some it) is = by_test (is_taken w k it.entry.snap (m.step it.now asked (sees setup w.committed it.entry)).changes) refl
    where
      by_test : (t : Bool) → is_taken w k it.entry.snap (m.step it.now asked (sees setup w.committed it.entry)).changes ≡ t
          → Holds c setup (record { committed = w.committed; running = with_running k (cond t None (Some (posted setup w.committed it asked))) w.running; next = w.next })
      by_test true e = drop_holds w holds k
      by_test false e = posted_holds w holds k asked it is e

  -- ---- a commit

  -- the opening state is in order
  opens : c.InOrder opening
  opens = lawful.in_order opening set_up.opens

  -- so is each committed state
  in_order : (es : List (Entry m)) (n : ℕ) → c.InOrder (state_at m opening es n)
  in_order es n = state_in_order s lawful.puts opening opens (map (transaction_of m) es) n

  -- the changes of those that committed from one commit up to another
  abbrev since : List (Entry m) → ℕ → ℕ → List s.Change
  since es lo zero = []
  since es lo (suc hi) = since es lo hi ++ cond (leb lo hi) (entry_at m es hi).changes []

  -- each of them was made by one of those
  since_is : (es : List (Entry m)) (lo hi : ℕ) (e : s.Change) → IsAmong e (since es lo hi) → (i : ℕ) × (lo ≤ i) × (i < hi) × IsAmong e (entry_at m es i).changes
  since_is es lo zero e i = absurd i
  since_is es lo (suc hi) e i = elim (among_cases e (since es lo hi) _ i) [
    | inl earlier ↦ (let r = since_is es lo hi e earlier in (r.0, r.1, (let l = r.2 in omega arith), r.3))
    | inr last ↦ elim (cases_Bool (leb lo hi)) [
      | inl within ↦ (hi, leb-true _ _ within, omega arith, rw within at last)
      | inr before' ↦ (let none = rw before' at last in absurd none)
    ]
  ]

  -- one more leaves what the earlier ones left
  since_from : (es : List (Entry m)) (lo hi : ℕ) (place : s.Place) (content : s.Content) → IsLeftBy s (since es lo hi) place content → IsLeftBy s (since es lo (suc hi)) place content
  since_from es lo hi place content left = (left.0, among_left left.0 (since es lo hi) _ left.1, left.2, left.3)

  -- what stands at a place is what stood there at an earlier commit, or what a commit since left
  last_left : (es : List (Entry m)) (place : s.Place) (lo hi : ℕ) → lo ≤ hi
      → (s.look (state_at m opening es hi) place ≡ s.look (state_at m opening es lo) place) ⊎ IsLeftBy s (since es lo hi) place (s.look (state_at m opening es hi) place)
  last_left es place lo zero le = let z : lo ≡ 0 = omega arith in inl (rw z refl)
  last_left es place lo (suc hi) le =
      elim (cases_eq lo (suc hi)) [
        | inl same ↦ inl (rw same refl)
        | inr less ↦
            (let ts = map (transaction_of m) es in
            let before' = state_at m opening es hi in
            elim (cases_Bool (touches s (nth s ts hi).changes place)) [
              | inl here ↦
                  (let r = left_by s lawful.puts (nth s ts hi).changes before' (in_order es hi) place here in
                  let own : IsAmong r.0 (entry_at m es hi).changes = subst (λ (u : List s.Change). IsAmong r.0 u) (ap (λ z. z.changes) (nth_is m es hi)) r.1 in
                  inr (r.0, among_right r.0 (since es lo hi) _ (rw (le-leb lo hi (omega arith)) own), r.2, r.3))
              | inr there ↦
                  (let stays = put_elsewhere s lawful.puts (nth s ts hi).changes before' (in_order es hi) place there in
                  elim (last_left es place lo hi (omega arith)) [
                    | inl same ↦ inl (stays ∙ same)
                    | inr r ↦ inr (since_from es lo hi place _ (r.0, r.1, r.2, r.3 ∙ sym stays))
                  ])
            ])
      ]

  module _ (es : List (Entry m)) (next k : ℕ) (it : Running m) (states : AreStates c opening es next) (ok : IsRunning c setup es next k it) where
    -- its snapshot
    old_state : s.State
    old_state = state_at m opening es it.entry.snap

    -- the last committed state
    theirs : s.State
    theirs = state_at m opening es (length es)

    -- what it sees
    mine : s.State
    mine = sees setup es it.entry

    -- both together
    joined : s.State
    joined = put_all s it.entry.changes theirs

    -- what was changed since its snapshot
    abbrev others : List s.Change
    others = since es it.entry.snap (length es)

    -- at each place one of the two has changed, or none
    joins : (place : s.Place) → Joins s old_state mine theirs joined it.entry.changes others place
    unfolding old_state theirs mine joined
    joins place =
        let began = ok.began in
        let low = in_order es it.entry.snap in
        let high = in_order es (length es) in
        elim (cases_Bool (touches s it.entry.changes place)) [
          | inl here ↦
              inl (
                put_here s lawful.puts it.entry.changes (state_at m opening es (length es)) (state_at m opening es it.entry.snap) high low place here,
                same_between s lawful.puts opening opens (map (transaction_of m) es) place it.entry.snap (length es) began
                    (λ w lo hi. false_from_ne_true _ (λ t.
                    let t' : touches s (entry_at m es w).changes place ≡ true = rw (nth_is m es w) at t in
                    apart_touch s lawful.puts lawful.same_place (entry_at m es w).changes it.entry.changes (ok.apart w hi lo) place t' here)),
                left_by s lawful.puts it.entry.changes (state_at m opening es it.entry.snap) low place here,
              )
          | inr there ↦
              inr (
                put_elsewhere s lawful.puts it.entry.changes (state_at m opening es (length es)) high place there,
                put_elsewhere s lawful.puts it.entry.changes (state_at m opening es it.entry.snap) low place there,
                last_left es place it.entry.snap (length es) began,
              )
        ]

    -- its changes are apart from those made since
    apart_others : Apart s it.entry.changes others
    apart_others a e ia ie is =
        let r = since_is es it.entry.snap (length es) e ie in
        ok.apart r.0 r.2 r.1 e a r.3 ia (lawful.turned a e is)

    -- the new state is in order
    joined_in_order : c.InOrder joined
    unfolding joined theirs
    joined_in_order = put_all_stays s lawful.puts it.entry.changes (state_at m opening es (length es)) (in_order es (length es))

    -- it is sound
    joined_sound : c.IsSound joined
    unfolding theirs mine old_state
    joined_sound = lawful.sound_joined old_state mine theirs joined it.entry.changes others ok.sound (states.sound (length es) (omega arith)) joined_in_order apart_others
        joins ok.follows (λ place. states.follow place it.entry.snap ok.began)

    -- later numbers are free in it
    joined_free : (later : ℕ) → next ≤ later → c.IsFree later joined
    unfolding mine theirs
    joined_free later from = lawful.free_joined later mine theirs joined (λ place. elim (joins place) [ inl p ↦ inl p.0 | inr p ↦ inr p.0 ]) (ok.free later from) (states.free later from)

    -- and its contents follow the earlier ones
    joined_follows : (place : s.Place) → c.Follows place (s.look theirs place) (s.look joined place)
    unfolding mine old_state
    joined_follows place = elim (joins place) [
      | inl p ↦ rw (p.0) (rw (p.1) (ok.follows place))
      | inr p ↦ rw (p.0) (lawful.follows_self place (s.look theirs place))
    ]

    -- so the committed states stay as is asked
    states_push : AreStates c opening (es ++ it.entry ∷ []) next
    unfolding joined theirs
    states_push =
        let len = len_push m es it.entry in
        let new = state_new m opening es it.entry in
        record {
          sound = λ i le. elim (cases_eq i (suc (length es))) [
            | inl last ↦ rw last (rw new joined_sound)
            | inr other ↦ (let below : i ≤ length es = omega arith in rw (state_old m opening es it.entry i below) (states.sound i below))
          ];
          free = λ later from. rw len (rw new (joined_free later from));
          follow = λ place i le. elim (cases_eq i (suc (length es))) [
            | inl last ↦ rw len (rw last (lawful.follows_self place _))
            | inr other ↦
                (let below : i ≤ length es = omega arith in
                rw len (rw new (rw (state_old m opening es it.entry i below) (lawful.follows_on place _ _ _ (states.follow place i below) (joined_follows place)))))
          ];
        }

  -- where the test lets it commit, all stays
  committed_holds : (w : World m) → Holds c setup w → (k : ℕ) (it : Running m) → w.running k ≡ Some it
      → setup.test (history_by m (w.committed ++ it.entry ∷ [])) (length w.committed) ≡ false
      → Holds c setup (record { committed = w.committed ++ it.entry ∷ []; running = with_running k None w.running; next = w.next })
  committed_holds w holds k it is safe =
      let es = w.committed in
      let e = it.entry in
      let ok = holds.running k it is in
      let h = history_by m (es ++ e ∷ []) in
      let dropped = drop_holds w holds k in
      record {
        committed = committed_push m opening lawful.turned es e holds.committed ok.began ok.recorded ok.apart;
        no_structure = rw (len_push m es e) (none_more h (length es) (none_old m es e holds.no_structure) (λ found. both_ways _ safe (set_up.finds h (length es) found)));
        states = states_push es w.next k it holds.states ok;
        below = dropped.below;
        running = λ i z ez. elim (cases_eq i k) [
          | inl same ↦ (let none = rw (eq-eqb _ _ same) at ez in absurd cc)
          | inr other ↦ still_running i z other (rw (ne_eqb _ _ other) at ez)
        ];
        apart = dropped.apart;
      }
    where
      -- those that run go on
      still_running : (i : ℕ) (z : Running m) → (i ≡ k → ⊥) → w.running i ≡ Some z → IsRunning c setup (w.committed ++ it.entry ∷ []) w.next i z
      still_running i z other ez =
          let es = w.committed in
          let e = it.entry in
          let old = holds.running i z ez in
          let len = len_push m es e in
          let same = state_old m opening es e z.entry.snap old.began in
          record {
            began = (let b = old.began in omega arith);
            recorded = recorded_on m opening es e z.entry old.began old.recorded;
            now_is = rw same old.now_is;
            apart = λ j l late a b ia ib. elim (cases_eq j (length es)) [
              | inl last ↦ holds.apart k i it z (λ q. other (sym q)) is ez a b (rw (entry_new m es e) at (rw last at ia)) ib
              | inr earlier ↦ (let l' : j < length es = omega arith in old.apart j l' late a b (rw (entry_old m es e j l') at ia) ib)
            ];
            sound = rw same old.sound;
            goes_on = rw same old.goes_on;
            number = old.number;
            free = rw same old.free;
            follows = rw same old.follows;
          }

  -- a commit, whether it runs or not, and whether the test lets it
  commit_holds : (w : World m) → Holds c setup w → (k : ℕ) (u : Option (Running m)) → w.running k ≡ u → Holds c setup (commit setup w k u)
  commit_holds w holds k None is = holds
  commit_holds w holds k (Some it) is = by_test (setup.test (history_by m (w.committed ++ it.entry ∷ [])) (length w.committed)) refl
    where
      by_test : (t : Bool) → setup.test (history_by m (w.committed ++ it.entry ∷ [])) (length w.committed) ≡ t
          → Holds c setup (record { committed = cond t w.committed (w.committed ++ it.entry ∷ []); running = with_running k None w.running; next = w.next })
      by_test true e = drop_holds w holds k
      by_test false e = committed_holds w holds k it is e

  -- ---- events

  -- each event
  pub happens_holds : (w : World m) → Holds c setup w → (e : Event m.Start m.Statement) → Holds c setup (happens setup w e)
  happens_holds w holds (Begin start) = begin_if (m.admits start (state_at m opening w.committed (length w.committed))) w holds start
  happens_holds w holds (Post k asked) = post_holds w holds k asked (w.running k) refl
  happens_holds w holds (Commit k) = commit_holds w holds k (w.running k) refl
  happens_holds w holds (Rollback k) = drop_holds w holds k

  -- all events
  run_holds : (events : List (Event m.Start m.Statement)) (w : World m) → Holds c setup w → Holds c setup (run setup w events)
  run_holds [] w holds = holds
  run_holds (e ∷ events) w holds = run_holds events (happens setup w e) (happens_holds w holds e)

  -- before the first
  nothing_holds : (first : ℕ) → Holds c setup (nothing_yet m first)
  nothing_holds first = record {
    committed = record { began = λ i l. absurd (omega arith); recorded = λ i l. absurd (omega arith); apart = λ i j l. absurd (omega arith) };
    no_structure = λ i j k l. absurd (omega arith);
    states = record {
      sound = λ i le. let z : i ≡ 0 = omega arith in rw z set_up.opens;
      free = λ later from. set_up.free later;
      follow = λ place i le. let z : i ≡ 0 = omega arith in rw z (lawful.follows_self place (s.look opening place));
    };
    below = λ k it e. absurd cc;
    running = λ k it e. absurd cc;
    apart = λ i j a z ne e. absurd cc;
  }

  -- after every list of events
  pub after_holds : (first : ℕ) (events : List (Event m.Start m.Statement)) → Holds c setup (after setup first events)
  after_holds first events = run_holds events (nothing_yet m first) (nothing_holds first)

  -- ---- orders of the committed ones

  -- there is an order
  pub order_after : (first : ℕ) (events : List (Event m.Start m.Statement)) → HasOrder setup (after setup first events)
  order_after first events =
      let holds = after_holds first events in
      has_order c lawful opening opens (after setup first events).committed holds.committed holds.no_structure

  -- each explains what is recorded
  pub explains_after : (first : ℕ) (events : List (Event m.Start m.Statement)) → EachExplains setup (after setup first events)
  explains_after first events order is = order_explains c lawful opening opens (after setup first events).committed (after_holds first events).committed order is

  -- in each all find what their snapshots had
  pub snapshots_after : (first : ℕ) (events : List (Event m.Start m.Statement)) → EachFindsSnapshots setup (after setup first events)
  snapshots_after first events order is = order_finds c lawful opening opens (after setup first events).committed (after_holds first events).committed order is

  -- and one can be made
  pub ordered_after : (first : ℕ) (events : List (Event m.Start m.Statement)) → CanBeOrdered setup (after setup first events)
  ordered_after first events =
      let holds = after_holds first events in
      (is_history c lawful opening opens (after setup first events).committed holds.committed, no_structure c lawful opening opens (after setup first events).committed holds.committed holds.no_structure)

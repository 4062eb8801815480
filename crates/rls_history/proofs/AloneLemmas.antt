-- From agreement on what was read, by the frame law, to replies, changes and the final state.
use Rattle.std.proofs.Common.{◌≡◌, ℕ, zero, suc, ◌<◌, Bool, List, [], ◌∷◌, ◌++◌, length, map, refl, ap, sym, ◌∙◌, append_assoc, append-nil}
use Rattle.std.proofs.lemmas.List.{length-map}
use Rattle.rls_history.specs.Structures.{NoStructureBelow}
use Rattle.rls_history.specs.Orders.{IsHistory, IsOrder, StandInTurn, with_placed, none_placed}
use Rattle.rls_history.specs.States.{States, IsAmong, put_all, Agree}
use Rattle.rls_history.specs.Transactions.{Transaction, nth}
use Rattle.rls_history.specs.Statements.{Statements, replies_alone, changes_alone, reads_alone, context_alone}
use Rattle.rls_history.specs.Explained.{Entry, entry_at, transaction_of, history_by, state_at, Explains, FindSnapshots}
use Rattle.rls_history.specs.Lawful.{Conditions, IsLawful}
use Rattle.rls_history.specs.Kept.{AreCommitted}
use Rattle.rls_history.proofs.StateLemmas.{among_left, among_right, put_all_append, put_all_stays, agree_within, agree_put, apart_touch, met_is_change}
use Rattle.rls_history.proofs.SnapshotLemmas.{state_in_order, AreKept, RunsThrough, runs_through}
use Rattle.rls_history.proofs.OrderLemmas.{order_exists}

module _ {s : States} (m : Statements s) where
  -- the state that statements leave
  abbrev pub state_alone : m.Context → List m.Statement → s.State → s.State
  state_alone x [] state = state
  state_alone x (e ∷ asked) state = state_alone (m.step x e state).next asked (put_all s (m.step x e state).changes state)

  -- it is the state under all their changes
  pub state_alone_is : (x : m.Context) (asked : List m.Statement) (state : s.State) → state_alone x asked state ≡ put_all s (changes_alone m x asked state) state
  state_alone_is x [] state = refl
  state_alone_is x (e ∷ asked) state = state_alone_is (m.step x e state).next asked (put_all s (m.step x e state).changes state) ∙ sym (put_all_append s (m.step x e state).changes _ state)

  -- one statement more
  pub replies_push : (x : m.Context) (asked : List m.Statement) (e : m.Statement) (state : s.State)
      → replies_alone m x (asked ++ e ∷ []) state ≡ replies_alone m x asked state ++ (m.step (context_alone m x asked state) e (state_alone x asked state)).reply ∷ []
  replies_push x [] e state = refl
  replies_push x (f ∷ asked) e state = ap (λ r. (m.step x f state).reply ∷ r) (replies_push (m.step x f state).next asked e (put_all s (m.step x f state).changes state))

  pub changes_push : (x : m.Context) (asked : List m.Statement) (e : m.Statement) (state : s.State)
      → changes_alone m x (asked ++ e ∷ []) state ≡ changes_alone m x asked state ++ (m.step (context_alone m x asked state) e (state_alone x asked state)).changes
  changes_push x [] e state = append-nil _
  changes_push x (f ∷ asked) e state =
      ap (λ r. (m.step x f state).changes ++ r) (changes_push (m.step x f state).next asked e (put_all s (m.step x f state).changes state))
      ∙ sym (append_assoc (m.step x f state).changes _ _)

  pub reads_push : (x : m.Context) (asked : List m.Statement) (e : m.Statement) (state : s.State)
      → reads_alone m x (asked ++ e ∷ []) state ≡ reads_alone m x asked state ++ m.reads (context_alone m x asked state) e (state_alone x asked state)
  reads_push x [] e state = append-nil _
  reads_push x (f ∷ asked) e state =
      ap (λ r. m.reads x f state ++ r) (reads_push (m.step x f state).next asked e (put_all s (m.step x f state).changes state))
      ∙ sym (append_assoc (m.reads x f state) _ _)

  pub context_push : (x : m.Context) (asked : List m.Statement) (e : m.Statement) (state : s.State)
      → context_alone m x (asked ++ e ∷ []) state ≡ (m.step (context_alone m x asked state) e (state_alone x asked state)).next
  context_push x [] e state = refl
  context_push x (f ∷ asked) e state = context_push (m.step x f state).next asked e (put_all s (m.step x f state).changes state)

  -- the transaction with a commit is that of the entry
  pub nth_is : (es : List (Entry m)) (i : ℕ) → nth s (map (transaction_of m) es) i ≡ transaction_of m (entry_at m es i)
  nth_is [] i = refl
  nth_is (e ∷ es) zero = refl
  nth_is (e ∷ es) (suc i) = nth_is es i

module _ {s : States} {m : Statements s} (c : Conditions m) (lawful : IsLawful c) where
  -- run alone on states that agree on what is read, the same replies and changes
  alone_same : (asked : List m.Statement) (x : m.Context) (one other : s.State) → c.InOrder one → c.InOrder other
      → ((o : s.Object) → IsAmong o (reads_alone m x asked one) → Agree s o one other)
      → (replies_alone m x asked one ≡ replies_alone m x asked other) × (changes_alone m x asked one ≡ changes_alone m x asked other)
  alone_same [] x one other p q agree = (refl, refl)
  alone_same (e ∷ asked) x one other p q agree =
      let same : m.step x e one ≡ m.step x e other = lawful.frame x e one other p q (λ o i. agree o (among_left o (m.reads x e one) _ i)) in
      let cs = (m.step x e one).changes in
      let rest = alone_same asked (m.step x e one).next (put_all s cs one) (put_all s cs other) (put_all_stays s lawful.puts cs one p) (put_all_stays s lawful.puts cs other q)
      (λ o i. agree_put s lawful.puts o cs one other p q (agree o (among_right o (m.reads x e one) _ i))) in
      rw (← same) (ap (λ r. (m.step x e one).reply ∷ r) (rest.0), ap (λ r. cs ++ r) (rest.1))

  module _ (opening : s.State) (opens : c.InOrder opening) (es : List (Entry m)) (committed : AreCommitted m opening es) where
    -- the committed transactions
    abbrev ts : List (Transaction s)
    ts = map (transaction_of m) es

    -- they are as the lemmas on snapshots ask
    kept : AreKept s lawful.puts opening opens ts
    kept = record {
      began = λ i l. rw (nth_is m es i) (committed.began i (rw length-map at l));
      fits = λ i l. rw (nth_is m es i) ((committed.recorded i (rw length-map at l)).fits);
      no_common = λ i j place li lj both ti tj.
          apart_touch s lawful.puts lawful.same_place (entry_at m es i).changes (entry_at m es j).changes (committed.apart i j (rw length-map at li) (rw length-map at lj) both)
          place (rw (nth_is m es i) at ti) (rw (nth_is m es j) at tj);
    }

    -- a transaction changes what its entry says
    as_put : (t : ℕ) (state : s.State) → put_all s (nth s ts t).changes state ≡ put_all s (entry_at m es t).changes state
    as_put t state = ap (λ (z : Transaction s). put_all s z.changes state) (nth_is m es t)

    -- on the entries
    found : (order : List ℕ) (state : s.State) → RunsThrough s lawful.puts opening opens ts order state → FindSnapshots m opening es order state
    found [] state run = tt
    found (t ∷ order) state run = (rw (nth_is m es t) at (run.0), found order (put_all s (entry_at m es t).changes state) (rw (as_put t state) at (run.1)))

    -- the statements come to what they came to on their snapshots
    explained : (order : List ℕ) (placed : ℕ → Bool) (state : s.State) → c.InOrder state → StandInTurn (history_by m es) placed order → RunsThrough s lawful.puts opening opens ts order state
        → Explains m opening es order state
    explained [] placed state p turns run = λ place. rw (← length-map es (transaction_of m)) (run place)
    explained (t ∷ order) placed state p turns run =
        let l : t < length es = rw length-map at (turns.0.within) in
        let it = entry_at m es t in
        let recorded = committed.recorded t l in
        let snapshot = state_at m opening es it.snap in
        let agree : (o : s.Object) → IsAmong o (reads_alone m it.start it.statements snapshot) → Agree s o snapshot state = λ o i.
        let w = recorded.noted o i in
        let a : Agree s (w.0) state snapshot = (rw (nth_is m es t) at (run.0)) (w.0) (w.1) in
        λ place. sym (agree_within s o (w.0) state snapshot (w.2) a place) in
        let same = alone_same it.statements it.start snapshot state (state_in_order s lawful.puts opening opens ts it.snap) p agree in
        let made : changes_alone m it.start it.statements state ≡ it.changes = sym (recorded.changes ∙ same.1) in (
          sym (recorded.replies ∙ same.0),
          made,
          explained order (with_placed placed t) (put_all s it.changes state) (put_all_stays s lawful.puts it.changes state p) turns.1 (rw (as_put t state) at (run.1)),
        )

    -- each order that keeps `before` and `rw` explains what was recorded
    pub order_explains : (order : List ℕ) → IsOrder (history_by m es) order → Explains m opening es order opening
    order_explains order is = explained order none_placed opening opens is.in_turn (runs_through s lawful.puts opening opens ts kept order is)

    -- and in it each finds what its snapshot had
    pub order_finds : (order : List ℕ) → IsOrder (history_by m es) order → FindSnapshots m opening es order opening
    order_finds order is = found order opening (runs_through s lawful.puts opening opens ts kept order is)

    -- each began before it committed, and only what was changed is read
    pub is_history : IsHistory (history_by m es)
    is_history = record { began = kept.began; was_written = λ i j e. met_is_change s (nth s ts i).noted (nth s ts j).changes e }

    -- none below their number is none at all
    pub no_structure : NoStructureBelow (history_by m es) (length es) → NoStructureBelow (history_by m es) (history_by m es).count
    no_structure free first pivot last lf lp ll = free first pivot last (rw length-map at lf) (rw length-map at lp) (rw length-map at ll)

    -- without a structure there is an order
    pub has_order : NoStructureBelow (history_by m es) (length es) → (order : List ℕ) × IsOrder (history_by m es) order
    has_order free = order_exists (history_by m es) is_history (no_structure free)

-- Each committed transaction began as the one of its number, and no two have one number.
use Rattle.std.proofs.Common.{◌≡◌, ℕ, suc, ◌<◌, ◌≤◌, Bool, true, false, cond, Option, Some, None, List, [], ◌∷◌, ◌++◌, length, refl, ap, sym, ◌∙◌, subst, arith, inl, inr, eq-eqb, ne_eqb}
use Rattle.std.proofs.lemmas.Bool.{cases_eq}
use Rattle.std.proofs.lemmas.Option.{none-some}
use Rattle.rls_history.specs.States.{States}
use Rattle.rls_history.specs.Statements.{Statements}
use Rattle.rls_history.specs.Explained.{Entry, new_entry, entry_at, history_by, state_at}
use Rattle.rls_history.specs.Worlds.{Running, World, Event, Setup, sees, is_taken}
use Rattle.rls_history.specs.Events.{with_running, posted, post, commit, begin, happens, run, nothing_yet, after}
use Rattle.rls_history.specs.Worlds.Event.{Begin, Post, Commit, Rollback}
use Rattle.rls_history.specs.Kept.{BeganAs, AreNumbered}
use Rattle.rls_history.proofs.EntryLemmas.{entry_old, entry_new, old_or_new}

-- what two have that are the same
some_is : {X : Type 0} (a b : X) → Some a ≡ Some b → a ≡ b
some_is a b e = cc

module _ {s : States} {m : Statements s} (setup : Setup m) (number_of : m.Context → ℕ) (numbered : (txn : ℕ) (start : m.Start) → number_of (m.begin txn start) ≡ txn) where
  -- the number of a committed one
  abbrev number_at : List (Entry m) → ℕ → ℕ
  number_at es i = number_of (entry_at m es i).start

  -- one place of those that run is set anew, which is none of a committed one
  put_numbered : (w : World m) → AreNumbered number_of w → (k n : ℕ) (u : Option (Running m)) → w.next ≤ n
      → ((it : Running m) → u ≡ Some it → (k < n) × BeganAs m k it.entry)
      → ((i : ℕ) → i < length w.committed → number_at w.committed i ≡ k → u ≡ None)
      → AreNumbered number_of (record { committed = w.committed; running = with_running k u w.running; next = n })
  put_numbered w ok k n u le new free = record {
    below = λ i it e. elim (cases_eq i k) [
      | inl same ↦ (let e' : u ≡ Some it = rw (eq-eqb _ _ same) at e in let q = (new it e').0 in omega arith)
      | inr other ↦ (let e' : w.running i ≡ Some it = rw (ne_eqb _ _ other) at e in let q = ok.below i it e' in omega arith)
    ];
    running = λ i it e. elim (cases_eq i k) [
      | inl same ↦ (let e' : u ≡ Some it = rw (eq-eqb _ _ same) at e in rw same ((new it e').1))
      | inr other ↦ ok.running i it (rw (ne_eqb _ _ other) at e)
    ];
    committed_below = λ i l. let q = ok.committed_below i l in omega arith;
    committed = ok.committed;
    over = λ i l. elim (cases_eq (number_at w.committed i) k) [
      | inl same ↦ rw (eq-eqb _ _ same) (free i l same)
      | inr other ↦ rw (ne_eqb _ _ other) (ok.over i l)
    ];
    differ = ok.differ;
  }

  -- one that ends
  drop_numbered : (w : World m) → AreNumbered number_of w → (k : ℕ) → AreNumbered number_of (record { committed = w.committed; running = with_running k None w.running; next = w.next })
  drop_numbered w ok k = put_numbered w ok k w.next None (omega arith) (λ it e. absurd cc) (λ i l e. refl)

  -- one that begins, if it may
  begin_if : (t : Bool) (w : World m) → AreNumbered number_of w → (start : m.Start) → AreNumbered number_of (cond t (begin w start) w)
  begin_if false w ok start = ok
  begin_if true w ok start =
      let fresh : Running m = record { entry = new_entry m (length w.committed) (m.begin w.next start); now = m.begin w.next start } in
      put_numbered w ok w.next (suc w.next) (Some fresh) (omega arith)
      (λ it e. (omega arith, subst (λ (z : Running m). BeganAs m w.next z.entry) (some_is fresh it e) (start, refl)))
      (λ i l e. let q = ok.committed_below i l in absurd (omega arith))

  -- one that posts, or ends
  post_if : (t : Bool) (w : World m) → AreNumbered number_of w → (k : ℕ) (asked : m.Statement) (it : Running m) → w.running k ≡ Some it
      → AreNumbered number_of (record { committed = w.committed; running = with_running k (cond t None (Some (posted setup w.committed it asked))) w.running; next = w.next })
  post_if true w ok k asked it is = drop_numbered w ok k
  post_if false w ok k asked it is =
      put_numbered w ok k w.next (Some (posted setup w.committed it asked)) (omega arith)
      (λ z e. (ok.below k it is, subst (λ (u : Running m). BeganAs m k u.entry) (some_is _ z e) (ok.running k it is)))
      (λ i l e. absurd (none-some it (sym (ok.over i l) ∙ ap w.running e ∙ is)))

  -- a post, whether it runs or not
  post_numbered : (w : World m) → AreNumbered number_of w → (k : ℕ) (asked : m.Statement) (u : Option (Running m)) → w.running k ≡ u → AreNumbered number_of (post setup w k asked u)
  post_numbered w ok k asked None is = ok
  post_numbered w ok k asked (Some it) is = post_if (is_taken w k it.entry.snap (m.step it.now asked (sees setup w.committed it.entry)).changes) w ok k asked it is

  -- one that commits, or ends
  commit_if : (t : Bool) (w : World m) → AreNumbered number_of w → (k : ℕ) (it : Running m) → w.running k ≡ Some it
      → AreNumbered number_of (record { committed = cond t w.committed (w.committed ++ it.entry ∷ []); running = with_running k None w.running; next = w.next })
  commit_if true w ok k it is = drop_numbered w ok k
  commit_if false w ok k it is =
      let es = w.committed in
      let e = it.entry in
      let began = ok.running k it is in
      let own : number_of e.start ≡ k = ap number_of (began.1) ∙ numbered k (began.0) in
      let dropped = drop_numbered w ok k in
      let old : (i : ℕ) → i < length es → number_at (es ++ e ∷ []) i ≡ number_at es i = λ i l. ap (λ (z : Entry m). number_of z.start) (entry_old m es e i l) in
      let new : (i : ℕ) → i ≡ length es → number_at (es ++ e ∷ []) i ≡ k = λ i same. ap (number_at (es ++ e ∷ [])) same ∙ ap (λ (z : Entry m). number_of z.start) (entry_new m es e) ∙ own in
      let apart : (i : ℕ) → i < length es → number_at es i ≡ k → ⊥ = λ i l same. none-some it (sym (ok.over i l) ∙ ap w.running same ∙ is) in
      record {
        below = dropped.below;
        running = dropped.running;
        committed_below = λ i l. elim (old_or_new m es e i l) [
          | inl earlier ↦ rw (entry_old m es e i earlier) (ok.committed_below i earlier)
          | inr last ↦ rw last (rw (entry_new m es e) (rw own (ok.below k it is)))
        ];
        committed = λ i l. elim (old_or_new m es e i l) [
          | inl earlier ↦ rw (entry_old m es e i earlier) (ok.committed i earlier)
          | inr last ↦ rw last (rw (entry_new m es e) (rw own began))
        ];
        over = λ i l. elim (old_or_new m es e i l) [
          | inl earlier ↦ rw (entry_old m es e i earlier) (dropped.over i earlier)
          | inr last ↦ rw last (rw (entry_new m es e) (rw own (rw (eq-eqb k k refl) refl)))
        ];
        differ = λ i j li lj same. elim (old_or_new m es e i li) [
          | inl bi ↦ elim (old_or_new m es e j lj) [
            | inl bj ↦ ok.differ i j bi bj (sym (old i bi) ∙ same ∙ old j bj)
            | inr ej ↦ absurd (apart i bi (sym (old i bi) ∙ same ∙ new j ej))
          ]
          | inr ei ↦ elim (old_or_new m es e j lj) [
            | inl bj ↦ absurd (apart j bj (sym (old j bj) ∙ sym same ∙ new i ei))
            | inr ej ↦ ei ∙ sym ej
          ]
        ];
      }

  -- a commit, whether it runs or not
  commit_numbered : (w : World m) → AreNumbered number_of w → (k : ℕ) (u : Option (Running m)) → w.running k ≡ u → AreNumbered number_of (commit setup w k u)
  commit_numbered w ok k None is = ok
  commit_numbered w ok k (Some it) is = commit_if (setup.test (history_by m (w.committed ++ it.entry ∷ [])) (length w.committed)) w ok k it is

  -- each event
  happens_numbered : (w : World m) → AreNumbered number_of w → (e : Event m.Start m.Statement) → AreNumbered number_of (happens setup w e)
  happens_numbered w ok (Begin start) = begin_if (m.admits start (state_at m setup.opening w.committed (length w.committed))) w ok start
  happens_numbered w ok (Post k asked) = post_numbered w ok k asked (w.running k) refl
  happens_numbered w ok (Commit k) = commit_numbered w ok k (w.running k) refl
  happens_numbered w ok (Rollback k) = drop_numbered w ok k

  -- all events
  run_numbered : (events : List (Event m.Start m.Statement)) (w : World m) → AreNumbered number_of w → AreNumbered number_of (run setup w events)
  run_numbered [] w ok = ok
  run_numbered (e ∷ events) w ok = run_numbered events (happens setup w e) (happens_numbered w ok e)

  -- before the first
  nothing_numbered : (first : ℕ) → AreNumbered number_of (nothing_yet m first)
  nothing_numbered first = record {
    below = λ k it e. absurd cc;
    running = λ k it e. absurd cc;
    committed_below = λ i l. absurd (omega arith);
    committed = λ i l. absurd (omega arith);
    over = λ i l. refl;
    differ = λ i j l. absurd (omega arith);
  }

  -- after every list of events
  pub after_numbered : (first : ℕ) (events : List (Event m.Start m.Statement)) → AreNumbered number_of (after setup first events)
  after_numbered first events = run_numbered events (nothing_yet m first) (nothing_numbered first)

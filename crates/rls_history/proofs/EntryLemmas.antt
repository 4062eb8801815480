-- What a commit more leaves of the entries before it.
use Rattle.std.proofs.Common.{◌≡◌, ℕ, zero, suc, ◌<◌, ◌≤◌, true, List, [], ◌∷◌, ◌++◌, length, map, refl, ap, sym, ◌∙◌, arith, inl, inr, ◌⊎◌, length-append, le-ltb}
use Rattle.std.proofs.lemmas.Bool.{cases_eq}
use Rattle.std.proofs.lemmas.List.{get_or_append_left, get_or_at}
use Rattle.rls_history.specs.History.{concurrent, rw as edge}
use Rattle.rls_history.specs.Structures.{NoStructureBelow}
use Rattle.rls_history.specs.States.{States, put_all, Apart}
use Rattle.rls_history.specs.Transactions.{nth}
use Rattle.rls_history.specs.Statements.{Statements}
use Rattle.rls_history.specs.Explained.{Entry, entry_at, transaction_of, history_by, state_at}
use Rattle.rls_history.specs.Kept.{IsRecorded, AreCommitted}
use Rattle.rls_history.proofs.HistoryLemmas.{concurrent_from, concurrent_numbers}
use Rattle.rls_history.proofs.AloneLemmas.{nth_is}

module _ {s : States} (m : Statements s) where
  -- one more
  pub len_push : (es : List (Entry m)) (e : Entry m) → length (es ++ e ∷ []) ≡ suc (length es)
  len_push es e = length-append es (e ∷ []) ∙ omega arith

  -- the earlier entries stay
  pub entry_old : (es : List (Entry m)) (e : Entry m) (i : ℕ) → i < length es → entry_at m (es ++ e ∷ []) i ≡ entry_at m es i
  entry_old es e i l = get_or_append_left es (e ∷ []) _ i l

  -- and it is the last
  pub entry_new : (es : List (Entry m)) (e : Entry m) → entry_at m (es ++ e ∷ []) (length es) ≡ e
  entry_new es e = get_or_at es e [] _ (length es) refl

  -- it is an earlier one or the last
  pub old_or_new : (es : List (Entry m)) (e : Entry m) (i : ℕ) → i < length (es ++ e ∷ []) → (i < length es) ⊎ (i ≡ length es)
  old_or_new es e i l = let more = len_push es e in elim (cases_eq i (length es)) [ inl same ↦ inr same | inr other ↦ inl (omega arith) ]

  -- so do the earlier transactions
  nth_old : (es : List (Entry m)) (e : Entry m) (i : ℕ) → i < length es → nth s (map (transaction_of m) (es ++ e ∷ [])) i ≡ nth s (map (transaction_of m) es) i
  nth_old es e i l = nth_is m (es ++ e ∷ []) i ∙ (ap (transaction_of m) (entry_old es e i l) ∙ sym (nth_is m es i))

  -- no structure comes among the earlier ones
  pub none_old : (es : List (Entry m)) (e : Entry m) → NoStructureBelow (history_by m es) (length es) → NoStructureBelow (history_by m (es ++ e ∷ [])) (length es)
  none_old es e none first pivot last lf lp ll is = none first pivot last lf lp ll (record {
    read_by_first = same_edge first pivot lf lp is.read_by_first;
    read_by_pivot = same_edge pivot last lp ll is.read_by_pivot;
    last_before_pivot = is.last_before_pivot;
    last_before_first = is.last_before_first;
    counts = rw (nth_old es e first lf) at is.counts;
  })
    where
      same_edge : (i j : ℕ) → i < length es → j < length es → edge (history_by m (es ++ e ∷ [])) i j ≡ true → edge (history_by m es) i j ≡ true
      same_edge i j li lj is = let a = nth_old es e i li in let b = nth_old es e j lj in let x = rw a at is in rw b at x

  module _ (opening : s.State) where
    -- committed states stand for good
    pub state_old : (es : List (Entry m)) (e : Entry m) (n : ℕ) → n ≤ length es → state_at m opening (es ++ e ∷ []) n ≡ state_at m opening es n
    state_old es e zero l = refl
    state_old es e (suc n) l = let rest = state_old es e n (omega arith) in rw (nth_old es e n (omega arith)) (rw rest refl)

    -- its changes come last
    pub state_new : (es : List (Entry m)) (e : Entry m) → state_at m opening (es ++ e ∷ []) (suc (length es)) ≡ put_all s e.changes (state_at m opening es (length es))
    state_new es e =
        let old = state_old es e (length es) (omega arith) in
        let last : nth s (map (transaction_of m) (es ++ e ∷ [])) (length es) ≡ transaction_of m e = nth_is m (es ++ e ∷ []) (length es) ∙ ap (transaction_of m) (entry_new es e) in
        rw old (rw last refl)

    -- what an entry records of its snapshot stays
    pub recorded_on : (es : List (Entry m)) (e entry : Entry m) → entry.snap ≤ length es → IsRecorded m opening es entry → IsRecorded m opening (es ++ e ∷ []) entry
    recorded_on es e entry began recorded =
        let same = state_old es e entry.snap began in
        record { replies = rw same recorded.replies; changes = rw same recorded.changes; fits = rw same recorded.fits; noted = rw same recorded.noted }

    -- the committed ones with one more
    pub committed_push : ((change other : s.Change) → s.share change other ≡ true → s.share other change ≡ true) → (es : List (Entry m)) (e : Entry m) → AreCommitted m opening es
        → e.snap ≤ length es → IsRecorded m opening es e → ((i : ℕ) → i < length es → e.snap ≤ i → Apart s (entry_at m es i).changes e.changes) → AreCommitted m opening (es ++ e ∷ [])
    committed_push turned es e old began recorded apart = record {
      began = λ i l. elim (old_or_new es e i l) [
        | inl below ↦ rw (entry_old es e i below) (old.began i below)
        | inr same ↦ rw same (rw (entry_new es e) began)
      ];
      recorded = λ i l. elim (old_or_new es e i l) [
        | inl below ↦ (let b = old.began i below in rw (entry_old es e i below) (recorded_on es e (entry_at m es i) (omega arith) (old.recorded i below)))
        | inr same ↦ rw same (rw (entry_new es e) (recorded_on es e e began recorded))
      ];
      apart = λ i j li lj both.
          let n = concurrent_numbers (history_by m (es ++ e ∷ [])) i j both in
          let si : (entry_at m (es ++ e ∷ []) i).snap ≤ j = rw (nth_is m (es ++ e ∷ []) i) at (n.1) in
          let sj : (entry_at m (es ++ e ∷ []) j).snap ≤ i = rw (nth_is m (es ++ e ∷ []) j) at (n.0) in
          elim (old_or_new es e i li) [
            | inl bi ↦ elim (old_or_new es e j lj) [
              | inl bj ↦ rw (entry_old es e i bi) (rw (entry_old es e j bj) (old.apart i j bi bj (still i j n.2 (rw (entry_old es e i bi) at si) (rw (entry_old es e j bj) at sj))))
              | inr ej ↦ rw (entry_old es e i bi) (rw ej (rw (entry_new es e) (apart i bi (rw (entry_new es e) at (rw ej at sj)))))
            ]
            | inr ei ↦ elim (old_or_new es e j lj) [
              | inl bj ↦ rw (entry_old es e j bj) (rw ei (rw (entry_new es e) (λ change other a b is. apart j bj (rw (entry_new es e) at (rw ei at si)) other change b a (turned change other is))))
              | inr ej ↦ absurd (n.2 (ei ∙ sym ej))
            ]
          ];
    }
      where
        still : (i j : ℕ) → (i ≡ j → ⊥) → (entry_at m es i).snap ≤ j → (entry_at m es j).snap ≤ i → concurrent (history_by m es) i j ≡ true
        still i j ne si sj = concurrent_from (history_by m es) i j ne (rw (nth_is m es j) (le-ltb _ _ sj)) (rw (nth_is m es i) (le-ltb _ _ si))

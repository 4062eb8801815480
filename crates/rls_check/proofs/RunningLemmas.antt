-- One transaction more along the order.
use Rattle.std.specs.Prelude.{◌≡◌, refl, ◌↔◌, ◌+◌, ◌<◌, ◌≤◌, ℕ, zero, suc, Bool, true, false, List, [], ◌∷◌, length, drop, get_or, set}
use Rattle.std.proofs.Common.{inl, inr, sym, ◌∙◌, subst, arith}
use Rattle.std.proofs.lemmas.Bool.{true≢false}
use Rattle.std.proofs.lemmas.List.{drop_more, length-set}
use Rattle.rls_catalog.specs.declared.change.Change.{Change}
use Rattle.rls_catalog.specs.State.{State}
use Rattle.rls_catalog.specs.Changed.{opening}
use Rattle.rls_history.specs.Orders.{StandInTurn, IsOrder, placed_by, with_placed, none_placed}
use Rattle.rls_check.specs.declared.transaction.Transaction.{Transaction}
use Rattle.rls_agreement.specs.declared.committing.Committing.{Committing}
use Rattle.rls_check.specs.declared.finding.Finding.{Finding}
use Rattle.rls_check.specs.declared.finding.Finding.TheVariants as f
use Rattle.rls_check.specs.declared.running.RanAlone.TheVariants as alone
use Rattle.rls_check.specs.declared.running.RanAlong.{RanAlong}
use Rattle.rls_check.specs.declared.running.RanAlong.TheVariants as along
use Rattle.rls_check.specs.Audited.{transaction_at}
use Rattle.rls_check.specs.Checking.{IsFoundAlong, IsRunAlone, RunsAlong, history_of}
use Rattle.rls_agreement.specs.Committing.{AgreeWhere, no_changes, state_by, IsCommitting}
use Rattle.rls_check.specs.Committing.{HasRunAlong}

-- no changes at so many places
pub no_changes_many : (n : ℕ) → length (no_changes n) ≡ n
no_changes_many zero = refl
no_changes_many (suc n) = let rest = no_changes_many n in omega (arith, rest)

-- what the run of the rest comes to is what the run of all does
pub record IsRunning (ts : List Transaction) (places rest : List ℕ) (s : State) (it : Committing) : Type 0 where
  pub deltas : List (List Change)
  pub placed : ℕ → Bool
  pub size : length deltas ≡ length ts
  pub committing : IsCommitting deltas placed it
  pub turns : StandInTurn (history_of ts) placed rest
  pub all : placed_by placed rest ≡ placed_by none_placed places
  pub run : (ran : RanAlong) (left : List (List Change)) → RunsAlong ts s deltas rest ran left → RunsAlong ts opening (no_changes (length ts)) places ran left

pub runs_at_first : (ts : List Transaction) (places : List ℕ) (s : State) (it : Committing) → StandInTurn (history_of ts) none_placed places → IsCommitting (no_changes (length ts)) none_placed it → s ≡ opening → IsRunning ts places places s it
runs_at_first ts places s it turns committing is = record {
  deltas = no_changes (length ts);
  placed = none_placed;
  size = no_changes_many (length ts);
  committing = committing;
  turns = turns;
  all = refl;
  run = λ ran left runs. subst (λ (x : State). RunsAlong ts x (no_changes (length ts)) places ran left) is runs;
}

-- ---- as a loop finds them

module _ (ts : List Transaction) (places : List ℕ) (i : ℕ) (s : State) (it : Committing) (running : IsRunning ts places (drop i places) s it) where
  opened : i < length places → IsRunning ts places (get_or places i 0 ∷ drop (i + 1) places) s it
  opened lt = subst (λ (ps : List ℕ). IsRunning ts places ps s it) (drop_more places i 0 lt) running

  -- it comes to what is shown
  pub next_agrees : (behind : State) (after : Committing) (changes : List Change) → i < length places → IsRunAlone s (transaction_at ts (get_or places i 0)) (alone.Agrees behind changes)
      → ((deltas : List (List Change)) (placed : ℕ → Bool) → IsCommitting deltas placed it → placed (get_or places i 0) ≡ false → IsCommitting (set deltas (get_or places i 0) changes) (with_placed placed (get_or places i 0)) after)
      → IsRunning ts places (drop (i + 1) places) behind after
  next_agrees behind after changes lt one put =
      let place = get_or places i 0 in
      let h = opened lt in
      record {
        deltas = set h.deltas place changes;
        placed = with_placed h.placed place;
        size = length-set h.deltas place changes ∙ h.size;
        committing = put h.deltas h.placed h.committing h.turns.0.is_left;
        turns = h.turns.1;
        all = h.all;
        run = λ ran left runs. h.run ran left (inl (behind, changes, one, runs));
      }

  -- it differs
  pub next_differs : (after : Committing) (found : Finding) → i < length places → IsRunAlone s (transaction_at ts (get_or places i 0)) (alone.Differs found) → HasRunAlong ts places (along.Differs found) after
  next_differs after found lt one =
      let h = opened lt in
      record { deltas = h.deltas; size = h.size; runs = h.run (along.Differs found) h.deltas (inr (found, one, refl)); committed = tt }

no_more : (places : List ℕ) (i : ℕ) → length places ≤ i → drop i places ≡ []
no_more [] zero l = refl
no_more [] (suc i) l = refl
no_more (p ∷ places) zero l = absurd (omega (arith, l))
no_more (p ∷ places) (suc i) l = no_more places i (omega (arith, l))

pub all_ran : (ts : List Transaction) (places : List ℕ) (i : ℕ) (s : State) (it : Committing) → IsRunning ts places (drop i places) s it → length places ≤ i → HasRunAlong ts places (along.Agrees s) it
all_ran ts places i s it running l =
    let h : IsRunning ts places [] s it = subst (λ (ps : List ℕ). IsRunning ts places ps s it) (no_more places i l) running in
    record {
      deltas = h.deltas;
      size = h.size;
      runs = h.run (along.Agrees s) h.deltas (refl, refl);
      committed = subst (λ (placed : ℕ → Bool). IsCommitting h.deltas placed it) h.all h.committing;
    }

-- ---- what is found

-- whether the end is the committed state is told
abbrev pub Tells : State → Committing → Bool → Type 0
Tells end it same =
    (deltas : List (List Change)) (placed : ℕ → Bool) → IsCommitting deltas placed it → ((i : ℕ) → i < length deltas → placed i ≡ true) → (same ≡ true) ↔ AgreeWhere deltas end (state_by deltas (length deltas))

module _ (ts : List Transaction) (places : List ℕ) (it : Committing) where
  told : (end : State) (same : Bool) (ran : HasRunAlong ts places (along.Agrees end) it) → IsOrder (history_of ts) places → Tells end it same → (same ≡ true) ↔ AgreeWhere ran.deltas end (state_by ran.deltas (length ran.deltas))
  told end same ran order tells = tells ran.deltas (placed_by none_placed places) ran.committed (λ i l. order.all i (subst (λ (n : ℕ). i < n) ran.size l))

  pub same_end : (end : State) (same : Bool) → HasRunAlong ts places (along.Agrees end) it → IsOrder (history_of ts) places → Tells end it same → same ≡ true → IsFoundAlong ts places f.Holds
  same_end end same ran order tells is = (along.Agrees end, ran.deltas, ran.runs, inl ((told end same ran order tells).0 is, refl))

  pub other_end : (end : State) (same : Bool) → HasRunAlong ts places (along.Agrees end) it → IsOrder (history_of ts) places → Tells end it same → same ≡ false → IsFoundAlong ts places f.FinalState
  other_end end same ran order tells is = (along.Agrees end, ran.deltas, ran.runs, inr ((λ agree. true≢false (sym ((told end same ran order tells).1 agree) ∙ is)), refl))

-- What stands in a new core.
use Rattle.std.specs.Prelude.{◌≡◌, refl, ℕ, zero, suc, ◌≤◌, List, [], ◌∷◌, length, get_or}
use Rattle.std.proofs.Common.{sym, subst, arith}
use Rattle.std.proofs.lemmas.Bool.{true≢false}
use Rattle.std.proofs.lemmas.Option.{none-some}
use Rattle.rls_catalog.specs.State.{State}
use Rattle.rls_catalog.specs.Changed.{opening}
use Rattle.rls_conflict.specs.Known.{Known, nothing_known}
use Rattle.rls_core.specs.Records.{Record, state_after}
use Rattle.rls_core.specs.Opened.{Opened}
use Rattle.rls_core.specs.Kept.{IsKept}

first_state : (n : ℕ) → n ≤ 0 → get_or (opening ∷ []) n opening ≡ state_after [] n
first_state zero within = refl
first_state (suc n) within = absurd (omega arith)

new_kept : (room places : ℕ) → IsKept [] nothing_known [] 1 (opening ∷ []) room places
new_kept room places = record {
  events = [];
  leads = refl;
  known_is = refl;
  runs = λ txn. refl;
  below = λ txn is. absurd (true≢false (sym is));
  over = λ i within. absurd (omega arith);
  count = refl;
  states_are = first_state;
  views_are = λ txn it is. absurd (none-some it is);
  are_sound = λ txn it is. absurd (none-some it is);
  room_left = omega arith;
  places_left = omega arith;
}

-- nothing stands in it but the opening state
pub nothing_kept : (committed : List Record) (known : Known) (opens : List (ℕ × Opened)) (states : List State) (room places : ℕ)
    → committed ≡ [] → known ≡ nothing_known → opens ≡ [] → states ≡ opening ∷ [] → IsKept committed known opens 1 states room places
nothing_kept committed known opens states room places no_committed no_known no_opens only =
    subst (λ (c : List Record). IsKept c known opens 1 states room places) (sym no_committed)
    (subst (λ (k : Known). IsKept [] k opens 1 states room places) (sym no_known)
    (subst (λ (o : List (ℕ × Opened)). IsKept [] nothing_known o 1 states room places) (sym no_opens)
    (subst (λ (s : List State). IsKept [] nothing_known [] 1 s room places) (sym only) (new_kept room places))))

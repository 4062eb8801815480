-- Committed states, and one more.
use Rattle.std.specs.Prelude.{◌≡◌, refl, ℕ, suc, ◌-◌, List, [], ◌∷◌, ◌++◌, length, get_or}
use Rattle.std.proofs.Common.{ap, sym, ◌∙◌, arith}
use Rattle.rls_catalog.specs.declared.change.Change.{Change}
use Rattle.rls_catalog.specs.State.{State}
use Rattle.rls_catalog.specs.Changed.{opening, changed_all}
use Rattle.rls_rows.specs.States.{newest_of, states_from}

-- the newest of states behind one
newest_of_more : (s x : State) (more : List State) → newest_of (s ∷ x ∷ more) ≡ newest_of (x ∷ more)
newest_of_more s x more =
    let long : length (s ∷ x ∷ more) - 1 ≡ suc (length more) = omega arith in
    let short : length (x ∷ more) - 1 ≡ length more = omega arith in
    ap (λ (n : ℕ). get_or (s ∷ x ∷ more) n opening) long ∙ sym (ap (λ (n : ℕ). get_or (x ∷ more) n opening) short)

newest_behind : (s t : State) (deltas : List (List Change)) → newest_of (s ∷ states_from t deltas) ≡ newest_of (states_from t deltas)
newest_behind s t [] = newest_of_more s t []
newest_behind s t (changes ∷ deltas) = newest_of_more s t (states_from (changed_all t changes) deltas)

pub one_more : (s : State) (deltas : List (List Change)) (changes : List Change) → states_from s (deltas ++ changes ∷ []) ≡ states_from s deltas ++ changed_all (newest_of (states_from s deltas)) changes ∷ []
one_more s [] changes = refl
one_more s (first ∷ deltas) changes =
    ap (λ (states : List State). s ∷ states) (one_more (changed_all s first) deltas changes)
    ∙ ap (λ (t : State). s ∷ (states_from (changed_all s first) deltas ++ changed_all t changes ∷ [])) (sym (newest_behind s (changed_all s first) deltas))

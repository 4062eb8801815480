-- Those that run, by the map that keeps them.
use Rattle.std.specs.Prelude.{◌≡◌, refl, ℕ, List, [], ◌∷◌, Bool, true, false, nat_eq, map, cond, if◌then◌else◌, Option, Some, None, unwrap_or}
use Rattle.std.specs.BTreeMap.{is_at}
use Rattle.std.specs.List.{find}
use Rattle.std.specs.Map.{lookup}
use Rattle.std.specs.Option.{option_map, is_some}
use Rattle.std.specs.Ordering.{nat_cmp}
use Rattle.std.proofs.Common.{ap, sym, ◌∙◌}
use Rattle.std.proofs.lemmas.Bool.{true≢false}
use Rattle.rls_value.specs.declared.object.Object.{Object}
use Rattle.rls_siread.specs.Locks.{Locks, noted_by}
use Rattle.rls_siread.proofs.LocksLaws.{same_number, number_at}
use Rattle.rls_conflict.specs.declared.committed.Committed.{Committed}
use Rattle.rls_conflict.specs.Begun.{Begun, at_number}
use Rattle.rls_conflict.specs.Transactions.{Transaction, nobody}
use Rattle.rls_conflict.specs.Known.{has_number, is_running, running_at}
use Rattle.rls_conflict.specs.Kept.{running_seen, known_by}

-- ---- the one under a number

pub some_there : {X : Type 0} (o : Option X) → is_some o ≡ true → (x : X) × (o ≡ Some x)
some_there None is = absurd (true≢false (sym is))
some_there (Some x) is = (x, refl)

pub none_there : {X : Type 0} (o : Option X) → is_some o ≡ false → o ≡ None
none_there None is = refl
none_there (Some x) is = absurd (true≢false is)

-- it is found in what is known where it is found in the map
pub found_running : (locks : Locks) (txn : ℕ) (running : List (ℕ × Begun)) → find (has_number txn) (map (running_seen locks) running) ≡ option_map (λ it. running_seen locks (txn, it)) (at_number txn running)
found_running locks txn [] = refl
found_running locks txn (e ∷ es) = by_tie (nat_eq txn e.0) refl (found_running locks txn es)
  where
    by_tie : (b : Bool) → nat_eq txn e.0 ≡ b → find (has_number txn) (map (running_seen locks) es) ≡ option_map (λ it. running_seen locks (txn, it)) (at_number txn es)
        → find (has_number txn) (map (running_seen locks) (e ∷ es)) ≡ option_map (λ it. running_seen locks (txn, it)) (at_number txn (e ∷ es))
    by_tie true is rest =
        ap (λ b. cond b (Some (running_seen locks e)) (find (has_number txn) (map (running_seen locks) es))) is
        ∙ ap (λ (n : ℕ). Some (running_seen locks (n, e.1))) (sym (same_number txn e.0 is))
        ∙ sym (ap (λ b. option_map (λ it. running_seen locks (txn, it)) (cond b (Some e.1) (at_number txn es))) (number_at txn e.0 ∙ is))
    by_tie false is rest =
        ap (λ b. cond b (Some (running_seen locks e)) (find (has_number txn) (map (running_seen locks) es))) is
        ∙ rest
        ∙ sym (ap (λ b. option_map (λ it. running_seen locks (txn, it)) (cond b (Some e.1) (at_number txn es))) (number_at txn e.0 ∙ is))

mapped : {X Y : Type 0} (f : X → Y) (it : Option X) → is_some (option_map f it) ≡ is_some it
mapped f None = refl
mapped f (Some it) = refl

-- whether one runs
pub runs : (committed : List Committed) (running : List (ℕ × Begun)) (locks : Locks) (txn : ℕ) → is_running (known_by committed running locks) txn ≡ is_some (at_number txn running)
runs committed running locks txn = ap is_some (found_running locks txn running) ∙ mapped (λ it. running_seen locks (txn, it)) (at_number txn running)

-- which one runs
pub running_is : (committed : List Committed) (running : List (ℕ × Begun)) (locks : Locks) (txn : ℕ) (it : Begun) → at_number txn running ≡ Some it
    → running_at (known_by committed running locks) txn ≡ running_seen locks (txn, it)
running_is committed running locks txn it is = ap (λ found. unwrap_or found nobody) (found_running locks txn running ∙ ap (option_map (λ it. running_seen locks (txn, it))) is)

-- ---- a change under one number

-- this is under the number now, and all else is as it was
abbrev pub IsPutAt : ℕ → Option Begun → List (ℕ × Begun) → List (ℕ × Begun) → Type 0
IsPutAt txn now old new = (other : ℕ) → at_number other new ≡ (if nat_eq txn other then now else at_number other old)

-- what a map says of an update
pub put_at : (txn : ℕ) (now : Option Begun) (old new : List (ℕ × Begun))
    → ((other : ℕ) → lookup (is_at (nat_cmp other)) new ≡ cond (is_at (nat_cmp txn) other) now (lookup (is_at (nat_cmp other)) old)) → IsPutAt txn now old new
put_at txn now old new updates other = updates other ∙ ap (λ b. cond b now (at_number other old)) (number_at txn other)

-- as a transaction
abbrev pub as_transaction : ℕ → List Object → Begun → Transaction
as_transaction number objects it = record { number = number; snap = it.snap; noted = objects; changes = it.changes }

-- so it is in what is known
pub put_seen : (locks locks' : Locks) (running running' : List (ℕ × Begun)) (txn : ℕ) (now : Option Begun) (objects : List Object)
    → IsPutAt txn now running running' → noted_by locks' txn ≡ objects → ((other : ℕ) → nat_eq txn other ≡ false → noted_by locks' other ≡ noted_by locks other)
    → (other : ℕ) → find (has_number other) (map (running_seen locks') running') ≡ (if nat_eq txn other then option_map (as_transaction txn objects) now else find (has_number other) (map (running_seen locks) running))
put_seen locks locks' running running' txn now objects puts noted others other = by_number (nat_eq txn other) refl
  where
    same_txn : (n : ℕ) → n ≡ txn → option_map (λ it. running_seen locks' (n, it)) now ≡ option_map (as_transaction txn objects) now
    same_txn n is = λ i. option_map (λ (it : Begun). as_transaction (is i) ((ap (noted_by locks') is ∙ noted) i) it) now

    by_number : (b : Bool) → nat_eq txn other ≡ b → find (has_number other) (map (running_seen locks') running') ≡ (if b then option_map (as_transaction txn objects) now else find (has_number other) (map (running_seen locks) running))
    by_number true is =
        found_running locks' other running'
        ∙ ap (option_map (λ it. running_seen locks' (other, it))) (puts other ∙ ap (λ b. cond b now (at_number other running)) is)
        ∙ same_txn other (sym (same_number txn other is))
    by_number false is =
        found_running locks' other running'
        ∙ ap (option_map (λ it. running_seen locks' (other, it))) (puts other ∙ ap (λ b. cond b now (at_number other running)) is)
        ∙ (λ i. option_map (λ (it : Begun). as_transaction other (others other is i) it) (at_number other running))
        ∙ sym (found_running locks other running)

-- what each has noted is as it was, and so is what is seen of those that run
pub same_seen : (locks locks' : Locks) (running : List (ℕ × Begun)) → ((txn : ℕ) → noted_by locks' txn ≡ noted_by locks txn) → map (running_seen locks') running ≡ map (running_seen locks) running
same_seen locks locks' [] same = refl
same_seen locks locks' (e ∷ es) same = λ i. as_transaction e.0 (same e.0 i) e.1 ∷ same_seen locks locks' es same i

-- What is asked of a database holds of the one of numbers.
use Rattle.std.proofs.Common.{◌≡◌, ℕ, ◌==◌, true, Some, List, ◌++◌, refl, sym, inl, inr, ◌⊎◌, eqb-true, eq-eqb}
use Rattle.rls_history.specs.States.{IsAmong, Fits, Agree}
use Rattle.rls_history.specs.Lawful.{PutsAre, IsLawful, IsSetUp, LiesWithin}
use Rattle.rls_history.specs.Numbers.{Asked, Placed, states, conditions, setup, outcome_of, read_by}
use Rattle.rls_history.specs.Numbers.Asked.{Get, Put}
use Rattle.rls_history.proofs.StateLemmas.{among_left, among_right}
use Rattle.rls_history.proofs.StructureLemmas.{dangerous_finds}

-- what two have that are the same
some_is : (a b : ℕ) → Some a ≡ Some b → a ≡ b
some_is a b e = cc

-- a name is itself
same_self : (name : ℕ) → (name == name) ≡ true
same_self name = eq-eqb name name refl

-- states that agree on a name have the same number under it
agree_at : (name : ℕ) (one other : ℕ → ℕ) → Agree states name one other → one name ≡ other name
agree_at name one other agree = let e = rw (same_self name) at (agree name) in some_is (one name) (other name) e

-- the frame law
frame : (txn : ℕ) (asked : Asked) (one other : ℕ → ℕ) → ((o : ℕ) → IsAmong o (read_by asked) → Agree states o one other) → outcome_of txn asked one ≡ outcome_of txn asked other
frame txn (Get name) one other agree = let e = agree_at name one other (agree name (inl refl)) in rw e refl
frame txn (Put name number) one other agree = refl

-- what is asked of changes
turned : (change other : Placed) → (change.name == other.name) ≡ true → (other.name == change.name) ≡ true
turned change other e = eq-eqb _ _ (sym (eqb-true _ _ e))

-- objects show all that stands at a name
fits : (txn : ℕ) (asked : Asked) (state : ℕ → ℕ) → Fits states (outcome_of txn asked state).changes state
fits txn (Get name) state = tt
fits txn (Put name number) state = (λ o. refl, tt)

-- what is asked of statements, of states, and of notes
keeps_number : (txn : ℕ) (asked : Asked) (state : ℕ → ℕ) → (outcome_of txn asked state).next ≡ txn
keeps_number txn (Get name) state = refl
keeps_number txn (Put name number) state = refl

-- what a change leaves
puts : PutsAre states (λ state. Unit {0})
puts = record {
  same_is = λ name other e. eqb-true _ _ e;
  same_self = same_self;
  stays = λ change state o. tt;
  looks = λ change state o name. refl;
}

-- all of it
pub numbers_lawful : IsLawful conditions
numbers_lawful = record {
  puts = puts;
  frame = λ txn asked state other p q agree. frame txn asked state other agree;
  turned = turned;
  same_place = λ change other e. eq-eqb _ _ e;
  in_order = λ state sound. tt;
  fits = λ txn asked state sound goes_on. fits txn asked state;
  sound = λ txn asked state sound goes_on. tt;
  goes_on = λ txn asked state sound goes_on. tt;
  number = keeps_number;
  free = λ txn asked state later sound goes_on other free. tt;
  follows = λ txn asked state sound goes_on name. tt;
  begins = λ txn start state free. tt;
  numbered = λ txn start. refl;
  follows_self = λ name content. tt;
  follows_on = λ name one two three a b. tt;
  free_joined = λ txn mine theirs joined joins a b. tt;
  sound_joined = λ snapshot mine theirs joined changes others a b p apart joins c d. tt;
}

-- notes have all that was noted and read
widens : (noted read : List ℕ) (o : ℕ) → IsAmong o noted ⊎ IsAmong o read → LiesWithin states o (noted ++ read)
widens noted read o among = elim among [
  | inl i ↦ (o, among_left o noted read i, λ name content e. e)
  | inr i ↦ (o, among_right o noted read i, λ name content e. e)
]

-- and of the setup
pub numbers_set_up : IsSetUp conditions setup
numbers_set_up = record { opens = tt; free = λ txn. tt; widens = widens; finds = dangerous_finds }

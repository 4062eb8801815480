-- Questions that take a number of steps, where enough of them change nothing more: such a question needs no number.
use Rattle.std.specs.Prelude.{◌≡◌, refl, ℕ, zero, suc, ◌+◌, ◌≤◌, List, [], ◌∷◌, ◌++◌, Option, Some, None, Result, Ok, Err, length, slice_get}
use Rattle.std.proofs.Common.{arith, ap, sym, ◌∙◌, subst}
use Rattle.std.proofs.lemmas.List.{length-append}
use Rattle.std.proofs.lemmas.Option.{slice_get_past}
use Rattle.rls_value.specs.declared.refusal.Refusal.{Refusal}
use Rattle.rls_value.specs.declared.object.Object.{Object}
use Rattle.rls_recursion.specs.rls_catalog.specs.State.{State, AgreesOn}
use Rattle.rls_recursion.specs.rls_catalog.specs.Membership.{fresh, Within}
use Rattle.rls_recursion.specs.rls_catalog.proofs.Walks.{left, left_all, fresh_few}
use Rattle.rls_guard.specs.rls_source.specs.Readings.{Reading, unread, read_then}
use Rattle.rls_guard.specs.rls_source.specs.Askings.{Asking, IsFramed, known, followed_by}

-- ---- enough steps

-- from so many steps on nothing changes
abbrev pub Settles : {A : Type 0} → (ℕ → Asking A) → (State → ℕ) → Type 0
Settles ask bound = (s : State) (n : ℕ) → bound s ≤ n → (ask n).in_state s ≡ (ask (bound s)).in_state s

pub framed_enough : {A : Type 0} (ask : ℕ → Asking A) (bound : State → ℕ) → Settles ask bound → IsFramed (λ s. (ask (bound s)).in_state s)
framed_enough ask bound settles s other agrees =
    let n : ℕ = bound s + bound other in
    let there : (ask n).in_state s ≡ (ask (bound s)).in_state s = settles s n (omega arith) in
    sym (settles other n (omega arith)) ∙ (ask n).framed s other (subst (λ r. AgreesOn s other r.reads) (sym there) agrees) ∙ there

-- as many steps as the state needs
abbrev pub asked_enough : {A : Type 0} (ask : ℕ → Asking A) (bound : State → ℕ) → Settles ask bound → Asking A
asked_enough ask bound settles = record { in_state = λ s. (ask (bound s)).in_state s; framed = framed_enough ask bound settles }

-- ---- a choice by what was found

-- the one where something was found, else the other
abbrev pub by_found : {A : Type 0} {B : Type 0} → Option A → (A → B) → B → B
by_found (Some a) some none = some a
by_found None some none = none

pub framed_found : {A B : Type 0} (found : Option A) (some : A → Asking B) (none : Asking B) → IsFramed (λ s. by_found found (λ a. (some a).in_state s) (none.in_state s))
framed_found (Some a) some none = (some a).framed
framed_found None some none = none.framed

-- the same of questions
abbrev pub asked_found : {A B : Type 0} → Option A → (A → Asking B) → Asking B → Asking B
asked_found found some none = record { in_state = λ s. by_found found (λ a. (some a).in_state s) (none.in_state s); framed = framed_found found some none }

-- ---- a walk over names, each visited once

-- so many visits, from the name at the index on: what each tells, names that it leads to being added
abbrev pub collect : {X : Type 0} → (List ℕ → Asking X) → (X → List (List ℕ)) → ℕ → List (List ℕ) → ℕ → Asking (List X)
collect ask next zero names i = known (Ok [])
collect ask next (suc n) names i = asked_found (slice_get names i)
    (λ name. followed_by (ask name) (λ x. followed_by (collect ask next n (names ++ fresh names (next x)) (suc i)) (λ rest. known (Ok (x ∷ rest)))))
    (known (Ok []))

-- what is asked leads to these names alone
abbrev pub LeadsWithin : {X : Type 0} → (List ℕ → Asking X) → (X → List (List ℕ)) → (State → List (List ℕ)) → Type 0
LeadsWithin ask next names = (s : State) (name : List ℕ) → (x : _) → ((ask name).in_state s).gives ≡ Ok x → Within (next x) (names s)

then_same : {A B : Type 0} (given : Result A Refusal) (reads : List Object) (one other : A → Reading B) → ((a : A) → given ≡ Ok a → one a ≡ other a)
    → read_then (record { gives = given; reads = reads }) one ≡ read_then (record { gives = given; reads = reads }) other
then_same (Ok a) reads one other same = ap (λ reading. record { gives = reading.gives; reads = reads ++ reading.reads }) (same a refl)
then_same (Err refusal) reads one other same = refl

pub collect_end : {X : Type 0} (ask : List ℕ → Asking X) (next : X → List (List ℕ)) (n : ℕ) (s : State) (names : List (List ℕ)) (i : ℕ) → slice_get names i ≡ None → (collect ask next n names i).in_state s ≡ unread (Ok [])
collect_end ask next zero s names i past = refl
collect_end ask next (suc n) s names i past = λ z. by_found (past z) (λ name. read_then ((ask name).in_state s) (λ x. read_then ((collect ask next n (names ++ fresh names (next x)) (suc i)).in_state s) (λ rest. unread (Ok (x ∷ rest))))) (unread (Ok []))

pub collect_step : {X : Type 0} (ask : List ℕ → Asking X) (next : X → List (List ℕ)) (n : ℕ) (s : State) (names : List (List ℕ)) (i : ℕ) (name : List ℕ) → slice_get names i ≡ Some name
    → (collect ask next (suc n) names i).in_state s ≡ read_then ((ask name).in_state s) (λ x. read_then ((collect ask next n (names ++ fresh names (next x)) (suc i)).in_state s) (λ rest. unread (Ok (x ∷ rest))))
collect_step ask next n s names i name found = λ z. by_found (found z) (λ name. read_then ((ask name).in_state s) (λ x. read_then ((collect ask next n (names ++ fresh names (next x)) (suc i)).in_state s) (λ rest. unread (Ok (x ∷ rest))))) (unread (Ok []))

finished_if : {X : Type 0} (ask : List ℕ → Asking X) (next : X → List (List ℕ)) (all : State → List (List ℕ)) → LeadsWithin ask next all
    → (found : Option (List ℕ)) (n m : ℕ) (s : State) (names : List (List ℕ)) (i : ℕ) → slice_get names i ≡ found → length names + left (all s) names ≤ i + suc n
    → ((grown : List (List ℕ)) → length grown + left (all s) grown ≤ suc i + n → (collect ask next m grown (suc i)).in_state s ≡ (collect ask next n grown (suc i)).in_state s)
    → (collect ask next (suc m) names i).in_state s ≡ (collect ask next (suc n) names i).in_state s
finished_if ask next all within None n m s names i past few further = collect_end ask next (suc m) s names i past ∙ sym (collect_end ask next (suc n) s names i past)
finished_if ask next all within (Some name) n m s names i found few further =
    collect_step ask next m s names i name found
    ∙ then_same ((ask name).in_state s).gives ((ask name).in_state s).reads
    (λ x. read_then ((collect ask next m (names ++ fresh names (next x)) (suc i)).in_state s) (λ rest. unread (Ok (x ∷ rest))))
    (λ x. read_then ((collect ask next n (names ++ fresh names (next x)) (suc i)).in_state s) (λ rest. unread (Ok (x ∷ rest))))
    (λ x is. ap (λ reading. read_then reading (λ rest. unread (Ok (x ∷ rest))))
    (further (names ++ fresh names (next x)) (omega (arith, few, length-append names (fresh names (next x)), fresh_few (all s) names (next x) (within s name x is)))))
    ∙ sym (collect_step ask next n s names i name found)

pub collect_finished : {X : Type 0} (ask : List ℕ → Asking X) (next : X → List (List ℕ)) (all : State → List (List ℕ)) → LeadsWithin ask next all
    → (n m : ℕ) (s : State) (names : List (List ℕ)) (i : ℕ) → length names + left (all s) names ≤ i + n → n ≤ m → (collect ask next m names i).in_state s ≡ (collect ask next n names i).in_state s
collect_finished ask next all within zero m s names i few more = collect_end ask next m s names i (slice_get_past names i (omega (arith, few)))
collect_finished ask next all within (suc n) zero s names i few more = absurd (omega (arith, more))
collect_finished ask next all within (suc n) (suc m) s names i few more =
    finished_if ask next all within (slice_get names i) n m s names i refl few (λ grown fewer. collect_finished ask next all within n m s grown (suc i) fewer (omega (arith, more)))

-- how many visits are enough
abbrev pub visits : (State → List (List ℕ)) → List (List ℕ) → State → ℕ
visits all start s = length start + length (all s)

pub collect_settles : {X : Type 0} (ask : List ℕ → Asking X) (next : X → List (List ℕ)) (all : State → List (List ℕ)) (start : List (List ℕ)) → LeadsWithin ask next all
    → Settles (λ n. collect ask next n start 0) (visits all start)
collect_settles ask next all start within s n more = collect_finished ask next all within (visits all start s) n s start 0 (omega (arith, left_all (all s) start)) more

-- what the names tell, and those that they lead to, each once
abbrev pub asked_all : {X : Type 0} (ask : List ℕ → Asking X) (next : X → List (List ℕ)) (all : State → List (List ℕ)) → LeadsWithin ask next all → List (List ℕ) → Asking (List X)
asked_all ask next all within start = asked_enough (λ n. collect ask next n start 0) (visits all start) (collect_settles ask next all start within)

-- A question to a state: what it gives and reads in each state, with its frame law: in every state that agrees on what
-- it reads it gives the same and reads the same. Each way to put questions together keeps the law, so that it holds of
-- each statement.
use Rattle.std.specs.Prelude.{◌≡◌, refl, List, ◌++◌, Bool, true, false, Result, Ok, Err, if◌then◌else◌}
use Rattle.std.proofs.Common.{ap, ◌∙◌}
use Rattle.rls_catalog.specs.rls_value.specs.declared.refusal.Refusal.{Refusal}
use Rattle.rls_catalog.specs.rls_value.specs.declared.object.Object.{Object}
use Rattle.rls_catalog.specs.State.{State, AgreesOn}
use Rattle.rls_catalog.proofs.StateLaws.{agrees-append}
use Rattle.rls_source.specs.Readings.{Reading, unread, next_reads, read_then, read_settled}

-- it is the same in every state that agrees on what it reads
abbrev pub IsFramed : {A : Type 0} → (State → Reading A) → Type 0
IsFramed read = (s other : State) → AgreesOn s other (read s).reads → read other ≡ read s

-- a question, and that only what it reads counts
pub record Asking (A : Type 0) : Type 0 where
  pub in_state : State → Reading A
  pub framed : IsFramed in_state

-- ---- the laws

next_same : {A B : Type 0} (given : Result A Refusal) (first : List Object) (s other : State) (next : A → Asking B)
    → AgreesOn s other (next_reads given (λ a. (next a).in_state s))
    → read_then (record { gives = given; reads = first }) (λ a. (next a).in_state other) ≡ read_then (record { gives = given; reads = first }) (λ a. (next a).in_state s)
next_same (Ok a) first s other next agrees = ap (λ reading. record { gives = reading.gives; reads = first ++ reading.reads }) ((next a).framed s other agrees)
next_same (Err refusal) first s other next agrees = refl

pub framed_then : {A B : Type 0} (first : Asking A) (next : A → Asking B) → IsFramed (λ s. read_then (first.in_state s) (λ a. (next a).in_state s))
framed_then first next s other agrees =
    let parts = agrees-append s other (first.in_state s).reads (next_reads (first.in_state s).gives (λ a. (next a).in_state s)) agrees in
    ap (λ reading. read_then reading (λ a. (next a).in_state other)) (first.framed s other parts.0)
    ∙ next_same (first.in_state s).gives (first.in_state s).reads s other next parts.1

pub framed_if : {A : Type 0} (b : Bool) (one two : Asking A) → IsFramed (λ s. if b then one.in_state s else two.in_state s)
framed_if true one two s other agrees = one.framed s other agrees
framed_if false one two s other agrees = two.framed s other agrees

pub framed_settled : {A B : Type 0} (first : Asking A) (settle : Result A Refusal → B) → IsFramed (λ s. read_settled (first.in_state s) settle)
framed_settled first settle s other agrees = ap (λ reading. read_settled reading settle) (first.framed s other agrees)

-- ---- the ways to ask

-- what takes no read
abbrev pub known : {A : Type 0} → Result A Refusal → Asking A
known result = record { in_state = λ s. unread result; framed = λ s other agrees. refl }

-- one after another: the first refusal stands
abbrev pub followed_by : {A B : Type 0} → Asking A → (A → Asking B) → Asking B
followed_by first next = record { in_state = λ s. read_then (first.in_state s) (λ a. (next a).in_state s); framed = framed_then first next }

-- the one or the other
abbrev pub asked_if : {A : Type 0} → Bool → Asking A → Asking A → Asking A
asked_if b one two = record { in_state = λ s. if b then one.in_state s else two.in_state s; framed = framed_if b one two }

-- what is asked settles something, also where it is a refusal
abbrev pub settled : {A B : Type 0} → Asking A → (Result A Refusal → B) → Asking B
settled first settle = record { in_state = λ s. read_settled (first.in_state s) settle; framed = framed_settled first settle }

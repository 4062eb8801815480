-- Who asks a state, and what a call over an asker does: it answers a question to that state, and notes what is read for it.
use Rattle.std.specs.Prelude.{◌≡◌, refl, List, ◌++◌, Option, Result, Ok, Err, IfOk, OnOk}
use Rattle.std.specs.Borrow.{Bor}
use Rattle.std.specs.Coded.{Coded, code_by, coded×, coded_list}
use Rattle.std.specs.Option.{option_copied}
use Rattle.rls_catalog.specs.rls_value.specs.declared.object.Object.{Object}
use Rattle.rls_catalog.specs.rls_value.specs.contracts.object.Object as object
use Rattle.rls_catalog.specs.rls_value.specs.declared.refusal.Refusal.{Refusal}
use Rattle.rls_catalog.specs.rls_value.specs.Giving.{Gives, UnlessNoMemory}
use Rattle.rls_catalog.specs.State.{State}
use Rattle.rls_catalog.specs.StateCode.{state_code}
use Rattle.rls_source.specs.Askings.{Asking}

-- the state that is asked, and the objects that were read, in order
pub record Asked : Type 0 where
  pub state : State
  pub reads : List Object

abbrev pub asked_code : Coded Asked
asked_code = code_by (State × List Object) (coded× state_code (coded_list object.the_row.coded)) (λ a. (a.state, a.reads)) (λ p. record { state = p.0; reads = p.1 }) (λ _. refl)

-- where these were read besides
abbrev pub having_read : Asked → List Object → Asked
having_read asked objects = record { state = asked.state; reads = asked.reads ++ objects }

-- unless memory ran out the call gives what is asked and has noted what is read for it
pub record Answers {A : Type 0} (asking : Asking A) (old new : Asked) (result : Result A Refusal) : Type 0 where
  pub given : Gives result (asking.in_state old.state).gives
  pub noted : UnlessNoMemory result (new ≡ having_read old (asking.in_state old.state).reads)

-- the same of a call that fails for want of memory alone
pub record Tells {A E : Type 0} (asking : Asking A) (old new : Asked) (result : Result A E) : Type 0 where
  pub given : IfOk result (λ a. (asking.in_state old.state).gives ≡ Ok a)
  pub noted : OnOk result (new ≡ having_read old (asking.in_state old.state).reads)

-- what a call gives that may find nothing, and lends what it finds
abbrev pub copied_now : {A E : Type 0} → Result (Option (Bor A)) E → Result (Option A) E
copied_now (Ok found) = Ok (option_copied found)
copied_now (Err refused) = Err refused

-- what a call gives that lends it
abbrev pub lent_now : {A E : Type 0} → Result (Bor A) E → Result A E
lent_now (Ok lent) = Ok lent.now
lent_now (Err refused) = Err refused

-- at a turn of a loop: what is left to ask leads to the whole
abbrev pub Leads : {A : Type 0} → Asking A → Asking A → Asked → Asked → Type 0
Leads whole rest start now = record {
  state : now.state ≡ start.state;
  given : (whole.in_state start.state).gives ≡ (rest.in_state start.state).gives;
  noted : now.reads ++ (rest.in_state start.state).reads ≡ start.reads ++ (whole.in_state start.state).reads;
}

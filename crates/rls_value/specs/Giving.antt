-- What a call that may refuse gives.
use Rattle.std.specs.Prelude.{◌≡◌, Result, Ok, Err}
use Rattle.std.specs.Borrow.{Bor}
use Rattle.rls_value.specs.declared.refusal.Refusal.{Refusal}
use Rattle.rls_value.specs.declared.refusal.Refusal.TheVariants.{NoMemory}

-- a refusal is the one that is meant, unless memory ran out
abbrev pub Fails : {A : Type 0} → Refusal → Result A Refusal → Type 0
Fails NoMemory meant = Unit {0}
Fails refusal meant = meant ≡ Err refusal

-- a call gives what is meant, unless memory ran out
abbrev pub Gives : {A : Type 0} → Result A Refusal → Result A Refusal → Type 0
Gives (Ok a) meant = meant ≡ Ok a
Gives (Err refusal) meant = Fails refusal meant

-- what holds of a call that memory didn't end
abbrev pub UnlessNoMemory : {A : Type 0} → Result A Refusal → Type 0 → Type 0
UnlessNoMemory (Ok a) fact = fact
UnlessNoMemory (Err NoMemory) fact = Unit {0}
UnlessNoMemory (Err refusal) fact = fact

-- the first refusal stands
abbrev pub and_then : {A B : Type 0} → Result A Refusal → (A → Result B Refusal) → Result B Refusal
and_then (Ok a) next = next a
and_then (Err refusal) next = Err refusal

-- what a call gives that borrows it
abbrev pub borrowed_now : {A : Type 0} → Result (Bor A) Refusal → Result A Refusal
borrowed_now (Ok a) = Ok a.now
borrowed_now (Err refusal) = Err refusal

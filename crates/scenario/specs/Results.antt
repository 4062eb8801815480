-- Values that may have been refused.
use Rattle.std.specs.Prelude.{Bool, true, false, Result, Ok, Err}
use Rattle.rls_value.specs.declared.refusal.Refusal.{Refusal}
use Rattle.rls_value.specs.declared.refusal.Refusal.TheVariants as r

-- both values, or the refusal of the first that was refused
abbrev pub both_of : {A B : Type 0} → Result A Refusal → Result B Refusal → Result (A × B) Refusal
both_of (Ok one) (Ok other) = Ok (one, other)
both_of (Ok one) (Err refusal) = Err refusal
both_of (Err refusal) other = Err refusal

-- the value, unless what was done with it was refused
abbrev pub value_after : {T : Type 0} → T → Result (Unit {0}) Refusal → Result T Refusal
value_after value (Ok done) = Ok value
value_after value (Err refusal) = Err refusal

-- want of memory
abbrev pub is_memory : Refusal → Bool
is_memory r.NoMemory = true
is_memory refusal = false

-- a question that was answered with yes
abbrev pub is_so : Result Bool Refusal → Bool
is_so (Ok answer) = answer
is_so (Err refusal) = false

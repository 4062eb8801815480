-- A script that is held in memory.
use Rattle.std.specs.Prelude.{ℕ, Bool, true, false, List, take, Option, Some, None}

-- what was given of it: what stands before the next byte's place, and all of it once the end was reached
abbrev pub given_of : List ℕ → Option ℕ → List ℕ
given_of script (Some place) = take place script
given_of script None = script

-- whether the end was reached
abbrev pub is_ended : Option ℕ → Bool
is_ended (Some place) = false
is_ended None = true

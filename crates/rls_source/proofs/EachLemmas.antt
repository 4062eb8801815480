-- What a turn of a loop leaves to go through, where the first refusal stands.
use Rattle.std.proofs.Common.{ℕ, List, ◌++◌, Ok, drop}
use Rattle.std.specs.Prelude.{Result}
use Rattle.rls_catalog.specs.rls_value.specs.declared.refusal.Refusal.{Refusal}
use Rattle.rls_catalog.specs.rls_value.specs.Giving.{and_then}
use Rattle.rls_source.specs.Sequences.{each_of}

-- what is given, in front of what is left
abbrev pub left : {A B : Type 0} → (A → Result B Refusal) → List B → List A → ℕ → Result (List B) Refusal
left give done xs i = and_then (each_of give (drop i xs)) (λ rest. Ok (done ++ rest))

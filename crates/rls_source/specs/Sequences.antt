-- Lists that are gone through in order, where the first refusal stands.
use Rattle.std.specs.Prelude.{List, [], ◌∷◌, ◌++◌, Bool, take, drop, Result, Ok}
use Rattle.std.specs.List.{position_or_len}
use Rattle.rls_catalog.specs.rls_value.specs.declared.refusal.Refusal.{Refusal}
use Rattle.rls_catalog.specs.rls_value.specs.Giving.{and_then}

-- what each of a list gives
abbrev pub each_of : {A B : Type 0} → (A → Result B Refusal) → List A → Result (List B) Refusal
each_of give [] = Ok []
each_of give (x ∷ xs) = and_then (give x) (λ y. and_then (each_of give xs) (λ ys. Ok (y ∷ ys)))

-- each of a list has to pass
abbrev pub each_or_refused : {A : Type 0} → (A → Result (Unit {0}) Refusal) → List A → Result (Unit {0}) Refusal
each_or_refused test [] = Ok tt
each_or_refused test (x ∷ xs) = and_then (test x) (λ _. each_or_refused test xs)

-- a new one before the first that passes the test, or behind the last
abbrev pub put_before : {A : Type 0} → (A → Bool) → A → List A → List A
put_before test x xs = take (position_or_len test xs) xs ++ x ∷ drop (position_or_len test xs) xs

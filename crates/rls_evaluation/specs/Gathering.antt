-- Lists that are gone through, each element asked in turn.
use Rattle.std.specs.Prelude.{List, [], ◌∷◌, Bool, true, false, Ok}
use Rattle.rls_value.specs.declared.value.Value.{Value}
use Rattle.rls_source.specs.Askings.{Asking, known, followed_by}

-- each is asked in turn, and what it tells is put to what those behind it come to
abbrev pub gathered : {A B R : Type 0} → (A → B → R → R) → R → (A → Asking B) → List A → Asking R
gathered put none ask [] = known (Ok none)
gathered put none ask (x ∷ xs) = followed_by (ask x) (λ y. followed_by (gathered put none ask xs) (λ rest. known (Ok (put x y rest))))

-- the row in front of the others, if it is kept
abbrev pub with_row : List Value → Bool → List (List Value) → List (List Value)
with_row row true rows = row ∷ rows
with_row row false rows = rows

-- the rows that are to be kept
abbrev pub kept : (List Value → Asking Bool) → List (List Value) → Asking (List (List Value))
kept ask rows = gathered with_row [] ask rows

-- What belongs together in two lists, as a loop finds it.
use Rattle.std.specs.Prelude.{◌≡◌, ◌<◌, ◌≤◌, ◌+◌, ◌++◌, ℕ, suc, List, [], ◌∷◌, length, get_or, map}
use Rattle.std.specs.List.{AllZip, flat_map}
use Rattle.std.proofs.Common.{sym, ap, subst, ◌∙◌, take, arith, append-nil, append_assoc}
use Rattle.std.proofs.Math.Seq.{take-suc}
use Rattle.std.proofs.lemmas.List.{take_all}

-- one more of both, or several
pub zip_append : {A B : Type 0} (R : A → B → Type 0) (xs us : List A) (ys vs : List B) → AllZip R xs ys → AllZip R us vs → AllZip R (xs ++ us) (ys ++ vs)
zip_append R [] us [] vs h k = k
zip_append R [] us (y ∷ ys) vs h k = absurd h
zip_append R (x ∷ xs) us [] vs h k = absurd h
zip_append R (x ∷ xs) us (y ∷ ys) vs h k = (h.0, zip_append R xs us ys vs h.1 k)

-- one more
pub zip_more : {A B : Type 0} (R : A → B → Type 0) (xs : List A) (ys : List B) (i : ℕ) (x : A) (y : B) → i < length ys → y ≡ get_or ys i y → AllZip R xs (take i ys) → R x y → AllZip R (xs ++ x ∷ []) (take (i + 1) ys)
zip_more R xs ys i x y lt is all r =
    let next : suc i ≡ i + 1 = omega arith in
    subst (λ n. AllZip R (xs ++ x ∷ []) (take n ys)) next (subst (AllZip R (xs ++ x ∷ [])) (sym (take-suc ys i y lt ∙ ap (λ z. take i ys ++ (z ∷ [])) (sym is))) (zip_append R xs (x ∷ []) (take i ys) (y ∷ []) all (r, tt)))

-- no more
pub zip_whole : {A B : Type 0} (R : A → B → Type 0) (xs : List A) (ys : List B) (i : ℕ) → length ys ≤ i → AllZip R xs (take i ys) → AllZip R xs ys
zip_whole R xs ys i over all = subst (AllZip R xs) (take_all i ys over) all

-- where whatever belongs to those that are left completes the lists, it does so once the next one is taken
pub zip_next : {A B : Type 0} (R : A → B → Type 0) (xs : List A) (x : A) (y : B) (left all : List B) → R x y
    → ((more : List A) → AllZip R more (y ∷ left) → AllZip R (xs ++ more) all) → (more : List A) → AllZip R more left → AllZip R ((xs ++ x ∷ []) ++ more) all
zip_next R xs x y left all r completes more zipped = subst (λ zs. AllZip R zs all) (sym (append_assoc xs (x ∷ []) more)) (completes (x ∷ more) (r, zipped))

-- and where none is left, they are complete
pub zip_none : {A B : Type 0} (R : A → B → Type 0) (xs : List A) (left all : List B) → left ≡ []
    → ((more : List A) → AllZip R more left → AllZip R (xs ++ more) all) → AllZip R xs all
zip_none R xs left all none completes = subst (λ zs. AllZip R zs all) (append-nil xs) (completes [] (subst (AllZip R []) (sym none) tt))

-- what a function gives of each, one behind the other, with one more
flat_push : {X Y Z : Type 0} (f : Y → List Z) (g : X → Y) (xs : List X) (x : X) → flat_map f (map g (xs ++ x ∷ [])) ≡ flat_map f (map g xs) ++ f (g x)
flat_push f g [] x = append-nil (f (g x))
flat_push f g (y ∷ ys) x = ap (λ zs. f (g y) ++ zs) (flat_push f g ys x) ∙ sym (append_assoc (f (g y)) (flat_map f (map g ys)) (f (g x)))

-- the same of the first of a list
pub flat_more : {X Y Z : Type 0} (f : Y → List Z) (g : X → Y) (xs : List X) (i : ℕ) (x : X) → i < length xs → x ≡ get_or xs i x → flat_map f (map g (take (i + 1) xs)) ≡ flat_map f (map g (take i xs)) ++ f (g x)
flat_more f g xs i x lt is =
    let next : suc i ≡ i + 1 = omega arith in
    subst (λ n. flat_map f (map g (take n xs)) ≡ flat_map f (map g (take i xs)) ++ f (g x)) next
    (ap (λ ys. flat_map f (map g ys)) (take-suc xs i x lt ∙ ap (λ z. take i xs ++ (z ∷ [])) (sym is)) ∙ flat_push f g (take i xs) x)

-- That each of a list is such, as a loop finds it.
use Rattle.std.specs.Prelude.{◌≡◌, ◌<◌, ◌≤◌, ◌+◌, ◌++◌, ℕ, suc, List, [], ◌∷◌, length, get_or}
use Rattle.std.specs.List.{All}
use Rattle.std.proofs.Common.{sym, ap, subst, ◌∙◌, take, arith}
use Rattle.std.proofs.Math.Seq.{take-suc}
use Rattle.std.proofs.lemmas.List.{take_all}
use Rattle.std.proofs.lemmas.List.Elements.{All-append, All-cons, All-nil}

-- one that isn't
pub apart : {X : Type 0} (P : X → Type 0) (xs : List X) (i : ℕ) (x : X) → i < length xs → x ≡ get_or xs i x → ¬ P x → All P xs → ⊥
apart P xs i x lt is not all = not (subst P (sym is) (all i x lt))

-- one more
pub more : {X : Type 0} (P : X → Type 0) (xs : List X) (i : ℕ) (x : X) → i < length xs → x ≡ get_or xs i x → P x → All P (take i xs) → All P (take (i + 1) xs)
more P xs i x lt is p all =
    let next : suc i ≡ i + 1 = omega arith in
    subst (λ n. All P (take n xs)) next (subst (All P) (sym (take-suc xs i x lt ∙ ap (λ y. take i xs ++ (y ∷ [])) (sym is))) (All-append P (take i xs) (x ∷ []) all (All-cons P x [] p (All-nil P))))

-- no more
pub whole : {X : Type 0} (P : X → Type 0) (xs : List X) (i : ℕ) → length xs ≤ i → All P (take i xs) → All P xs
whole P xs i over all = subst (All P) (take_all i xs over) all

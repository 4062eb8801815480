-- What a turn of the loop over parts leaves to resolve.
use Rattle.std.proofs.Common.{◌≡◌, ℕ, suc, ◌+◌, ◌<◌, List, [], ◌∷◌, ◌++◌, ap, sym, ◌∙◌, refl, drop, length, get_or, arith}
use Rattle.std.proofs.Math.Seq.{drop-cons, drop-length}
use Rattle.rls_expr.specs.Terms.{Term, Terms, End, More, terms_of}
use Rattle.rls_expr.specs.Resolving.{Names, in_front, resolved, resolved_all}

pub in_front-push : (all : List Term) (x : Term) (us : Terms) → in_front all (More x us) ≡ in_front (all ++ x ∷ []) us
in_front-push [] x us = refl
in_front-push (t ∷ all) x us = ap (λ ts. More t ts) (in_front-push all x us)

pub in_front-end : (all : List Term) → in_front all End ≡ terms_of all
in_front-end [] = refl
in_front-end (t ∷ all) = ap (λ ts. More t ts) (in_front-end all)

pub drop_next : (parts : List Term) (i : ℕ) (p : Term) → i < length parts → p ≡ get_or parts i p → drop i parts ≡ p ∷ drop (i + 1) parts
drop_next parts i p h is = drop-cons parts i p h ∙ (λ j. sym is j ∷ drop (next j) parts)
  where
    next : suc i ≡ i + 1
    next = omega arith

-- what is resolved, in front of what is left to resolve
abbrev pub left : List Term → List Term → ℕ → Names → Terms
left all parts i names = in_front all (resolved_all (terms_of (drop i parts)) names)

-- one turn of the loop
pub resolved_turn : (all next parts : List Term) (i : ℕ) (p x : Term) (names : Names) → i < length parts → p ≡ get_or parts i p → x ≡ resolved p names
    → next ≡ all ++ x ∷ [] → left next parts (i + 1) names ≡ left all parts i names
resolved_turn all next parts i p x names h is found pushed =
    ap (λ those. left those parts (i + 1) names) pushed
    ∙ sym (in_front-push all x (resolved_all (terms_of (drop (i + 1) parts)) names))
    ∙ ap (λ t. in_front all (More t (resolved_all (terms_of (drop (i + 1) parts)) names))) found
    ∙ ap (λ ts. in_front all (resolved_all (terms_of ts) names)) (sym (drop_next parts i p h is))

-- its end
pub resolved_end : (all parts : List Term) (i : ℕ) (names : Names) → i ≡ length parts → terms_of all ≡ left all parts i names
resolved_end all parts i names e =
    sym (in_front-end all)
    ∙ ap (λ ts. in_front all (resolved_all (terms_of ts) names)) (sym (ap (λ n. drop n parts) e ∙ drop-length parts))

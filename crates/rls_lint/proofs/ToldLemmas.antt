-- Findings of mistakes, one behind another.
use Rattle.std.specs.Prelude.{◌≡◌, refl, ℕ, List, [], ◌∷◌, ◌++◌, Result, Ok, Err, IfOk, map}
use Rattle.std.proofs.Common.{ap, append_assoc, sym, ◌∙◌}
use Rattle.rls_expr.specs.Scopes.{InScope}
use Rattle.rls_catalog.specs.State.{State}
use Rattle.rls_lint.specs.declared.finding.Finding.{Finding}
use Rattle.rls_lint.specs.declared.finding.Mistake.{Mistake}
use Rattle.rls_lint.specs.declared.named.Named.{Named}
use Rattle.rls_lint.specs.Findings.{findings_among, findings_of, told_of}
use Rattle.rls_lint.specs.Naming.{IsNamed}

-- those of both are those of the one, then those of the other
pub told_both : (from : InScope) (xs ys : List Mistake) → told_of from (xs ++ ys) ≡ told_of from xs ++ told_of from ys
told_both from [] ys = refl
told_both from (x ∷ xs) ys = ap (λ rest. record { table = from.0; mistake = x } ∷ rest) (told_both from xs ys)

-- those of the one, and then those of the other
behind : (from : InScope) (xs : List Finding) (a b : List Mistake) → (xs ++ told_of from a) ++ told_of from b ≡ xs ++ told_of from (a ++ b)
behind from xs a b = append_assoc xs (told_of from a) (told_of from b) ∙ ap (λ rest. xs ++ rest) (sym (told_both from a b))

-- what is found among the roles and the tables that a state has is what is found in it
pub found_in_state : {E : Type 0} (r : Result (List Finding) E) (s : State) (named : Named) (roles : List (List ℕ)) → roles ≡ map (λ entry. entry.0) named.roles
    → IfOk r (λ found. found ≡ findings_among s roles named.tables) → IsNamed s named → IfOk r (λ found. found ≡ findings_of s)
found_in_state (Ok found) s named roles listed same is = same ∙ (λ i. findings_among s (listed i) named.tables) ∙ (λ i. findings_among s (map (λ entry. entry.0) (is.roles i)) (is.tables i))
found_in_state (Err refused) s named roles listed same is = tt

-- one behind another they are those of all
pub told_all : (from : InScope) (xs : List Finding) (a b c d e f g h i j k l : List Mistake) → (((((((((((xs ++ told_of from a) ++ told_of from b) ++ told_of from c) ++ told_of from d) ++ told_of from e) ++ told_of from f) ++ told_of from g) ++ told_of from h) ++ told_of from i) ++ told_of from j) ++ told_of from k) ++ told_of from l ≡ xs ++ told_of from (a ++ (b ++ (c ++ (d ++ (e ++ (f ++ (g ++ (h ++ (i ++ (j ++ (k ++ l)))))))))))
told_all from xs a b c d e f g h i j k l =
    let x1 : List Finding = xs ++ told_of from a in
    let x2 : List Finding = x1 ++ told_of from b in
    let x3 : List Finding = x2 ++ told_of from c in
    let x4 : List Finding = x3 ++ told_of from d in
    let x5 : List Finding = x4 ++ told_of from e in
    let x6 : List Finding = x5 ++ told_of from f in
    let x7 : List Finding = x6 ++ told_of from g in
    let x8 : List Finding = x7 ++ told_of from h in
    let x9 : List Finding = x8 ++ told_of from i in
    let x10 : List Finding = x9 ++ told_of from j in
    behind from x10 k l
    ∙ behind from x9 j (k ++ l)
    ∙ behind from x8 i (j ++ (k ++ l))
    ∙ behind from x7 h (i ++ (j ++ (k ++ l)))
    ∙ behind from x6 g (h ++ (i ++ (j ++ (k ++ l))))
    ∙ behind from x5 f (g ++ (h ++ (i ++ (j ++ (k ++ l)))))
    ∙ behind from x4 e (f ++ (g ++ (h ++ (i ++ (j ++ (k ++ l))))))
    ∙ behind from x3 d (e ++ (f ++ (g ++ (h ++ (i ++ (j ++ (k ++ l)))))))
    ∙ behind from x2 c (d ++ (e ++ (f ++ (g ++ (h ++ (i ++ (j ++ (k ++ l))))))))
    ∙ behind from x1 b (c ++ (d ++ (e ++ (f ++ (g ++ (h ++ (i ++ (j ++ (k ++ l)))))))))
    ∙ behind from xs a (b ++ (c ++ (d ++ (e ++ (f ++ (g ++ (h ++ (i ++ (j ++ (k ++ l))))))))))

-- so are those that one call after another tells of
pub told_each : (from : InScope) (x0 x1 x2 x3 x4 x5 x6 x7 x8 x9 x10 x11 x12 : List Finding) (a b c d e f g h i j k l : List Mistake) → x1 ≡ x0 ++ told_of from a → x2 ≡ x1 ++ told_of from b → x3 ≡ x2 ++ told_of from c → x4 ≡ x3 ++ told_of from d → x5 ≡ x4 ++ told_of from e → x6 ≡ x5 ++ told_of from f → x7 ≡ x6 ++ told_of from g → x8 ≡ x7 ++ told_of from h → x9 ≡ x8 ++ told_of from i → x10 ≡ x9 ++ told_of from j → x11 ≡ x10 ++ told_of from k → x12 ≡ x11 ++ told_of from l → x12 ≡ x0 ++ told_of from (a ++ (b ++ (c ++ (d ++ (e ++ (f ++ (g ++ (h ++ (i ++ (j ++ (k ++ l)))))))))))
told_each from x0 x1 x2 x3 x4 x5 x6 x7 x8 x9 x10 x11 x12 a b c d e f g h i j k l e1 e2 e3 e4 e5 e6 e7 e8 e9 e10 e11 e12 =
    let f1 : x1 ≡ x0 ++ told_of from a = e1 in
    let f2 : x2 ≡ (x0 ++ told_of from a) ++ told_of from b = e2 ∙ ap (λ (x : List Finding). x ++ told_of from b) f1 in
    let f3 : x3 ≡ ((x0 ++ told_of from a) ++ told_of from b) ++ told_of from c = e3 ∙ ap (λ (x : List Finding). x ++ told_of from c) f2 in
    let f4 : x4 ≡ (((x0 ++ told_of from a) ++ told_of from b) ++ told_of from c) ++ told_of from d = e4 ∙ ap (λ (x : List Finding). x ++ told_of from d) f3 in
    let f5 : x5 ≡ ((((x0 ++ told_of from a) ++ told_of from b) ++ told_of from c) ++ told_of from d) ++ told_of from e = e5 ∙ ap (λ (x : List Finding). x ++ told_of from e) f4 in
    let f6 : x6 ≡ (((((x0 ++ told_of from a) ++ told_of from b) ++ told_of from c) ++ told_of from d) ++ told_of from e) ++ told_of from f = e6 ∙ ap (λ (x : List Finding). x ++ told_of from f) f5 in
    let f7 : x7 ≡ ((((((x0 ++ told_of from a) ++ told_of from b) ++ told_of from c) ++ told_of from d) ++ told_of from e) ++ told_of from f) ++ told_of from g = e7 ∙ ap (λ (x : List Finding). x ++ told_of from g) f6 in
    let f8 : x8 ≡ (((((((x0 ++ told_of from a) ++ told_of from b) ++ told_of from c) ++ told_of from d) ++ told_of from e) ++ told_of from f) ++ told_of from g) ++ told_of from h = e8 ∙ ap (λ (x : List Finding). x ++ told_of from h) f7 in
    let f9 : x9 ≡ ((((((((x0 ++ told_of from a) ++ told_of from b) ++ told_of from c) ++ told_of from d) ++ told_of from e) ++ told_of from f) ++ told_of from g) ++ told_of from h) ++ told_of from i = e9 ∙ ap (λ (x : List Finding). x ++ told_of from i) f8 in
    let f10 : x10 ≡ (((((((((x0 ++ told_of from a) ++ told_of from b) ++ told_of from c) ++ told_of from d) ++ told_of from e) ++ told_of from f) ++ told_of from g) ++ told_of from h) ++ told_of from i) ++ told_of from j = e10 ∙ ap (λ (x : List Finding). x ++ told_of from j) f9 in
    let f11 : x11 ≡ ((((((((((x0 ++ told_of from a) ++ told_of from b) ++ told_of from c) ++ told_of from d) ++ told_of from e) ++ told_of from f) ++ told_of from g) ++ told_of from h) ++ told_of from i) ++ told_of from j) ++ told_of from k = e11 ∙ ap (λ (x : List Finding). x ++ told_of from k) f10 in
    let f12 : x12 ≡ (((((((((((x0 ++ told_of from a) ++ told_of from b) ++ told_of from c) ++ told_of from d) ++ told_of from e) ++ told_of from f) ++ told_of from g) ++ told_of from h) ++ told_of from i) ++ told_of from j) ++ told_of from k) ++ told_of from l = e12 ∙ ap (λ (x : List Finding). x ++ told_of from l) f11 in
    f12 ∙ told_all from x0 a b c d e f g h i j k l

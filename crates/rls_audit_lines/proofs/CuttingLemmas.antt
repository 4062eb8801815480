-- What std's calls that cut texts give.
use Rattle.std.specs.Prelude.{◌≡◌, ◌<◌, ℕ, suc, List, [], ◌∷◌, ◌++◌, ◌+◌, ◌==◌, Bool, true, false, if◌then◌else◌, length, drop, get_or, Option, Some, None, option_map, MatchOption}
use Rattle.std.specs.Borrow.{Bor}
use Rattle.std.proofs.Common.{refl, sym, ap, ap₂, ◌∙◌, ◌≢◌, arith, eq-eqb, eqb-true}
use Rattle.std.specs.Str.Pattern.{FindsTextPrefix, LacksTextAt}
use Rattle.std.proofs.lemmas.Str.Pattern.{split_parts, IsSplitOnceResult}
use Rattle.rls_audit_lines.specs.Texts.{cut_at, stripped}
use Rattle.rls_audit_lines.specs.TextLaws.{cut_behind, cut_nowhere}

pub cut_is : (c : ℕ) (bs : List ℕ) (r : Option (Bor (List ℕ) × Bor (List ℕ))) → IsSplitOnceResult c bs r → c < 128 → option_map (λ p. (p.0.now, p.1.now)) r ≡ cut_at c bs
cut_is c bs None h lt = sym (cut_nowhere c bs (split_parts c bs None h lt))
cut_is c bs (Some x) h lt = let p = split_parts c bs (Some x) h lt in sym (ap (cut_at c) p.0 ∙ cut_behind c x.0.now x.1.now p.1)

strip_back : (n x : List ℕ) → stripped n (n ++ x) ≡ Some x
strip_back [] x = refl
strip_back (p ∷ ps) x = rw (eq-eqb p p refl) (strip_back ps x)

strip_split : (n s rest : List ℕ) → stripped n s ≡ Some rest → s ≡ n ++ rest
strip_split [] s rest h = cc
strip_split (p ∷ ps) [] rest h = cc
strip_split (p ∷ ps) (b ∷ bs) rest h = go (λ k. strip_split ps bs rest k) (b == p) refl h
  where
    go : (stripped ps bs ≡ Some rest → bs ≡ ps ++ rest) → (t : Bool) → (b == p) ≡ t → (if◌then◌else◌ {A = Option (List ℕ)} t (stripped ps bs) None) ≡ Some rest → b ∷ bs ≡ p ∷ (ps ++ rest)
    go more true e k = ap₂ (λ x xs. x ∷ xs) (eqb-true b p e) (more k)
    go more false e k = cc

-- what `strip_prefix` says of a text
abbrev pub IsStripped : List ℕ → List ℕ → Option (Bor (List ℕ)) → Type 0
IsStripped n s r = MatchOption r (FindsTextPrefix n s None) (λ x. (k : ℕ) × FindsTextPrefix n s (Some k) × (x.now ≡ drop k s) × (length x.now + k ≡ length s))

none_stripped : (n s : List ℕ) → LacksTextAt n s 0 → (o : Option (List ℕ)) → stripped n s ≡ o → None ≡ o
none_stripped n s h None e = refl
none_stripped n s h (Some rest) e = absurd (h rest (strip_split n s rest e))

pub stripped_is : (n s : List ℕ) (r : Option (Bor (List ℕ))) → IsStripped n s r → option_map (λ rest. rest.now) r ≡ stripped n s
stripped_is n s None h = none_stripped n s h (stripped n s) refl
stripped_is n s (Some x) h =
    let whole : s ≡ n ++ x.now = h.1.1 ∙ ap (λ t. n ++ t) (sym h.2) in
    sym (ap (stripped n) whole ∙ strip_back n x.now)

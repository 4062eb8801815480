-- Words that are read one by one.
use Rattle.std.proofs.Common.{◌≡◌, ℕ, ◌+◌, ◌-◌, ◌<◌, ◌≤◌, true, false, List, [], ◌∷◌, ◌++◌, refl, arith, ap, sym, append_assoc}
use Rattle.rls_text.specs.declared.token.Token.{Token}
use Rattle.std.proofs.Common.{Option, Some, None}
use Rattle.std.specs.Char.{encode_utf8}
use Rattle.rls_text.specs.Words.{with_content, quoted_in, next_quoted, words_in, next_word, is_bad}
use Rattle.rls_text.proofs.Loops.{one_left, none_left, append_end}

pub words_begin : (n : ℕ) (cs : List ℕ) → words_in n cs ≡ [] ++ words_in (n - 0) cs
words_begin n cs = let e : n - 0 ≡ n = omega arith in rw e refl

pub words_none : (front : List Token) (turn end : ℕ) (rest : List ℕ) → turn < end → next_word rest ≡ None → front ++ words_in (end - turn) rest ≡ front
unfolding words_in
words_none front turn end rest h e = rw (one_left turn end h, e) (append_end front)

pub words_end : (front : List Token) (turn end : ℕ) (rest : List ℕ) → end ≤ turn → front ++ words_in (end - turn) rest ≡ front
unfolding words_in
words_end front turn end rest h = rw (none_left turn end h) (append_end front)

pub words_last : (front : List Token) (turn end : ℕ) (rest behind : List ℕ) (token : Token) → turn < end → next_word rest ≡ Some (token, behind) → is_bad token ≡ true
    → front ++ words_in (end - turn) rest ≡ front ++ token ∷ []
unfolding words_in
words_last front turn end rest behind token h e b = rw (one_left turn end h, e, b) refl

pub words_more : (front : List Token) (turn end : ℕ) (rest behind : List ℕ) (token : Token) → turn < end → next_word rest ≡ Some (token, behind) → is_bad token ≡ false
    → front ++ words_in (end - turn) rest ≡ (front ++ token ∷ []) ++ words_in (end - (turn + 1)) behind
unfolding words_in
words_more front turn end rest behind token h e b = rw (one_left turn end h, e, b) (sym (append_assoc front (token ∷ []) (words_in (end - (turn + 1)) behind)))

content_begins : (o : Option (List ℕ × List ℕ)) → with_content [] o ≡ o
unfolding with_content
content_begins None = refl
content_begins (Some x) = refl

content_twice : (xs ys : List ℕ) (o : Option (List ℕ × List ℕ)) → with_content xs (with_content ys o) ≡ with_content (xs ++ ys) o
unfolding with_content
content_twice xs ys None = refl
content_twice xs ys (Some x) = ap (λ z. Some (z, x.1)) (sym (append_assoc xs ys x.0))

pub quoted_begins : (n : ℕ) (cs : List ℕ) → quoted_in n cs ≡ with_content [] (quoted_in (n - 0) cs)
quoted_begins n cs = let e : n - 0 ≡ n = omega arith in rw e (sym (content_begins (quoted_in n cs)))

pub quoted_open : (front : List ℕ) (turn end : ℕ) (rest : List ℕ) → turn < end → next_quoted rest ≡ None → with_content front (quoted_in (end - turn) rest) ≡ None
unfolding quoted_in with_content
quoted_open front turn end rest h e = rw (one_left turn end h, e) refl

pub quoted_out : (front : List ℕ) (turn end : ℕ) (rest : List ℕ) → end ≤ turn → with_content front (quoted_in (end - turn) rest) ≡ None
unfolding quoted_in with_content
quoted_out front turn end rest h = rw (none_left turn end h) refl

pub quoted_ends : (front : List ℕ) (turn end : ℕ) (rest behind : List ℕ) → turn < end → next_quoted rest ≡ Some (None, behind) → with_content front (quoted_in (end - turn) rest) ≡ Some (front, behind)
unfolding quoted_in with_content
quoted_ends front turn end rest behind h e = rw (one_left turn end h, e) (ap (λ z. Some (z, behind)) (append_end front))

pub quoted_more : (front : List ℕ) (turn end c : ℕ) (rest behind : List ℕ) → turn < end → next_quoted rest ≡ Some (Some c, behind)
    → with_content front (quoted_in (end - turn) rest) ≡ with_content (front ++ encode_utf8 c) (quoted_in (end - (turn + 1)) behind)
unfolding quoted_in
quoted_more front turn end c rest behind h e = rw (one_left turn end h, e) (content_twice front (encode_utf8 c) (quoted_in (end - (turn + 1)) behind))

-- A word at which the walk stops ends no beginning of a command, since the walk knows no more than the words up to it.
use Rattle.std.proofs.Common.{◌≡◌, ℕ, suc, ◌+◌, ◌-◌, ◌<◌, ◌≤◌, Bool, true, false, List, [], ◌∷◌, ◌++◌, length, Some, None, refl, arith, sym, ap, subst, ◌∙◌}
use Rattle.std.specs.Prelude.{map, take, if◌then◌else◌}
use Rattle.std.specs.List.{flat_map, list_any}
use Rattle.rls_text.specs.declared.token.Token.{Token as TextToken}
use Rattle.rls_hints.specs.declared.token.Token.{Token}
use Rattle.rls_hints.specs.declared.grammar.Item.{Item}
use Rattle.rls_hints.specs.Walking.{Whatever, End, This, Found, ready_of, behind_one, may_end, is_empty, fault_from, fault_in, fault_of, start}
use Rattle.rls_hints.specs.Beginnings.{seen, IsBlamed}
use Rattle.rls_hints.proofs.Spelled.{spelled_taken}

-- it stops at no earlier place
later : (tokens : List Token) (place : ℕ) (stacks : List (List Item)) (found : ℕ × List (List Item)) → fault_from place stacks tokens ≡ Some found → place ≤ found.0
unfolding fault_from
later [] place stacks found h = go (list_any may_end (ready_of End stacks)) h
  where
    go : (b : Bool) → if◌then◌else◌ {A = Found} b None (Some (place, ready_of Whatever stacks)) ≡ Some found → place ≤ found.0
    go true e = cc
    go false e = let same : (place, ready_of Whatever stacks) ≡ found = cc e in subst (λ f. place ≤ f.0) same (omega arith)
later (token ∷ tokens) place stacks found h = go (λ e. later tokens (suc place) (flat_map (behind_one token) (ready_of (This token) stacks)) found e) (is_empty (flat_map (behind_one token) (ready_of (This token) stacks))) h
  where
    go : (fault_from (suc place) (flat_map (behind_one token) (ready_of (This token) stacks)) tokens ≡ Some found → suc place ≤ found.0)
        → (b : Bool) → if◌then◌else◌ {A = Found} b (Some (place, ready_of Whatever stacks)) (fault_from (suc place) (flat_map (behind_one token) (ready_of (This token) stacks)) tokens) ≡ Some found → place ≤ found.0
    go more true e = let same : (place, ready_of Whatever stacks) ≡ found = cc e in subst (λ f. place ≤ f.0) same (omega arith)
    go more false e = let beyond = more e in omega (arith, beyond)

-- whatever stands behind the word at which it stops
same_behind : (words rest : List TextToken) (place : ℕ) (stacks : List (List Item)) (found : ℕ × List (List Item)) → fault_from place stacks (map seen words) ≡ Some found → found.0 < place + length words
    → fault_from place stacks (map seen (take (suc found.0 - place) words ++ rest)) ≡ Some found
unfolding fault_from
same_behind [] rest place stacks found h inside = let e = later [] place stacks found h in absurd (omega (arith, e, inside))
same_behind (word ∷ words) rest place stacks found h inside = go (λ e less. same_behind words rest (suc place) (flat_map (behind_one (seen word)) (ready_of (This (seen word)) stacks)) found e less) (is_empty (flat_map (behind_one (seen word)) (ready_of (This (seen word)) stacks))) refl h
  where
    go : (fault_from (suc place) (flat_map (behind_one (seen word)) (ready_of (This (seen word)) stacks)) (map seen words) ≡ Some found → found.0 < suc place + length words
        → fault_from (suc place) (flat_map (behind_one (seen word)) (ready_of (This (seen word)) stacks)) (map seen (take (suc found.0 - suc place) words ++ rest)) ≡ Some found)
        → (b : Bool) → is_empty (flat_map (behind_one (seen word)) (ready_of (This (seen word)) stacks)) ≡ b
        → if◌then◌else◌ {A = Found} b (Some (place, ready_of Whatever stacks)) (fault_from (suc place) (flat_map (behind_one (seen word)) (ready_of (This (seen word)) stacks)) (map seen words)) ≡ Some found
        → fault_from place stacks (map seen (take (suc found.0 - place) (word ∷ words) ++ rest)) ≡ Some found
    go more true none e =
        let same : (place, ready_of Whatever stacks) ≡ found = cc e in
        let here : place ≡ found.0 = ap (λ f. f.0) same in
        let one : suc found.0 - place ≡ suc 0 = omega (arith, here) in
        rw (one, none) e
    go more false some e =
        let beyond : suc place ≤ found.0 = later (map seen words) (suc place) _ found e in
        let less : suc found.0 - place ≡ suc (suc found.0 - suc place) = omega (arith, beyond) in
        rw (less, some) (more e (omega (arith, inside)))

-- So it blames no word of a command, and no word with which one goes on.
pub rightly_blamed : (words : List TextToken) (place : ℕ) (ready : List (List Item)) → fault_of (map seen words) ≡ Some (place, ready) → IsBlamed words place
unfolding fault_in
rightly_blamed words place ready h = record {
  inside = λ inside rest command spelled.
      let taken : fault_from 0 (start ∷ []) (map seen (take (place + 1) words ++ rest)) ≡ None = spelled_taken (take (place + 1) words ++ rest) command spelled in
      let e : suc place - 0 ≡ place + 1 = omega arith in
      let within : place < 0 + length words = omega (arith, inside) in
      let stopped : fault_from 0 (start ∷ []) (map seen (take (suc place - 0) words ++ rest)) ≡ Some (place, ready) = same_behind words rest 0 (start ∷ []) (place, ready) h within in
      let here : fault_from 0 (start ∷ []) (map seen (take (place + 1) words ++ rest)) ≡ Some (place, ready) = subst (λ n. fault_from 0 (start ∷ []) (map seen (take n words ++ rest)) ≡ Some (place, ready)) e stopped in
      cc (sym here ∙ taken);
  end = λ _ command spelled.
      let taken : fault_from 0 (start ∷ []) (map seen words) ≡ None = spelled_taken words command spelled in
      let here : fault_from 0 (start ∷ []) (map seen words) ≡ Some (place, ready) = h in
      cc (sym here ∙ taken);
}

-- What is opened again and again.
use Rattle.std.proofs.Common.{◌≡◌, ℕ, zero, suc, ◌+◌, ◌-◌, ◌<◌, ◌≤◌, Bool, true, false, ◌&&◌, List, [], ◌∷◌, refl, arith, sym, subst}
use Rattle.std.specs.Prelude.{map, drop, length, get_or}
use Rattle.std.specs.List.{flat_map, list_all}
use Rattle.std.proofs.lemmas.List.{drop_more}
use Rattle.rls_hints.specs.declared.grammar.Item.{Item}
use Rattle.rls_hints.specs.declared.grammar.Item.TheVariants as i
use Rattle.rls_hints.specs.declared.token.Placed.{Placed}
use Rattle.rls_hints.specs.Walking.{Coming, This, opened, opened_one, ready_of, is_closed, is_empty, behind_one, fault_from}
use Rattle.rls_hints.proofs.PlacedWords.{one_left, none_left}

pub open_begin : (next : Coming) (stacks : List (List Item)) → ready_of next stacks ≡ opened (16 - 1) next (flat_map (opened_one next) stacks)
unfolding ready_of opened
open_begin next stacks = refl

pub open_next : (next : Coming) (turn end : ℕ) (stacks : List (List Item)) → turn < end → opened (end - turn) next stacks ≡ opened (end - (turn + 1)) next (flat_map (opened_one next) stacks)
unfolding opened
open_next next turn end stacks h = rw (one_left turn end h) refl

pub open_end : (next : Coming) (turn end : ℕ) (stacks : List (List Item)) → end ≤ turn → opened (end - turn) next stacks ≡ stacks
unfolding opened
open_end next turn end stacks h = rw (none_left turn end h) refl

both_true : (a b : Bool) → (a && b) ≡ true → (a ≡ true) × (b ≡ true)
both_true true b h = (refl, h)
both_true false b h = cc

closed_one : (next : Coming) (stack : List Item) → is_closed stack ≡ true → opened_one next stack ≡ stack ∷ []
closed_one next [] h = refl
closed_one next (i.Part phrase ∷ rest) h = cc
closed_one next (_ ∷ rest) h = refl

closed_all : (next : Coming) (stacks : List (List Item)) → list_all is_closed stacks ≡ true → flat_map (opened_one next) stacks ≡ stacks
closed_all next [] h = refl
closed_all next (stack ∷ stacks) h =
    let parts = both_true (is_closed stack) (list_all is_closed stacks) h in
    rw (closed_one next stack parts.0, closed_all next stacks parts.1) refl

pub open_closed : (next : Coming) (n : ℕ) (stacks : List (List Item)) → list_all is_closed stacks ≡ true → opened n next stacks ≡ stacks
unfolding opened
open_closed next zero stacks h = refl
open_closed next (suc n) stacks h = rw (closed_all next stacks h) (open_closed next n stacks h)

-- where a word is taken the walk goes on behind it
pub walk_on : (place : ℕ) (stacks behind : List (List Item)) (words : List Placed) (word : Placed) → place < length words → word ≡ get_or words place word → behind ≡ flat_map (behind_one word.token) (ready_of (This word.token) stacks) → is_empty behind ≡ false
    → fault_from place stacks (map (λ w. w.token) (drop place words)) ≡ fault_from (place + 1) behind (map (λ w. w.token) (drop (place + 1) words))
unfolding fault_from
walk_on place stacks behind words word within here e some =
    let none : is_empty (flat_map (behind_one word.token) (ready_of (This word.token) stacks)) ≡ false = subst (λ b. is_empty b ≡ false) e some in
    let next : suc place ≡ place + 1 = omega arith in
    rw (drop_more words place word within, sym here, none, next, e) refl

-- A walk through the words of a line, by the grammar's rules. What may follow is a list of stacks: each has the items that
-- stand one behind another, the next one on top.
use Rattle.std.specs.Prelude.{ℕ, zero, suc, Bool, true, false, not, ◌||◌, if◌then◌else◌, List, [], ◌∷◌, ◌++◌, map, Option, Some, None}
use Rattle.std.specs.List.{filter, flat_map, list_any}
use Rattle.std.specs.Str.{bytes_eq}
use denote.Enum.Bare.{sameb}
use Rattle.rls_value.specs.Names.{reserved}
use Rattle.rls_hints.specs.Keywords.{keyword_text}
use Rattle.rls_hints.specs.Rows.{alternatives}
use Rattle.rls_hints.specs.contracts.token.Mark.{the_type as mark_type}
use Rattle.rls_hints.specs.declared.token.Token.{Token}
use Rattle.rls_hints.specs.declared.token.Token.TheVariants as t
use Rattle.rls_hints.specs.declared.grammar.Item.{Item}
use Rattle.rls_hints.specs.declared.grammar.Item.TheVariants as i
use Rattle.rls_hints.specs.declared.grammar.Phrase.TheVariants as p
use Rattle.rls_hints.specs.declared.walking.Fault.{Fault}
use Rattle.rls_hints.specs.declared.walking.Next.{Next}
use Rattle.rls_hints.specs.declared.walking.Next.TheVariants as n

-- the word is what the item stands for
abbrev pub fits : Item → Token → Bool
fits (i.Word keyword) (t.Word word) = bytes_eq word (keyword_text keyword)
fits (i.Sign sign) (t.Sign other) = sameb mark_type sign other
fits i.Name (t.Word word) = not (reserved word)
fits i.Number t.Number = true
fits i.Text t.Text = true
fits _ _ = false

-- anything may follow: a phrase that isn't opened yet, or what takes all
abbrev pub is_open : Item → Bool
is_open (i.Part phrase) = true
is_open i.Any = true
is_open _ = false

-- what comes next: anything, the end of the line, or this word
pub data Coming : Type 0 where
  Whatever : Coming
  End : Coming
  This : Token → Coming

-- as the code says it
abbrev pub coming_of : Next → Coming
coming_of n.Whatever = Whatever
coming_of n.End = End
coming_of (n.This token) = This token.now

-- the items may stand before what comes next, as far as the first one tells
abbrev pub may_begin : Coming → List Item → Bool
may_begin Whatever items = true
may_begin End [] = true
may_begin End (item ∷ items) = is_open item
may_begin (This token) [] = true
may_begin (This token) (item ∷ items) = is_open item || fits item token

-- a stack with a phrase on top, by those with what may stand for it there
abbrev pub opened_one : Coming → List Item → List (List Item)
opened_one next (i.Part phrase ∷ rest) = map (λ items. items ++ rest) (filter (may_begin next) (alternatives phrase))
opened_one next stack = stack ∷ []

-- again and again
unfoldable pub opened : ℕ → Coming → List (List Item) → List (List Item)
opened zero next stacks = stacks
opened (suc n) next stacks = opened n next (flat_map (opened_one next) stacks)

-- so often that no phrase is left on top, unless the grammar goes round
unfoldable pub ready_of : Coming → List (List Item) → List (List Item)
ready_of = opened 16

-- what stands behind the word, where it may stand on top
abbrev pub behind_one : Token → List Item → List (List Item)
behind_one token [] = []
behind_one token (item ∷ rest) = if is_open item then (i.Any ∷ []) ∷ [] else (if fits item token then rest ∷ [] else [])

-- nothing more has to stand
abbrev pub may_end : List Item → Bool
may_end [] = true
may_end (item ∷ rest) = is_open item

-- what a command begins with
abbrev pub start : List Item
start = i.Part p.Command ∷ i.Part p.Semicolon ∷ []

-- no phrase is on top
abbrev pub is_closed : List Item → Bool
is_closed (i.Part phrase ∷ rest) = false
is_closed stack = true

-- there is none
abbrev pub is_empty : List (List Item) → Bool
is_empty [] = true
is_empty (stack ∷ stacks) = false

-- a word that nothing takes: its place, and what could stand there
abbrev pub Found : Type 0
Found = Option (ℕ × List (List Item))

-- what a fault tells
abbrev pub told : Fault → ℕ × List (List Item)
told fault = (fault.place, fault.ready.items)

-- from a place on, where this may follow: the first word that nothing takes, or the end
unfoldable pub fault_from : ℕ → List (List Item) → List Token → Found
fault_from place stacks [] = if◌then◌else◌ {A = Found} (list_any may_end (ready_of End stacks)) None (Some (place, ready_of Whatever stacks))
fault_from place stacks (token ∷ tokens) = if◌then◌else◌ {A = Found} (is_empty (flat_map (behind_one token) (ready_of (This token) stacks))) (Some (place, ready_of Whatever stacks)) (fault_from (suc place) (flat_map (behind_one token) (ready_of (This token) stacks)) tokens)

-- of all words, where these items are what may begin
unfoldable pub fault_in : List Item → List Token → Found
fault_in items tokens = fault_from 0 (items ∷ []) tokens

-- of a command
abbrev pub fault_of : List Token → Found
fault_of tokens = fault_in start tokens

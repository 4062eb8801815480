use Rattle.std.proofs.Common.{◌≡◌, ◌+◌, ◌*◌, ◌-◌, length, [], ◌∷◌}
use Rattle.std.specs.Prelude.{codes}
use Rattle.rls_text.specs.Gives.{folded}
use Rattle.rls_text.specs.Parses.{read_many}
use Rattle.rls_text.specs.declared.token.Symbol.TheVariants as s
use Rattle.rls_text.specs.Cut as cut
use Rattle.rls_text.specs.FirstSets.{sign_heads}
use Rattle.rls_text.specs.Trees.{with_operand, with_part, with_summand}
use Rattle.rls_text.specs.Heads.{Keyword, Sign}
use Rattle.rls_text.specs.Grammar as g
use Rattle.rls_text.proofs.expression.+expression.Given as goal

abbrev pub decreases-expr : goal.decreases-expr
decreases-expr l = 64 * l.depth + 0

abbrev pub decreases-next_part : goal.decreases-next_part
decreases-next_part l = 64 * l.depth + 1

abbrev pub decreases-more_parts : goal.decreases-more_parts
decreases-more_parts l = 64 * l.depth + 2

abbrev pub decreases-parts : goal.decreases-parts
decreases-parts l = 64 * l.depth + 3

abbrev pub decreases-condition : goal.decreases-condition
decreases-condition l = 64 * l.depth + 5

abbrev pub decreases-selected_from : goal.decreases-selected_from
decreases-selected_from l = 64 * l.depth + 6

abbrev pub decreases-select_parts : goal.decreases-select_parts
decreases-select_parts l = 64 * l.depth + 7

abbrev pub decreases-enclosed_select : goal.decreases-enclosed_select
decreases-enclosed_select l = 64 * l.depth + 8

abbrev pub decreases-exists : goal.decreases-exists
decreases-exists l = 64 * l.depth + 9

abbrev pub decreases-scalar : goal.decreases-scalar
decreases-scalar l = 64 * l.depth + 10

abbrev pub decreases-enclosed : goal.decreases-enclosed
decreases-enclosed l = 64 * l.depth + 11

abbrev pub decreases-in_parentheses : goal.decreases-in_parentheses
decreases-in_parentheses l = 64 * l.depth + 12

abbrev pub decreases-choices : goal.decreases-choices
decreases-choices l = 64 * l.depth + 13

abbrev pub decreases-enclosed_choices : goal.decreases-enclosed_choices
decreases-enclosed_choices l = 64 * l.depth + 14

abbrev pub decreases-in_choices : goal.decreases-in_choices
decreases-in_choices l = 64 * l.depth + 15

abbrev pub decreases-prim : goal.decreases-prim
decreases-prim l = 64 * l.depth + 17

abbrev pub decreases-sum_next : goal.decreases-sum_next
decreases-sum_next l = 64 * l.depth + 18

abbrev pub decreases-sum_more : goal.decreases-sum_more
decreases-sum_more l = 64 * l.depth + 19

abbrev pub decreases-sum : goal.decreases-sum
decreases-sum l = 64 * l.depth + 20

abbrev pub decreases-memb : goal.decreases-memb
decreases-memb l = 64 * l.depth + 21

abbrev pub decreases-right_side : goal.decreases-right_side
decreases-right_side l = 64 * l.depth + 22

abbrev pub decreases-cmp : goal.decreases-cmp
decreases-cmp l = 64 * l.depth + 23

abbrev pub decreases-is : goal.decreases-is
decreases-is l = 64 * l.depth + 24

abbrev pub decreases-not : goal.decreases-not
decreases-not l = 64 * l.depth + 25

abbrev pub decreases-and_next : goal.decreases-and_next
decreases-and_next l = 64 * l.depth + 26

abbrev pub decreases-and_more : goal.decreases-and_more
decreases-and_more l = 64 * l.depth + 27

abbrev pub decreases-and : goal.decreases-and
decreases-and l = 64 * l.depth + 28

abbrev pub decreases-or_next : goal.decreases-or_next
decreases-or_next l = 64 * l.depth + 29

abbrev pub decreases-or_more : goal.decreases-or_more
decreases-or_more l = 64 * l.depth + 30

abbrev pub decreases-or : goal.decreases-or
decreases-or l = 64 * l.depth + 31

-- what is read next is put into what was read
abbrev pub invariant-more_parts-loop-turn : goal.invariant-more_parts-loop-turn
invariant-more_parts-loop-turn l =
    let next = (cut.with_comma (g.expr l.depth)).read in
    folded with_part l.fn.first (read_many (Sign s.Comma ∷ []) next (length l.fn.tokens) l.fn.tokens) ≡ folded with_part l.all (read_many (Sign s.Comma ∷ []) next (l._turn-end - l._turn) l.rest)

-- what is read next is put into what was read
abbrev pub invariant-sum_more-loop-turn : goal.invariant-sum_more-loop-turn
invariant-sum_more-loop-turn l =
    let next = (g.sum_next (g.expr l.depth)).read in
    folded with_summand l.fn.first (read_many sign_heads next (length l.fn.tokens) l.fn.tokens) ≡ folded with_summand l.sum (read_many sign_heads next (l._turn-end - l._turn) l.rest)

-- what is read next is put into what was read
abbrev pub invariant-and_more-loop-turn : goal.invariant-and_more-loop-turn
invariant-and_more-loop-turn l =
    let next = (g.and_next (g.expr l.depth)).read in
    folded with_operand l.fn.first (read_many (Keyword (codes "and") ∷ []) next (length l.fn.tokens) l.fn.tokens) ≡ folded with_operand l.operands (read_many (Keyword (codes "and") ∷ []) next (l._turn-end - l._turn) l.rest)

-- what is read next is put into what was read
abbrev pub invariant-or_more-loop-turn : goal.invariant-or_more-loop-turn
invariant-or_more-loop-turn l =
    let next = (g.or_next (g.expr l.depth)).read in
    folded with_operand l.fn.first (read_many (Keyword (codes "or") ∷ []) next (length l.fn.tokens) l.fn.tokens) ≡ folded with_operand l.operands (read_many (Keyword (codes "or") ∷ []) next (l._turn-end - l._turn) l.rest)

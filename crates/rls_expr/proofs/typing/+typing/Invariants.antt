use Rattle.std.proofs.Common.{◌≡◌, ◌+◌, ◌*◌, drop}
use Rattle.rls_expr.specs.ExprTerms.{query_of}
use Rattle.rls_expr.specs.Terms.{maybe_term, terms_of, term_size, terms_size, query_size}
use Rattle.rls_expr.specs.Typing.{all_typed, all_booleans, all_numbers, among_type}
use Rattle.rls_expr.proofs.typing.+typing.Given as goal

-- the parts passed are typed: what is left decides
abbrev pub invariant-are_typed-loop-part : goal.invariant-are_typed-loop-part
invariant-are_typed-loop-part l = all_typed (terms_of (drop l.part-index l.parts)) ≡ all_typed (terms_of l.parts)

-- the parts passed are booleans: what is left decides
abbrev pub invariant-are_booleans-loop-part : goal.invariant-are_booleans-loop-part
invariant-are_booleans-loop-part l = all_booleans (terms_of (drop l.part-index l.parts)) ≡ all_booleans (terms_of l.parts)

-- the parts passed are whole numbers: what is left decides
abbrev pub invariant-are_numbers-loop-part : goal.invariant-are_numbers-loop-part
invariant-are_numbers-loop-part l = all_numbers (terms_of (drop l.part-index l.parts)) ≡ all_numbers (terms_of l.parts)

-- what was passed fits: what is left decides
abbrev pub invariant-among_typing-loop-part : goal.invariant-among_typing-loop-part
invariant-among_typing-loop-part l = among_type l.left (terms_of (drop l.part-index l.list)) ≡ among_type l.left (terms_of l.list)

-- the size of what is left to type; a list of parts stands above its parts
abbrev pub decreases-typing_of : goal.decreases-typing_of
decreases-typing_of l = 2 * term_size l.expr.now

abbrev pub decreases-query_fits : goal.decreases-query_fits
decreases-query_fits l = 2 * query_size (query_of l.query.now)

abbrev pub decreases-item_typing : goal.decreases-item_typing
decreases-item_typing l = 2 * query_size (query_of l.query.now)

abbrev pub decreases-only_typing : goal.decreases-only_typing
decreases-only_typing l = 2 * terms_size (terms_of l.items.now) + 1

abbrev pub decreases-is_condition : goal.decreases-is_condition
decreases-is_condition l = 2 * terms_size (maybe_term l.condition.now) + 1

abbrev pub decreases-are_typed : goal.decreases-are_typed
decreases-are_typed l = 2 * terms_size (terms_of l.parts.now) + 1

abbrev pub decreases-are_booleans : goal.decreases-are_booleans
decreases-are_booleans l = 2 * terms_size (terms_of l.parts.now) + 1

abbrev pub decreases-are_numbers : goal.decreases-are_numbers
decreases-are_numbers l = 2 * terms_size (terms_of l.parts.now) + 1

abbrev pub decreases-among_typing : goal.decreases-among_typing
decreases-among_typing l = 2 * terms_size (terms_of l.list.now) + 1

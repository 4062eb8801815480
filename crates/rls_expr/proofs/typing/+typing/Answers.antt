use Rattle.std.proofs.Common.{rules, arith}
use Rattle.rls_expr.proofs.TermSizes.{size_at}
use Rattle.rls_expr.proofs.TypingLemmas.{several}
use Rattle.rls_expr.proofs.typing.+typing.Goals as goal

pub are_booleans-typing_of-requires : goal.are_booleans-typing_of-requires
are_booleans-typing_of-requires t c = (omega (arith, size_at _ _ _ c.loop-part-test.true c.part-item.is), search rules)

pub are_numbers-typing_of-requires : goal.are_numbers-typing_of-requires
are_numbers-typing_of-requires t c = (omega (arith, size_at _ _ _ c.loop-part-test.true c.part-item.is), search rules)

pub among_typing-typing_of-requires : goal.among_typing-typing_of-requires
among_typing-typing_of-requires t c = (omega (arith, size_at _ _ _ c.loop-part-test.true c.part-item.is), search rules)

pub are_typed-typing_of-requires : goal.are_typed-typing_of-requires
are_typed-typing_of-requires t c = (omega (arith, size_at _ _ _ c.loop-part-test.true c.part-item.is), search rules)

pub only_typing-returns-in-len2-up : goal.only_typing-returns-in-len2-up
only_typing-returns-in-len2-up t c = several c.args.items.now c.in-len2-up.len_at_least

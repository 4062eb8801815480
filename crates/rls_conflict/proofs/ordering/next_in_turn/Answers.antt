use Rattle.rls_conflict.proofs.ordering.next_in_turn.Goals as goal

pub returns-in_default-clause-next : goal.returns-in_default-clause-next
returns-in_default-clause-next c h is safe are first = c.orders_are_made.ensures.first h _ c.args.first is safe first (c.in_default.ensures.found h are)

pub returns-in-Some-reader_left-clause-kept : goal.returns-in-Some-reader_left-clause-kept
returns-in-Some-reader_left-clause-kept c h are = c.reader_left-2.ensures.kept h (c.reader_left.ensures.kept h are)

pub returns-in-Some-reader_left-clause-next : goal.returns-in-Some-reader_left-clause-next
returns-in-Some-reader_left-clause-next c h is safe are first =
    c.orders_are_made.ensures.third h _ c.args.first c.in-Some.second c.in-Some-reader_left.third is safe first (c.in-Some.ensures.found h are) (c.in-Some-reader_left.ensures.found h (c.reader_left.ensures.kept h are))

pub returns-in-None-clause-kept : goal.returns-in-None-clause-kept
returns-in-None-clause-kept c h are = c.reader_left-2.ensures.kept h (c.reader_left.ensures.kept h are)

pub returns-in-None-clause-next : goal.returns-in-None-clause-next
returns-in-None-clause-next c h is safe are first =
    c.orders_are_made.ensures.second h _ c.args.first c.in-Some.second is safe first (c.in-Some.ensures.found h are) (c.in-None.ensures.found h (c.reader_left.ensures.kept h are))

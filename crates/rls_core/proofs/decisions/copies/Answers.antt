use Rattle.std.proofs.Common.{arith}
use Rattle.rls_core.proofs.SpanLemmas.{said_of}
use Rattle.rls_core.proofs.decisions.copies.Goals as goal

pub copy_span-requires-clause-said : goal.copy_span-requires-clause-said
copy_span-requires-clause-said c = said_of c.args.said.now c.args.spans.now c.loop-span.span-index _ c.requires.spans c.requires.said (omega arith)

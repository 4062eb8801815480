use Rattle.rls_script.proofs.RenderingLemmas.{run_written}
use Rattle.rls_script.proofs.rendering.push_plain.Goals as goal

-- the plain bytes are written as they are
pub returns-clause-pushed : goal.returns-clause-pushed
returns-clause-pushed c = run_written _ _ c.args.bytes.now _ _ c.split_plain.ensures.plain c.split_plain.ensures.behind c.in_ok-extend_from_slice.ensures.items

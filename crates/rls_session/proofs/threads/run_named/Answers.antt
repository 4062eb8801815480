use Rattle.rls_session.proofs.ScriptLemmas.{fresh_as}
use Rattle.rls_session.proofs.TextLemmas.{closed}
use Rattle.rls_session.proofs.threads.run_named.Goals as goal

pub run_engine-requires-clause-fresh : goal.run_engine-requires-clause-fresh
run_engine-requires-clause-fresh g c κs within = fresh_as c.args.terse c.args.keeps c.keeping-notes.result c.keeping-notes.ensures

pub returns-in-Ok-run_engine-clause-text : goal.returns-in-Ok-run_engine-clause-text
returns-in-Ok-run_engine-clause-text g c = closed c.close.result c.args.script.now _ _ _ _ c.args.terse c.args.keeps c.keeping-notes.result c.keeping-notes.ensures c.in_ok-plan.ensures c.in-Ok-run_engine.ensures.text c.close.ensures.records c.close.ensures.tried c.close.ensures.explained

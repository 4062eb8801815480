use Rattle.rls_session.proofs.ScriptLemmas.{booked_text, fresh_as}
use Rattle.rls_session.proofs.script.run_named.Goals as goal

pub run_engine-requires-clause-fresh : goal.run_engine-requires-clause-fresh
run_engine-requires-clause-fresh g c = fresh_as c.args.terse c.args.keeps c.keeping-notes.result c.keeping-notes.ensures

pub returns-in-Ok-run_engine-clause-text : goal.returns-in-Ok-run_engine-clause-text
returns-in-Ok-run_engine-clause-text g c = booked_text c.args.terse c.args.keeps c.keeping-notes.result _ _ c.args.script.now c.run_engine.new.notes c.close.result c.keeping-notes.ensures c.in-Ok-run_engine.ensures.text c.close.ensures.records c.close.ensures.tried c.close.ensures.explained

use Rattle.rls_session.proofs.LabelLemmas.{under_known_as}
use Rattle.rls_session.proofs.labels.Labels.execute_at.Goals as goal

-- the label keeps its place and gets the session
pub returns : goal.returns
returns g c = under_known_as c.args.notes.now c.execute_at.new.notes c.args.self.now c.self.inside.labels.items c.args.command.now c.entry.inside.name c.entry.inside.label c.index_mut-entry.result.now c.args.place c.execute_at.new.self c.execute_at.result c.self.view_is c.requires.place c.entry.view_is c.index_mut-entry.ensures.value c.execute_at.ensures.ok

use Rattle.rls_script.specs.Spelled.{IsSpellable}
use Rattle.rls_session.proofs.threads.run_threads_keeping.Given as goal

abbrev pub ghosts-run_named-N-Ledger : goal.ghosts-run_named-N-Ledger
ghosts-run_named-N-Ledger g a = record { name = a.records.blank.name; parts = a.records.blank.parts }

abbrev pub ghosts-run_named-N-Named : goal.ghosts-run_named-N-Named
ghosts-run_named-N-Named g a = record { commits = a.records.commits; steps = a.records.steps; asks = IsSpellable }

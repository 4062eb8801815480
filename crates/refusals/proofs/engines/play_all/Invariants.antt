use Rattle.refusals.proofs.engines.play_all.Given as goal

abbrev pub ghosts-play_named-N-Ledger : goal.ghosts-play_named-N-Ledger
ghosts-play_named-N-Ledger g a = record { name = a.records.blank.name; parts = a.records.blank.parts }

abbrev pub ghosts-play_named-N-Named : goal.ghosts-play_named-N-Named
ghosts-play_named-N-Named g a = record { commits = a.records.commits; steps = a.records.steps; asks = λ _. Unit {0} }
